use Rattle.std.proofs.Common.{IfSome, ◌∷◌}
use Rattle.std.specs.Io.Buffered.{reader_remaining}
use Rattle.tool.specs.Scripts.{bare, with_numbers, script_lines}
use Rattle.tool.proofs.Outcomes.{StillSkips}
use Rattle.tool.proofs.script.skip_remarks.Given as goal

abbrev pub invariant-loop-number : goal.invariant-loop-number
invariant-loop-number g l =
    IfSome (reader_remaining g.R.Read.remaining l.initial.reader)
    (λ text. StillSkips l.remarks l.number (with_numbers 0 (bare l.initial.line.items ∷ script_lines text)) l.line.items
    (reader_remaining g.R.Read.remaining l.reader))
