use Rattle.std.proofs.Common.{IfSome}
use Rattle.std.specs.Io.Buffered.{reader_remaining}
use Rattle.tool.specs.Scripts.{lines_from}
use Rattle.tool.specs.Openings.{opens_with}
use Rattle.tool.specs.Outcomes.{outcome_from}
use Rattle.tool.proofs.Outcomes.{StillOpens}
use Rattle.tool.proofs.script.opening_lines.Given as goal

abbrev pub invariant-loop-number : goal.invariant-loop-number
invariant-loop-number g l =
    IfSome (reader_remaining g.R.Read.remaining l.initial.reader)
    (λ text. StillOpens l.head l.number
    (outcome_from l.head.explains l.head.kind (opens_with l.options)
    (lines_from l.head.remarks l.head.lines l.initial.line.items text))
    l.phase l.line.items (reader_remaining g.R.Read.remaining l.reader))
