use Rattle.std.proofs.Common.{IfSome}
use Rattle.std.specs.Io.Buffered.{reader_remaining}
use Rattle.tool.specs.Openings.{opens_with}
use Rattle.tool.specs.Scripts.{lines_from, drive_kind}
use Rattle.runs.specs.Recordings.{recording_of_lines}
use Rattle.runs.proofs.recorded.Fronts.{StillFront}
use Rattle.runs.proofs.recorded.script.front_lines.Given as goal

abbrev pub invariant-loop-number : goal.invariant-loop-number
invariant-loop-number g l =
    IfSome (reader_remaining g.R.Read.remaining l.initial.reader)
    (λ text. StillFront l.explains l.remarks l.number
    (recording_of_lines l.explains (drive_kind l.remarks) (opens_with l.options) (lines_from l.remarks 0 l.initial.line.items text))
    l.front l.line.items (reader_remaining g.R.Read.remaining l.reader))
