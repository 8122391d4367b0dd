use Rattle.std.proofs.Common.{IfSome}
use Rattle.std.specs.Io.Buffered.{reader_remaining}
use Rattle.history.specs.Opening.{Origin}
use Rattle.tool.specs.Scripts.{lines_from}
use Rattle.tool.specs.Courses.{Course, PhaseRunsOn, PhaseStands}
use Rattle.runs.specs.Recordings.{recording_on}
use Rattle.runs.proofs.recorded.Running.{AtHand}
use Rattle.runs.proofs.recorded.script.running_lines.Given as goal

abbrev pub invariant-loop-before : goal.invariant-loop-before
invariant-loop-before g l =
    PhaseStands l.run
    × ((o : Origin) (course : Course) → PhaseRunsOn l.initial.run o course
    → IfSome (reader_remaining g.R.Read.remaining l.initial.reader)
    (λ text. AtHand l.remarks l.before
    (recording_on o course l.initial.report.last.items
    (lines_from l.remarks l.lines l.initial.line.items text)) o
    l.run l.report.last.items l.line.items (reader_remaining g.R.Read.remaining l.reader)
    (g.W.Write.contents l.initial.output) (g.W.Write.contents l.output)
    l.initial.report.pending.items l.report.pending.items
    (λ base came. g.K.Recorder.holds base l.initial.recorder came)
    (λ base came. g.K.Recorder.holds base l.recorder came)))
