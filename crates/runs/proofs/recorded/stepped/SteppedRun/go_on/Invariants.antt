use Rattle.std.proofs.Common.{◌≡◌, length}
use Rattle.tool.specs.Scripts.{script_lines}
use Rattle.runs.specs.Stepped.{RunStands}
use Rattle.runs.proofs.recorded.LineByLine.{CameSo}
use Rattle.runs.proofs.recorded.stepped.SteppedRun.go_on.Given as goal

abbrev pub invariant-loop-rest : goal.invariant-loop-rest
invariant-loop-rest l = RunStands l.self × (l.self.explains ≡ l.initial.self.explains)
    × CameSo l.initial.self l.self l.options (script_lines l.rest) (script_lines l.text)

abbrev pub decreases-loop-rest : goal.decreases-loop-rest
decreases-loop-rest l = length l.rest
