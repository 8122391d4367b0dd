use Rattle.std.proofs.Common.{◌≡◌, length}
use Rattle.tool.specs.Scripts.{script_lines}
use Rattle.judged.specs.Answers.{lines_kept}
use Rattle.judged.specs.Judgements.{are_same}
use Rattle.judged.proofs.answers.are_said.Given as goal

abbrev pub invariant-loop-rest : goal.invariant-loop-rest
invariant-loop-rest l =
    are_same l.left (lines_kept l.whole (script_lines l.rest)) ≡ are_same l.answers (lines_kept l.whole (script_lines l.said))

abbrev pub decreases-loop-rest : goal.decreases-loop-rest
decreases-loop-rest l = length l.rest
