use Rattle.std.proofs.Common.{◌≡◌, ◌++◌, length}
use Rattle.tool.specs.Scripts.{script_lines}
use Rattle.runs.proofs.explored.lines.Lines.of_script.Given as goal

abbrev pub invariant-loop-rest : goal.invariant-loop-rest
invariant-loop-rest l = l.lines ++ script_lines l.rest ≡ script_lines l.text

abbrev pub decreases-loop-rest : goal.decreases-loop-rest
decreases-loop-rest l = length l.rest
