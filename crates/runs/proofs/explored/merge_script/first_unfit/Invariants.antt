use Rattle.std.proofs.Common.{◌≡◌, ◌+◌, drop}
use Rattle.runs.specs.Merges.{all_fit}
use Rattle.runs.proofs.explored.merge_script.first_unfit.Given as goal

abbrev pub invariant-loop-i : goal.invariant-loop-i
invariant-loop-i l = all_fit l.first (l.i + 1) (drop l.i l.parts) ≡ all_fit l.first 1 l.parts
