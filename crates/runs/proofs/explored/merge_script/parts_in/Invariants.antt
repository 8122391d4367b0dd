use Rattle.std.proofs.Common.{◌≡◌, Some, drop}
use Rattle.std.specs.List.{fold}
use Rattle.runs.specs.Merges.{with_part_in, parts_in}
use Rattle.runs.proofs.explored.merge_script.parts_in.Given as goal

abbrev pub invariant-loop-i : goal.invariant-loop-i
invariant-loop-i g l = fold with_part_in (Some l.parts) (drop l.i l.texts) ≡ parts_in l.texts
