use Rattle.std.proofs.Common.{◌≡◌, ◌≤◌, drop}
use Rattle.sp_cells.specs.Expressions.{completes}
use Rattle.sp_cells.proofs.trees.is_complete.Given as goal

-- the rest completes what is waiting as the whole does
abbrev pub invariant-loop-element : goal.invariant-loop-element
invariant-loop-element l = (completes l.waiting (drop l.element-index l.elements) ≡ completes 0 l.elements) × (l.waiting ≤ l.element-index)
