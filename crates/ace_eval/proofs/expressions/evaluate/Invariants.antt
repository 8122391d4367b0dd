use Rattle.std.proofs.Common.{◌≡◌, ◌≤◌, length, drop, []}
use Rattle.ace_eval.specs.Evaluation.{run}
use Rattle.ace_eval.proofs.expressions.evaluate.Given as goal

-- the rest runs as the whole does
abbrev pub invariant-loop-element : goal.invariant-loop-element
invariant-loop-element l = record {
  runs : run l.held (drop l.element-index l.elements) l.stack ≡ run l.held l.elements [];
  room : length l.stack ≤ l.element-index;
}
