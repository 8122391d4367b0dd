use Rattle.std.proofs.Common.{◌≡◌, ◌++◌, drop}
use Rattle.judged.proofs.pairs.copied.Given as goal

abbrev pub invariant-loop-line : goal.invariant-loop-line
invariant-loop-line l = l.copy ++ drop l.line-index l.lines ≡ l.lines
