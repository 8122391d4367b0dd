use Rattle.std.proofs.Common.{◌≡◌, length}
use Rattle.opalport.proofs.exploration.file_texts.Given as goal

abbrev pub invariant-loop-i : goal.invariant-loop-i
invariant-loop-i g l = length l.texts ≡ l.i
