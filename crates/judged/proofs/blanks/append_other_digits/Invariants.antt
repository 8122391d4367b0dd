use Rattle.std.proofs.Common.{◌≡◌, ◌++◌, map, drop}
use Rattle.judged.specs.Blanks.{other_digit}
use Rattle.judged.proofs.blanks.append_other_digits.Given as goal

abbrev pub invariant-loop-byte : goal.invariant-loop-byte
invariant-loop-byte l = l.text ++ map other_digit (drop l.byte-index l.bytes) ≡ l.fn.text ++ map other_digit l.bytes
