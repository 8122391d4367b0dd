use Rattle.std.proofs.Common.{◌≡◌, ◌*◌, ◌++◌, length, take, drop}
use Rattle.hex.specs.Hex.{encode_lower}
use Rattle.basics.proofs.text.spell_hex.Given as goal

abbrev pub invariant-loop-i : goal.invariant-loop-i
invariant-loop-i l = record {
  long : length l.room ≡ 2 * length l.bytes;
  spelt : take (2 * l.i) l.room ++ encode_lower (drop l.i l.bytes) ≡ encode_lower l.bytes;
}
