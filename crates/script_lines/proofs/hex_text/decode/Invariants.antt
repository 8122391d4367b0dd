use Rattle.std.proofs.Common.{◌≡◌, ◌*◌, length, take, drop}
use Rattle.hex.specs.Hex.{decode_pairs}
use Rattle.hex.proofs.Pairs.{prepend}
use Rattle.script_lines.proofs.hex_text.decode.Given as goal

abbrev pub invariant-loop-i : goal.invariant-loop-i
invariant-loop-i l = record {
  long : length l.room ≡ length l.fn.room;
  decoded : decode_pairs 0 l.digits ≡ prepend (take l.i l.room) (decode_pairs (2 * l.i) (drop (2 * l.i) l.digits));
}
