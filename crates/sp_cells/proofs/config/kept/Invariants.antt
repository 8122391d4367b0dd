use Rattle.std.proofs.Common.{◌≡◌, take}
use Rattle.sp_cells.proofs.config.kept.Given as goal

abbrev pub invariant-loop-byte : goal.invariant-loop-byte
invariant-loop-byte g l = l.copy.items ≡ take l.byte-index l.bytes
