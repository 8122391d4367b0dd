use Rattle.std.proofs.Common.{length}
use Rattle.hba_program.proofs.hba_wire.wire.Wire.+write_pieces.Given as goal

abbrev pub decreases-write_pieces : goal.decreases-write_pieces
decreases-write_pieces g l = length l.bytes.now
