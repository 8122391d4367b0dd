use Rattle.std.proofs.Common.{length}
use Rattle.hba_program.proofs.hba_wire.wire.Wire.+read_pieces.Given as goal

abbrev pub decreases-read_pieces : goal.decreases-read_pieces
decreases-read_pieces g l = length l.room.now
