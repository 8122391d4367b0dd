use Rattle.std.proofs.Common.{ap, sym}
use Rattle.locked_port.specs.Seats.{Seated}
use Rattle.locked_port.proofs.tag_board.Bits.{tested}
use Rattle.locked_port.proofs.tag_board.seat.TagSeat.holds.Goals as goal

pub returns : goal.returns
returns c = rw (c.mask.ensures.bit, ap (λ (s : Seated). s.held) (sym c.self.view_is)) (tested c.self.inside.held c.args.tag)
