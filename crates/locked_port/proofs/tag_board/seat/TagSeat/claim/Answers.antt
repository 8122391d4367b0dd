use Rattle.std.proofs.Common.{ℕ, ap, ◌∙◌, not}
use Rattle.std.specs.Int.{bit_at}
use Rattle.locked_port.specs.Seats.{Seated, after_try}
use Rattle.locked_port.proofs.tag_board.Bits.{or_same}
use Rattle.locked_port.proofs.tag_board.seat.TagSeat.claim.Goals as goal

pub returns-then-try_tag-clause-holds : goal.returns-then-try_tag-clause-holds
returns-then-try_tag-clause-holds c =
    let k : ℕ = c.low_bits-tag.result in
    ap (λ (s : Seated). bit_at s.held k) c.try_tag.ensures.tried
    ∙ ap (λ b. bit_at (after_try k (not b) c.loop-number.self).held k) c.if-try_tag.true
    ∙ or_same c.loop-number.self.held k
