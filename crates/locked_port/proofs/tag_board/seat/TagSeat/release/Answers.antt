use Rattle.std.proofs.Common.{◌≡◌, ℕ, ap, sym, ◌∙◌, arith}
use Rattle.std.specs.Int.{bit_at}
use Rattle.std.specs.Arc.{arc_value}
use Rattle.std.proofs.lemmas.Nat.Bits.{bit_at_above}
use Rattle.atomic_table.specs.Seated.{TableId}
use Rattle.locked_port.specs.Seats.{Seated}
use Rattle.locked_port.proofs.tag_board.Bits.{keep_same, keep_other}
use Rattle.locked_port.proofs.tag_board.Steps.{frees}
use Rattle.locked_port.proofs.tag_board.seat.TagSeat.release.Goals as goal

pub fetch_and-requires : goal.fetch_and-requires
fetch_and-requires c =
    let i = c.self.invariant in
    let one : (arc_value c.self.inside.word).shared.table_id.words ≡ 1 = ap (λ (t : TableId). t.words) (sym i.0) ∙ i.1 in
    let k : ℕ = c.args.tag in
    let has : bit_at c.self.inside.place.me.0.held k ≡ 1 = ap (λ (n : ℕ). bit_at n k) (i.3 ∙ ap (λ (s : Seated). s.held) c.self.view_is) ∙ c.requires in
    rw (c.deref.ensures, c.mask-keep.ensures.bit) (i.0, omega arith, frees (arc_value c.self.inside.word).shared.table_id.slots c.self.inside.place.id k c.self.inside.place.me c.mask-keep.ensures.below has)

pub returns-clause-gone : goal.returns-clause-gone
returns-clause-gone c = let r = c.mask-keep.ensures.below in rw c.mask-keep.ensures.bit (keep_same c.self.inside.held c.args.tag (omega arith))

pub returns-clause-others : goal.returns-clause-others
returns-clause-others c = λ k ne.
    let r = c.mask-keep.ensures.below in
    rw (← c.self.view_is, c.mask-keep.ensures.bit) (keep_other c.self.inside.held c.args.tag k (omega arith) (λ h. bit_at_above c.self.inside.held 64 k c.self.invariant.5 h) ne)
