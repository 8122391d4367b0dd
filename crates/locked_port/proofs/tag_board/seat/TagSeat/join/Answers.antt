use Rattle.std.proofs.Common.{◌≡◌, ap, sym, ◌∙◌, arith, bit_or}
use Rattle.std.specs.Arc.{arc_value}
use Rattle.std.proofs.lemmas.Nat.{or_lt}
use Rattle.atomic_table.specs.Seated.{TableId}
use Rattle.locked_port.specs.Seats.{Seated}
use Rattle.locked_port.proofs.tag_board.Steps.{joins, looks}
use Rattle.locked_port.proofs.tag_board.seat.TagSeat.join.Goals as goal

pub join_seat-requires : goal.join_seat-requires
join_seat-requires c =
    let i = c.self.invariant in
    let one : (arc_value c.self.inside.word).shared.table_id.words ≡ 1 = ap (λ (t : TableId). t.words) (sym i.0) ∙ i.1 in
    let there = ap (λ (s : Seated). s.board) c.other.view_is ∙ c.requires ∙ ap (λ (s : Seated). s.board) (sym c.self.view_is) ∙ i.0 in
    rw c.deref.ensures (i.0, there, c.other.invariant.4, omega arith, joins c.self.inside.place.id c.other.inside.place.id c.self.inside.place.me.0 c.other.inside.place.me.0)

pub load-requires : goal.load-requires
load-requires c =
    let i = c.self.invariant in
    let e = c.join_seat.ensures in
    let one : (arc_value c.self.inside.word).shared.table_id.words ≡ 1 = ap (λ (t : TableId). t.words) (sym i.0) ∙ i.1 in
    rw c.deref-2.ensures (e.0 ∙ i.0, omega arith, looks (arc_value c.self.inside.word).shared.table_id.slots c.join_seat.new.seat.id c.join_seat.new.seat.me)

pub invariant_of-result : goal.invariant_of-result
invariant_of-result c =
    let i = c.self.invariant in
    let o = c.other.invariant in
    let e = c.join_seat.ensures in
    let l = c.load.ensures in (
      l.0 ∙ e.0 ∙ i.0,
      ap (λ (t : TableId). t.words) (l.0 ∙ e.0) ∙ i.1,
      ap (λ (t : TableId). t.slots) (l.0 ∙ e.0) ∙ i.2,
      ap (λ v. v.held) l.2.0 ∙ ap (λ m. m.0.held) e.2 ∙ (λ j. bit_or (i.3 j) (o.3 j)),
      l.2.1 ∙ ap (λ m. m.1) e.2 ∙ i.4,
      or_lt 64 c.self.inside.held c.other.inside.held i.5 o.5,
    )
