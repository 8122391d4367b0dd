use Rattle.std.proofs.Common.{◌≡◌, ap, sym, ◌∙◌, arith}
use Rattle.std.specs.Arc.{arc_value}
use Rattle.atomic_table.specs.Seated.{TableId}
use Rattle.locked_port.proofs.tag_board.Steps.{splits}
use Rattle.locked_port.proofs.tag_board.seat.TagSeat.split.Goals as goal

pub split_seat-place-requires : goal.split_seat-place-requires
split_seat-place-requires c =
    let i = c.self.invariant in
    let d = c.deref.ensures ∙ c.in_ok-word.ensures in
    let one : (arc_value c.self.inside.word).shared.table_id.words ≡ 1 = ap (λ (t : TableId). t.words) (sym i.0) ∙ i.1 in
    rw d (i.0, omega arith, splits c.self.inside.place.id c.self.inside.place.me.0)
