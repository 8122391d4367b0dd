use Rattle.std.proofs.Common.{◌≡◌, ℕ, ap, sym, ◌∙◌, arith, bit_or, bit_and, nat_eq, false}
use Rattle.std.proofs.lemmas.Nat.{or_lt}
use Rattle.std.proofs.lemmas.Bool.Decides.{nat_tests}
use Rattle.std.specs.Arc.{arc_value}
use Rattle.atomic_table.specs.Seated.{TableId}
use Rattle.locked_port.proofs.tag_board.Steps.{claims}
use Rattle.locked_port.proofs.tag_board.Told.{free_told, taken_told}
use Rattle.locked_port.proofs.tag_board.seat.TagSeat.try_tag.Goals as goal

pub fetch_or-found-requires : goal.fetch_or-found-requires
fetch_or-found-requires c =
    let i = c.self.invariant in
    let one : (arc_value c.self.inside.word).shared.table_id.words ≡ 1 = ap (λ (t : TableId). t.words) (sym i.0) ∙ i.1 in
    rw (c.deref.ensures, c.mask-mask.ensures.bit) (i.0, omega arith, claims (arc_value c.self.inside.word).shared.table_id.slots c.self.inside.place.id c.args.tag c.self.inside.place.me c.mask-mask.ensures.below)

pub invariant_of-self : goal.invariant_of-self
invariant_of-self c =
    let i = c.self.invariant in
    let e = c.fetch_or-found.ensures in
    let t = free_told 0 c.args.tag c.mask-mask.result c.fetch_or-found.result c.self.inside.place.me c.fetch_or-found.new.seat.me e.2 c.mask-mask.ensures.bit c.if-free.true in
    (e.0 ∙ i.0, ap (λ (t : TableId). t.words) e.0 ∙ i.1, ap (λ (t : TableId). t.slots) e.0 ∙ i.2, ap (λ v. v.held) t.0 ∙ ap (λ (n : ℕ). bit_or n c.mask-mask.result) i.3, t.1 ∙ i.4, or_lt 64 c.self.inside.held c.mask-mask.result i.5 c.mask-mask.type_inv)

pub invariant_of-self-else-free : goal.invariant_of-self-else-free
invariant_of-self-else-free c =
    let i = c.self.invariant in
    let e = c.fetch_or-found.ensures in
    let t = taken_told 0 c.args.tag c.mask-mask.result c.fetch_or-found.result c.self.inside.place.me c.fetch_or-found.new.seat.me e.2 c.mask-mask.ensures.bit c.if-free.false in
    (e.0 ∙ i.0, ap (λ (t : TableId). t.words) e.0 ∙ i.1, ap (λ (t : TableId). t.slots) e.0 ∙ i.2, ap (λ v. v.held) t.0 ∙ i.3, t.1 ∙ i.4, i.5)

pub returns-then-free-clause-tried : goal.returns-then-free-clause-tried
returns-then-free-clause-tried c =
    let i = c.self.invariant in
    let e = c.fetch_or-found.ensures in
    let t = free_told 0 c.args.tag c.mask-mask.result c.fetch_or-found.result c.self.inside.place.me c.fetch_or-found.new.seat.me e.2 c.mask-mask.ensures.bit c.if-free.true in
    let k : ℕ = c.args.tag in
    rw (← c.self.view_is, c.if-free.true)
    (λ j. record { board = e.0 j; held = bit_or c.self.inside.held (c.mask-mask.ensures.bit j); tried = (ap (λ v. v.tried) t.0) j })

pub returns-then-free-clause-free : goal.returns-then-free-clause-free
returns-then-free-clause-free c =
    let i = c.self.invariant in
    let e = c.fetch_or-found.ensures in
    let t = free_told 0 c.args.tag c.mask-mask.result c.fetch_or-found.result c.self.inside.place.me c.fetch_or-found.new.seat.me e.2 c.mask-mask.ensures.bit c.if-free.true in
    λ _. rw (← c.self.view_is, ← i.3) t.2

pub returns-else-free-clause-tried : goal.returns-else-free-clause-tried
returns-else-free-clause-tried c =
    let i = c.self.invariant in
    let e = c.fetch_or-found.ensures in
    let t = taken_told 0 c.args.tag c.mask-mask.result c.fetch_or-found.result c.self.inside.place.me c.fetch_or-found.new.seat.me e.2 c.mask-mask.ensures.bit c.if-free.false in
    let ne : nat_eq (bit_and c.fetch_or-found.result c.mask-mask.result) 0 ≡ false = grind (arith, nat_tests, c.if-free.false) in
    rw (← c.self.view_is, ne) (λ j. record { board = e.0 j; held = c.self.inside.held; tried = (ap (λ v. v.tried) t.0) j })
