use Rattle.std.proofs.Common.{ℕ, ◌%◌, Some, ap, sym, ◌∙◌}
use Rattle.shadow_mbr.proofs.indexes.Indexes.get.Goals as goal

pub returns-then-it-number : goal.returns-then-it-number
returns-then-it-number c =
    let its = ap (λ (n : ℕ). Some (n, c.in-Some.index)) c.if-it-number.true in
    let entry = rw c.deref.ensures.value at c.in-Some.ensures in
    rw (sym c.self.view_is)
    (sym (c.self.invariant (c.args.number % 64) c.args.number c.in-Some.index (sym entry ∙ its)))
