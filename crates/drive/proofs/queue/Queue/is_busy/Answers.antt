use Rattle.std.proofs.Common.{◌∙◌, ap, arith, sym, is_some, None}
use Rattle.std.proofs.lemmas.List.{get_or_default}
use Rattle.drive.specs.Queue.{slot_at, held_at}
use Rattle.drive.proofs.Below.{any_below_at, none_below}
use Rattle.drive.proofs.Commands.{held-some}
use Rattle.drive.proofs.queue.Queue.is_busy.Goals as goal

pub returns-then-is_some : goal.returns-then-is_some
returns-then-is_some c =
    let here = held-some (slot_at c.args.self.now.slots c.loop-tag.tag) ∙ ap is_some (get_or_default c.args.self.now.slots c.loop-tag.tag None c.index-self-tag.result (omega (arith, c.loop-tag-test.true))) ∙ sym c.if-is_some.ensures in
    sym (any_below_at (λ tag. is_some (held_at c.args.self.now tag)) 32 c.loop-tag.tag here c.loop-tag-test.true)

pub returns : goal.returns
returns c = sym (none_below (λ tag. is_some (held_at c.args.self.now tag)) 32 (λ k lt. held-some (slot_at c.args.self.now.slots k) ∙ c.loop-tag.invariant k (omega (arith, lt, c.loop-tag-test.false))))
