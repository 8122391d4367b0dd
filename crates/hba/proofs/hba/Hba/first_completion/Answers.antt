-- The least that may be done, or none.
use Rattle.std.proofs.Common.{◌≡◌, ℕ, false, ap, sym, ◌∙◌, subst, arith}
use borrow.Author.Count.{below_more}
use Rattle.hba.specs.declared.work.Work.TheVariants as works
use Rattle.hba.specs.History.{State}
use Rattle.hba.specs.Ready.{completable, is_ready_on}
use Rattle.hba.proofs.Works.{first_completion, no_completion}
use Rattle.hba.proofs.Tags.{none_completed}
use Rattle.hba.proofs.hba.Hba.first_completion.Goals as goal

pub returns-then-tags-eq0 : goal.returns-then-tags-eq0
returns-then-tags-eq0 c =
    let is = c.completable-tags.ensures ∙ ap (λ (s : State). completable s.registers) c.self.view_is in
    sym (no_completion (is_ready_on c.args.self.now) (λ n below. none_completed c.args.self.now c.completable-tags.result n is c.if-tags-eq0.true))

pub returns-then-can_complete : goal.returns-then-can_complete
returns-then-can_complete c =
    sym (first_completion (is_ready_on c.args.self.now) c.low_bits-tag.result (omega arith) (sym c.can_complete.ensures ∙ c.if-can_complete.true)
    (λ n below. c.loop-number.invariant n (omega arith)))

pub loop-number-preserved : goal.loop-number-preserved
loop-number-preserved c =
    let P : ℕ → Type 0 = λ n. is_ready_on c.args.self.now (works.Complete n) ≡ false in
    let here : c.low_bits-tag.result ≡ c.loop-number.number = omega arith in
    below_more P c.loop-number.number c.loop-number.invariant (subst P here (sym c.can_complete.ensures ∙ c.if-can_complete.false))

pub returns : goal.returns
returns c =
    sym (no_completion (is_ready_on c.args.self.now) (λ n below. c.loop-number.invariant n (omega arith)))
