use Rattle.std.proofs.Common.{◌≡◌, ◌∙◌, Option, None, Some, ap, refl, subst, sym}
use Rattle.std.specs.Prelude.{is_some, option_map}
use Rattle.transactions.specs.Stored.{part}
use Rattle.tper.specs.Tper.{Tper}
use Rattle.tper.proofs.trusted.Tper.has_transaction.Goals as goal

same-some : {A B : Type 0} (f : A → B) (x : Option A) → is_some (option_map f x) ≡ is_some x
same-some f None = refl
same-some f (Some x) = refl

pub returns-clause-stands : goal.returns-clause-stands
returns-clause-stands c =
    subst (λ (t : Tper). c.is_some.result ≡ is_some (part t.store c.args.sp).pending) c.self.view_is
    (c.is_some.ensures ∙ ap is_some c.open_on.ensures ∙ same-some _ _)

pub returns-clause-told : goal.returns-clause-told
returns-clause-told c = λ o past k.
    returns-clause-stands c
    ∙ sym (same-some (λ t. t.tsn) (part c.args.self.now.store c.args.sp).pending)
    ∙ ap is_some ((k.store.parts c.args.sp).transaction)
