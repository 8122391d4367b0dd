use Rattle.std.proofs.Common.{◌≡◌, ◌∙◌, ℕ, List, IfOk, subst, sym, ap}
use Rattle.basics.specs.declared.profile.Profile.{Profile}
use Rattle.device_data.specs.Identity.{identity, identity_in}
use Rattle.device_data.proofs.identify.identity_of.Goals as goal

pub returns-in-Base : goal.returns-in-Base
returns-in-Base c =
    subst (λ (p : Profile). IfOk c.identity.result (λ v. v.items ≡ identity_in p c.args.config.now c.args.settings.now)) (sym c.in-Base.is ∙ c.profile.ensures)
    (subst (λ (n : ℕ). IfOk c.identity.result (λ v. v.items ≡ identity n)) c.sectors.ensures.value c.identity.ensures)

pub returns-in-Field : goal.returns-in-Field
returns-in-Field c =
    subst (λ (p : Profile). IfOk c.field_identity.result (λ v. v.items ≡ identity_in p c.args.config.now c.args.settings.now)) (sym c.in-Field.is ∙ c.profile.ensures)
    c.field_identity.ensures

pub returns-in-Opal : goal.returns-in-Opal
returns-in-Opal c =
    subst (λ (p : Profile). IfOk c.opal_identity.result (λ v. v.items ≡ identity_in p c.args.config.now c.args.settings.now)) (sym c.in-Opal.is ∙ c.profile.ensures)
    c.opal_identity.ensures
