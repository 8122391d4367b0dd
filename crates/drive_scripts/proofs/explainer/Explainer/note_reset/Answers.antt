use Rattle.std.proofs.Common.{◌∙◌, ◌∷◌, refl, subst, sym, ap}
use Rattle.history.specs.History.{Reset}
use Rattle.history.specs.Resets.{reset_kind_number}
use Rattle.reasons.specs.declared.explained.onset.Cause.TheVariants.{ResetBy}
use Rattle.reasons.specs.Onsets.{from_source, bare_acts}
use Rattle.drive_scripts.specs.Kept.{RecountsAll}
use Rattle.drive_scripts.proofs.Added.{attributed_one}
use Rattle.drive_scripts.proofs.explainer.Explainer.note_reset.Goals as goal

pub returns : goal.returns
returns c = λ o past agrees kept.
    let reset = Reset (reset_kind_number c.args.kind) in
    subst (λ past. RecountsAll c.note.new.self o past)
    (sym (attributed_one c.args.source reset past))
    (c.note.ensures o (from_source c.args.source reset) past (reset ∷ bare_acts past) refl (ap ResetBy (sym c.number.ensures)) agrees refl (λ sp. refl) kept)
