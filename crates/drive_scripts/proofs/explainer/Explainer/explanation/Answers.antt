use Rattle.std.proofs.Common.{◌∙◌, ◌++◌, List, ℕ, ap, subst, sym}
use Rattle.std.specs.Prelude.{option_copied}
use Rattle.drive_scripts.specs.Kept.{KeptReasons, RecountsAll}
use Rattle.basics.specs.declared.profile.Profile.{Profile}
use Rattle.sp_cells.specs.Config.{Config}
use Rattle.sp_cells.specs.Flat.{LookUp}
use Rattle.transactions.specs.Sights.{Sight, look_up}
use Rattle.reasons.specs.declared.explained.condition.Condition.{Condition}
use Rattle.history.specs.History.{log}
use Rattle.history.specs.Readers.{in_force}
use Rattle.reasons.specs.Conditions.{range_place}
use Rattle.reasons.specs.Onsets.{bare_acts, held_since, holds_after}
use Rattle.reasons.specs.Reasons.{told_with}
use Rattle.reasons.specs.Within.{asker_with, remedy_within, told_within}
use Rattle.drive_scripts.specs.Explanations.{asker_after, held_after}
use Rattle.drive_scripts.proofs.Holders.{holdings_alike}
use Rattle.drive_scripts.proofs.explainer.Explainer.explanation.Goals as goal

pub returns : goal.returns
returns c = λ o past acts agrees kept.
    let onset = λ (c : Condition). held_since (holds_after o c) past in
    let place = range_place (in_force o (log o (bare_acts past))) in
    let why = c.args.why.now in
    let counted = c.args.counted in
    let number = c.args.session.tsn in
    let profile = o.tables.config.profile in
    let rows = in_force o (log o acts) in
    let seen = look_up c.seen_by-seen.result in
    let held = option_copied c.authorities-held.result in
    let asker = asker_after o (log o acts) c.args.session in
    c.in_ok-text.ensures o past (subst (λ (k : KeptReasons). RecountsAll k o past) (sym c.self.view_is) kept).onsets
    ∙ ap (λ (p : Profile). told_within counted onset place p (look_up c.in_force-rows.result) (asker_with c.seen_by-seen.result.config.profile number seen) held why)
    (ap (λ (s : Sight). s.config.profile) c.in_force-rows.ensures.stands ∙ ap (λ (k : Config). k.profile) agrees.tper.store.config)
    ∙ ap (λ (look : LookUp). told_within counted onset place profile look (asker_with c.seen_by-seen.result.config.profile number seen) held why)
    (c.in_force-rows.ensures.told o acts agrees)
    ∙ ap (λ (k : Config). told_within counted onset place profile rows (asker_with k.profile number seen) held why)
    (c.seen_by-seen.ensures.config ∙ agrees.tper.store.config)
    ∙ ap (λ (look : LookUp). told_within counted onset place profile rows (asker_with profile number look) held why)
    (c.seen_by-seen.ensures.told o acts agrees)
    ∙ ap (λ (l : List ℕ). l ++ told_with counted onset place why (remedy_within profile rows asker why))
    (holdings_alike number held (held_after (log o acts) c.args.session) why (c.authorities-held.ensures.told o acts agrees))
