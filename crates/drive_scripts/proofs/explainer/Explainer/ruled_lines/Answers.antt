use Rattle.std.proofs.Common.{◌∙◌, ap}
use Rattle.basics.specs.declared.profile.Profile.{Profile}
use Rattle.sp_cells.specs.Config.{Config}
use Rattle.sp_cells.specs.Flat.{LookUp}
use Rattle.transactions.specs.Sights.{Sight, look_up}
use Rattle.reasons.specs.Rulings.{ruled_text}
use Rattle.drive_scripts.proofs.explainer.Explainer.ruled_lines.Goals as goal

pub returns : goal.returns
returns c = λ o acts agrees.
    let command = c.args.command in
    let rule = c.args.rule in
    c.in_ok-text.ensures
    ∙ ap (λ (p : Profile). ruled_text p (look_up c.in_force.result) command rule)
    (ap (λ (s : Sight). s.config.profile) c.in_force.ensures.stands ∙ ap (λ (k : Config). k.profile) agrees.tper.store.config)
    ∙ ap (λ (rows : LookUp). ruled_text o.tables.config.profile rows command rule)
    (c.in_force.ensures.told o acts agrees)
