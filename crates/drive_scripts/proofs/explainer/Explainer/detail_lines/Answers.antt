use Rattle.std.proofs.Common.{◌≡◌, ◌∙◌, ℕ, ap, subst, sym}
use Rattle.drive_scripts.specs.Kept.{KeptReasons, RecountsAll}
use Rattle.std.proofs.Math.Path.{fun_ext}
use Rattle.sp_cells.specs.declared.names.Sp.{Sp}
use Rattle.sp_cells.specs.declared.names.Sp.TheVariants.{Locking}
use Rattle.sp_cells.specs.Config.{Config, sizes_in}
use Rattle.sp_cells.specs.Flat.{LookUp}
use Rattle.transactions.specs.declared.change.SessionId.{SessionId}
use Rattle.transactions.specs.Sights.{look_up}
use Rattle.history.specs.History.{log}
use Rattle.tper.specs.Seen.{living_session, rows_of_session}
use Rattle.reasons.specs.declared.explained.lives.SpLife.{SpLife}
use Rattle.reasons.specs.Lives.{life_on, life_of}
use Rattle.reasons.specs.Asked.{seen_with}
use Rattle.reasons.specs.Details.{details_text}
use Rattle.drive_scripts.specs.Explanations.{seen_on, seen_after}
use Rattle.drive_scripts.proofs.explainer.Explainer.detail_lines.Goals as goal

pub returns : goal.returns
returns c = λ o past acts agrees kept.
    let counted = c.args.counted in
    let payload = c.args.payload.now in
    let rule = c.args.rule in
    let id = c.session_named_on-session.result in
    let profile = o.tables.config.profile in
    let was = subst (λ (k : KeptReasons). RecountsAll k o past) (sym c.self.view_is) kept in
    let lives = life_on c.self.inside.sessions in
    c.in_ok-text.ensures
    ∙ ap (λ (k : Config). details_text counted (seen_with k.profile (look_up c.seen_by-seen.result) (sizes_in k) c.room-room.result) lives payload rule)
    (c.seen_by-seen.ensures.config ∙ agrees.tper.store.config)
    ∙ ap (λ (rows : LookUp). details_text counted (seen_with profile rows (sizes_in o.tables.config) c.room-room.result) lives payload rule)
    (c.seen_by-seen.ensures.told o acts agrees)
    ∙ ap (λ (n : ℕ). details_text counted (seen_with profile (rows_of_session o (log o acts) (living_session (log o acts) id)) (sizes_in o.tables.config) n) lives payload rule)
    (c.room-room.ensures.told o acts agrees)
    ∙ ap (λ (its : SessionId). details_text counted (seen_on o (log o acts) its) lives payload rule) c.session_named_on-session.ensures
    ∙ ap (λ (l : Sp → SpLife). details_text counted (seen_after o acts payload) l payload rule) (fun_ext was.sessions.on)
