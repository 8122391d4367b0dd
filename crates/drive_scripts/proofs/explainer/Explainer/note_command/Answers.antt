use Rattle.std.proofs.Common.{◌≡◌, ◌∙◌, ◌∷◌, refl, subst, sym, ap}
use Rattle.sp_cells.specs.declared.names.Sp.{Sp}
use Rattle.history.specs.History.{Accept, Complete, log}
use Rattle.history.specs.Readers.{in_force, session_on}
use Rattle.compacket.specs.Frames.{reading as frame_in}
use Rattle.fis.specs.declared.h2d.RegH2d.{RegH2d}
use Rattle.reasons.specs.Onsets.{from_source, bare_acts, cause_in}
use Rattle.drive_scripts.specs.Kept.{RecountsAll}
use Rattle.drive_scripts.specs.Explanations.{attributed, once_served}
use Rattle.drive_scripts.proofs.Added.{attributed_one, attributed_two, rows_stay, sessions_stay}
use Rattle.drive_scripts.proofs.explainer.Explainer.note_command.Goals as goal

pub returns-then-held : goal.returns-then-held
returns-then-held c = λ o past acts fis tag bytes read is agrees kept.
    let source = c.args.source in
    let accept = Accept fis c.args.payload.now in
    let made : acts ≡ Complete tag bytes ∷ accept ∷ bare_acts past = is ∙ ap (λ held. once_served held fis c.args.payload.now tag bytes (bare_acts past)) c.if-held.true in
    let all = ap (λ acts. in_force o (log o acts)) made in
    let first = c.note.ensures o (from_source source accept) past acts refl (ap (λ (h : RegH2d). cause_in h (frame_in c.args.payload.now)) read ∙ sym c.cause_in.ensures) agrees
    (all ∙ rows_stay o tag bytes (accept ∷ bare_acts past))
    (λ (sp : Sp). ap (λ acts. session_on (log o acts) sp) made ∙ sessions_stay o tag bytes (accept ∷ bare_acts past) sp) kept in
    subst (λ past. RecountsAll c.note-then-held.new.self o past)
    (sym (ap (λ acts. attributed source acts past) made ∙ attributed_two source (Complete tag bytes) accept past))
    (c.note-then-held.ensures o (from_source source (Complete tag bytes)) (from_source source accept ∷ past) acts refl refl agrees all
    (λ (sp : Sp). ap (λ acts. session_on (log o acts) sp) made) first)

pub returns-else-held : goal.returns-else-held
returns-else-held c = λ o past acts fis tag bytes read is agrees kept.
    let source = c.args.source in
    let accept = Accept fis c.args.payload.now in
    let made : acts ≡ accept ∷ bare_acts past = is ∙ ap (λ held. once_served held fis c.args.payload.now tag bytes (bare_acts past)) c.if-held.false in
    subst (λ past. RecountsAll c.note.new.self o past)
    (sym (ap (λ acts. attributed source acts past) made ∙ attributed_one source accept past))
    (c.note.ensures o (from_source source accept) past acts refl (ap (λ (h : RegH2d). cause_in h (frame_in c.args.payload.now)) read ∙ sym c.cause_in.ensures) agrees
    (ap (λ acts. in_force o (log o acts)) made) (λ (sp : Sp). ap (λ acts. session_on (log o acts) sp) made) kept)
