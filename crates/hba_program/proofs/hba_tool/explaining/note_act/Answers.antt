-- The act is noted if the drive has done one more.
use Rattle.std.proofs.Common.{rules, ◌≡◌, ◌∷◌, refl, sym, ap, subst, Option}
use Rattle.history.specs.History.{Act}
use Rattle.drive.specs.State.{DriveState, Agrees}
use Rattle.reasons.specs.Onsets.{from_source, bare_acts, cause_at}
use Rattle.std.specs.Prelude.{is_some}
use Rattle.hba_program.proofs.hba_tool.Refusals.{noted, unnoted}
use Rattle.hba_program.proofs.hba_tool.explaining.note_act.Goals as goal

pub returns-then-acts : goal.returns-then-acts
returns-then-acts c = λ width o past act by silent acted is kept.
    let differs : c.args.hba.now.acts ≡ c.args.acts → ⊥ = search rules in
    noted width c.args.source o past act c.note.new.self c.args.hba.now c.args.acts differs silent acted is
    (λ a e agrees.
    c.note.ensures o (from_source c.args.source a) past (a ∷ bare_acts past) refl
    (subst (λ (x : Option Act). cause_at x ≡ c.args.cause) e (by (ap is_some e)))
    (subst (λ (d : DriveState). Agrees d o (a ∷ bare_acts past)) (sym c.drive.ensures) agrees) refl (λ sp. refl) kept)

pub returns-else-acts : goal.returns-else-acts
returns-else-acts c = λ width o past act by silent acted is kept.
    let same : c.args.hba.now.acts ≡ c.args.acts = search rules in
    unnoted width c.args.source o past act c.args.explainer.now c.args.hba.now c.args.acts same acted is kept
