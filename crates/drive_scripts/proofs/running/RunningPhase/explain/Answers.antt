use Rattle.std.proofs.Common.{subst, sym, ap, ◌∙◌, ◌∷◌}
use Rattle.history.specs.History.{Reset}
use Rattle.history.specs.Resets.{reset_kind_number}
use Rattle.drive.specs.State.{Agrees}
use Rattle.drive_scripts.specs.Kept.{RecountsAll}
use Rattle.drive_scripts.specs.Explanations.{attributed}
use Rattle.reasons.specs.Onsets.{bare_acts}
use Rattle.drive_scripts.specs.Effects.{Acted}
use Rattle.drive_scripts.proofs.Reasons.{explains-none, explains-reset}
use Rattle.drive_scripts.proofs.running.RunningPhase.explain.Goals as goal

pub returns-in-Range : goal.returns-in-Range
returns-in-Range c = λ o past acts runs acted kept.
    explains-none c.args.source o past acts c.args.explainer.now c.args.report.now
    (subst (λ line. Acted line c.args.self.now o (bare_acts past) acts) c.in-Range.is acted) kept

pub returns-in-Expect : goal.returns-in-Expect
returns-in-Expect c = λ o past acts runs acted kept.
    explains-none c.args.source o past acts c.args.explainer.now c.args.report.now
    (subst (λ line. Acted line c.args.self.now o (bare_acts past) acts) c.in-Expect.is acted) kept

pub returns-in-Reset : goal.returns-in-Reset
returns-in-Reset c = λ o past acts runs acted kept.
    let is = subst (λ line. Acted line c.args.self.now o (bare_acts past) acts) c.in-Reset.is acted in
    explains-reset c.args.source o past acts _ c.note_reset.new.self c.args.report.now is
    (subst
    (λ kind. RecountsAll c.note_reset.new.self o
    (attributed c.args.source (Reset (reset_kind_number kind) ∷ bare_acts past) past))
    c.kind_named.ensures
    (c.note_reset.ensures o past
    (subst (λ acts. Agrees c.args.self.now.drive o acts)
    (is ∙ ap (λ kind. Reset (reset_kind_number kind) ∷ bare_acts past) (sym c.kind_named.ensures)) runs.0)
    kept))
