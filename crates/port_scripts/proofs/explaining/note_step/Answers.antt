use Rattle.std.proofs.Common.{◌∷◌, ◌∙◌, ap, sym, subst}
use Rattle.history.specs.History.{log}
use Rattle.history.specs.Readers.{in_force, session_on}
use Rattle.drive.specs.State.{Agrees}
use Rattle.port_history.specs.Steps.{acts}
use Rattle.port_scripts.specs.PortActs.{bare_steps, source_of_put, sourced_step, steps_done}
use Rattle.port_scripts.proofs.PortActs.{bare-done}
use Rattle.port_scripts.proofs.explaining.note_step.Goals as goal

pub returns : goal.returns
returns c = λ o past step agrees ahead kept.
    let same = sym (bare-done o (record { step = step; line = c.args.line } ∷ past)) in
    c.note.ensures o (sourced_step o (bare_steps past) step c.args.line) (steps_done o past)
    (acts o (step ∷ bare_steps past))
    (sym (c.source_of_put-source.ensures ∙ ap (source_of_put c.args.line) ahead.put))
    (sym ahead.brings.cause)
    (subst (λ drive. Agrees drive o (acts o (step ∷ bare_steps past))) (sym c.drive.ensures) agrees.stands.drive)
    (ap (λ acts. in_force o (log o acts)) same)
    (λ sp. ap (λ acts. session_on (log o acts) sp) same)
    kept
