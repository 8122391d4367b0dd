use Rattle.std.proofs.Common.{◌≡◌, ◌∙◌, ◌∷◌, ap, subst, sym}
use Rattle.drive_scripts.specs.Kept.{KeptReasons, RecountsAll}
use Rattle.std.specs.Prelude.{is_some}
use Rattle.sp_cells.specs.declared.names.Sp.{Sp}
use Rattle.sp_cells.specs.declared.names.Sp.TheVariants.{Admin, Locking}
use Rattle.history.specs.History.{log}
use Rattle.history.specs.Readers.{session_on}
use Rattle.reasons.specs.Onsets.{bare_acts}
use Rattle.drive_scripts.proofs.explainer.Explainer.note.Goals as goal

pub returns : goal.returns
returns c = λ o s past acts source cause agrees same lives kept.
    let was = subst (λ (k : KeptReasons). RecountsAll k o past) (sym c.self.view_is) kept in record {
      onsets = c.note_act.ensures o s past source cause (c.in_force.ensures.told o acts agrees ∙ same) was.onsets;
      sessions = c.note_act-2.ensures o s past source cause
          (c.has_session-on_admin.ensures.told o acts agrees ∙ ap is_some (lives Admin))
          (c.has_session-on_locking.ensures.told o acts agrees ∙ ap is_some (lives Locking)) was.sessions;
    }
