-- What each clause of the laws of transactions says.
use Rattle.std.proofs.Common.{◌≡◌, ℕ, false, List, ◌∷◌, ◌++◌, Some}
use Rattle.std.specs.Prelude.{◌==◌}
use Rattle.sp_cells.specs.declared.names.Sp.{Sp}
use Rattle.history.specs.Events.{Event}
use Rattle.history.specs.Facts.{facts}
use Rattle.history.specs.History.{Act, event_of}
use Rattle.history.specs.Items.{Items}
use Rattle.history.specs.NoTrace.{emptied, is_for}
use Rattle.history.specs.Opening.{Origin}
use Rattle.history.specs.Readers.{in_force, byte_in_force, tries, view, byte_in_view}
use Rattle.port_history.specs.declared.step.Step.{Step}
use Rattle.port_history.specs.Steps.{trace_of, act_of}
use Rattle.headline.specs.NoTrace.{IsHidden, IsForgotten, acts_since, past_with}
use Rattle.headline.specs.Steps.{past_of, event_after}

-- `unseen`: rows, bytes and Tries in force, and what other sessions see.
rows_say : (items : Items) (o : Origin) (list : List Step) (sp : Sp) (number : ℕ)
    → IsHidden items o list sp number
    → (in_force o (emptied sp (past_of items o list)) ≡ in_force o (past_of items o list))
    × (byte_in_force (emptied sp (past_of items o list)) ≡ byte_in_force (past_of items o list))
    × (tries (emptied sp (past_of items o list)) ≡ tries (past_of items o list))
rows_say items o list sp number hidden =
    (hidden.unseen.rows, hidden.unseen.bytes, hidden.unseen.attempts)

views_say : (items : Items) (o : Origin) (list : List Step) (sp : Sp) (number viewer : ℕ)
    → IsHidden items o list sp number → (number == viewer) ≡ false
    → (view o (emptied sp (past_of items o list)) viewer ≡ view o (past_of items o list) viewer)
    × (byte_in_view (emptied sp (past_of items o list)) viewer
    ≡ byte_in_view (past_of items o list) viewer)
views_say items o list sp number viewer hidden other =
    (hidden.unseen.views viewer other, hidden.unseen.view_bytes viewer other)

-- `elsewhere`: what the next act does that is not for the session.
next_says : (items : Items) (o : Origin) (list : List Step) (sp : Sp) (number : ℕ) (step : Step)
    (act : Act) → IsHidden items o list sp number
    → act_of (trace_of items o list) step ≡ Some act
    → is_for items (facts o (past_of items o list)) number act ≡ false
    → event_after items o list step
    ≡ Some (event_of items o (emptied sp (past_of items o list)) act)
next_says items o list sp number step act hidden does other = hidden.elsewhere step act does other

-- `same`: whatever later steps did, all that is read is the same.
later_says : (items : Items) (o : Origin) (later before : List Step) (step : Step) (sp : Sp)
    (aborts : Event) → IsForgotten items o later step before sp aborts
    → facts o (past_with items o (aborts ∷ emptied sp (past_of items o before))
    (acts_since items o later (step ∷ before)))
    ≡ facts o (past_of items o (later ++ step ∷ before))
later_says items o later before step sp aborts forgotten = forgotten.same

past_says : (items : Items) (o : Origin) (later before : List Step) (step : Step) (sp : Sp)
    (aborts : Event) → IsForgotten items o later step before sp aborts
    → past_of items o (later ++ step ∷ before)
    ≡ past_with items o (aborts ∷ past_of items o before)
    (acts_since items o later (step ∷ before))
past_says items o later before step sp aborts forgotten = forgotten.past
