-- No trace, over every lawful list of steps and whatever items do: nothing is made from a Set of an
-- open or aborted transaction, but in that session's own view while it is open. Said by the past in
-- which none of its Sets changed anything: all that is read is the same there.
use Rattle.std.specs.Prelude.{◌≡◌, ℕ, false, List, [], ◌∷◌, ◌++◌, Some}
use Rattle.locking.specs.declared.range.Op.{Op}
use Rattle.sp_cells.specs.declared.names.Sp.{Sp}
use Rattle.history.specs.Decisions.{verdict_on}
use Rattle.history.specs.Events.{Event}
use Rattle.history.specs.Facts.{Facts, facts}
use Rattle.history.specs.Items.{Items}
use Rattle.history.specs.History.{Act, event_of}
use Rattle.history.specs.NoTrace.{emptied, IsUnseen, Aborts, is_for, further, IsByOwnView}
use Rattle.history.specs.Opening.{Origin}
use Rattle.history.specs.Readers.{open_on}
use Rattle.port_history.specs.declared.step.Step.{Step}
use Rattle.port_history.specs.Refusals.{AreLawful}
use Rattle.port_history.specs.Steps.{trace_of, act_of, act_before}
use Rattle.headline.specs.Steps.{past_of, facts_after, event_after}

-- The verdicts are the same.
abbrev pub HaveSameVerdicts : Facts → Facts → Type 0
HaveSameVerdicts f g = (op : Op) (lba count : ℕ)
    → verdict_on f op lba count ≡ verdict_on g op lba count

-- While the transaction of a session is open on an SP: rows, Tries and MBR bytes in force, the views
-- of all other sessions, and the verdicts are what they were if none of its Sets had changed
-- anything; and so is what every step does next whose act is not a frame for that session:
-- one that its ComID, TSN and HSN name.
pub record IsHidden (items : Items) (o : Origin) (list : List Step) (sp : Sp)
    (number : ℕ) : Type 0 where
  pub unseen : IsUnseen o number (past_of items o list) (emptied sp (past_of items o list))
  pub verdicts : HaveSameVerdicts (facts o (emptied sp (past_of items o list)))
      (facts_after items o list)
  pub elsewhere : (step : Step) (act : Act) → act_of (trace_of items o list) step ≡ Some act
      → is_for items (facts_after items o list) number act ≡ false
      → event_after items o list step
      ≡ Some (event_of items o (emptied sp (past_of items o list)) act)

-- Each transaction that is open.
abbrev pub AreHidden : Items → Origin → List Step → Type 0
AreHidden items o list =
    (sp : Sp) (number : ℕ) → open_on (past_of items o list) sp ≡ Some number
    → IsHidden items o list sp number

abbrev pub OpenLaw : Type 0
OpenLaw =
    (items : Items) → IsByOwnView items → (o : Origin) (list : List Step)
    → AreLawful items o list → AreHidden items o list

-- The acts of the later steps of a list.
abbrev pub acts_since : Items → Origin → List Step → List Step → List Act
acts_since items o [] before = []
acts_since items o (step ∷ later) before =
    act_before (act_of (trace_of items o (later ++ before)) step) (acts_since items o later before)

-- What those acts did after a past.
abbrev pub past_with : Items → Origin → List Event → List Act → List Event
past_with items o past acts = further items o past acts ++ past

-- After it was aborted by a step: the later steps did what they did if none of its Sets had changed
-- anything, and so all is the same ever after: rows, Tries and MBR bytes in force, each session and
-- its view, media, verdicts, what is held and what waits.
pub record IsForgotten (items : Items) (o : Origin) (later : List Step) (step : Step)
    (before : List Step) (sp : Sp) (aborts : Event) : Type 0 where
  pub past : past_of items o (later ++ step ∷ before)
      ≡ past_with items o (aborts ∷ past_of items o before)
      (acts_since items o later (step ∷ before))
  pub events : further items o (aborts ∷ emptied sp (past_of items o before))
      (acts_since items o later (step ∷ before))
      ≡ further items o (aborts ∷ past_of items o before) (acts_since items o later (step ∷ before))
  pub same : facts o (past_with items o (aborts ∷ emptied sp (past_of items o before))
      (acts_since items o later (step ∷ before)))
      ≡ facts_after items o (later ++ step ∷ before)

-- Each transaction that was aborted.
abbrev pub AreForgotten : Items → Origin → List Step → Type 0
AreForgotten items o list =
    (later before : List Step) (step : Step) (sp : Sp) (number : ℕ) (aborts : Event)
    → list ≡ later ++ step ∷ before → open_on (past_of items o before) sp ≡ Some number
    → event_after items o before step ≡ Some aborts → Aborts sp aborts
    → IsForgotten items o later step before sp aborts

abbrev pub AbortLaw : Type 0
AbortLaw =
    (items : Items) (o : Origin) (list : List Step) → AreLawful items o list
    → AreForgotten items o list
