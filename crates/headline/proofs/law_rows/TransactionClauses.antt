-- What each clause of the laws of transactions of `history` says.
use Rattle.std.proofs.Common.{◌≡◌, ℕ, true, false, List, [], ◌∷◌, Some, refl, ap}
use Rattle.std.specs.Prelude.{◌==◌}
use Rattle.sp_cells.specs.declared.names.Sp.{Sp}
use Rattle.sp_cells.specs.declared.names.Sp.TheVariants.{Admin, Locking}
use Rattle.sessions.specs.Deeds.{Aborted, Ended, Reverted, StackReset}
use Rattle.shadow_mbr.specs.Erasure.{all_sectors}
use Rattle.history.specs.Events.{Event, Response, InSession, WasReset, did}
use Rattle.history.specs.Facts.{facts}
use Rattle.history.specs.History.{Act, event_of}
use Rattle.history.specs.Items.{Items}
use Rattle.history.specs.NoTrace.{ActOpenLaw, ElsewhereLaw, ActAbortLaw, IsByOwnView, Aborts, emptied, is_for}
use Rattle.history.specs.Opening.{Origin}
use Rattle.history.specs.Readers.{open_on, in_force, view, byte_in_force, byte_in_view, tries}

-- `unseen`: rows, bytes and Tries in force, and what another session sees.
open_stays_unseen : ActOpenLaw → (o : Origin) (past : List Event) (sp : Sp) (number viewer : ℕ)
    → open_on past sp ≡ Some number → (number == viewer) ≡ false
    → (in_force o (emptied sp past) ≡ in_force o past)
    × (byte_in_force (emptied sp past) ≡ byte_in_force past)
    × (tries (emptied sp past) ≡ tries past)
    × (view o (emptied sp past) viewer ≡ view o past viewer)
    × (byte_in_view (emptied sp past) viewer ≡ byte_in_view past viewer)
open_stays_unseen law o past sp number viewer is other =
    let its = law o past sp number is in
    (its.rows, its.bytes, its.attempts, its.views viewer other, its.view_bytes viewer other)

-- `elsewhere`: an act that is not for the session fails, does and says what it would else.
elsewhere_says : ElsewhereLaw → (items : Items) → IsByOwnView items → (o : Origin)
    (past : List Event) (sp : Sp) (number : ℕ) (act : Act) → open_on past sp ≡ Some number
    → is_for items (facts o past) number act ≡ false
    → event_of items o (emptied sp past) act ≡ event_of items o past act
elsewhere_says law items own o past sp number act is other = law items own o past sp number act is other

-- `aborted`: behind an abort, the end of the session, a reset and a Revert, the next act does what it would else.
abbrev head_or : Event → List Event → Event
head_or event [] = event
head_or event (first ∷ events) = first

next_is_the_same : ActAbortLaw → (items : Items) (o : Origin) (past : List Event) (sp : Sp) (number : ℕ)
    (event : Event) → open_on past sp ≡ Some number → Aborts sp event → (act : Act)
    → event_of items o (event ∷ emptied sp past) act ≡ event_of items o (event ∷ past) act
next_is_the_same law items o past sp number event is aborts act =
    ap (head_or event) (law items o past sp number event is aborts (act ∷ []))

abort_aborts : (response : Response) → Aborts Locking (did (InSession (Aborted Locking) response))
abort_aborts response = record { closes = refl; no_commit = refl }

end_aborts : (response : Response) → Aborts Admin (did (InSession (Ended Admin) response))
end_aborts response = record { closes = refl; no_commit = refl }

stack_reset_aborts : (response : Response)
    → Aborts Admin (did (InSession (StackReset 0x1000 (λ sp. true)) response))
stack_reset_aborts response = record { closes = refl; no_commit = refl }

reset_aborts : Aborts Locking (did (WasReset 1))
reset_aborts = record { closes = refl; no_commit = refl }

revert_aborts : (response : Response) → Aborts Locking (did (InSession (Reverted Admin all_sectors) response))
revert_aborts response = record { closes = refl; no_commit = refl }
