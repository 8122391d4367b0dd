-- What is kept stays kept beside deeds that have nothing to do with it: none, those of the queue, unqueued writes, and features.
use Rattle.std.proofs.Common.{◌≡◌, ℕ, Bool, true, false, List, ◌∷◌, Option, Some, None, refl, sym, ap, ◌∙◌}
use Rattle.std.specs.Prelude.{unwrap_or}
use Rattle.transactions.specs.Stored.{Stored}
use Rattle.sessions.specs.Live.{Live}
use Rattle.sessions.specs.declared.beside.Beside.{Beside}
use Rattle.history.specs.Opening.{Origin}
use Rattle.history.specs.Events.{Deed, Nothing, OfQueue, Wrote, Trimmed, Chose, PowerSet, Event, or_else, latest}
use Rattle.history.specs.Readers.{waits, waiting, beside_then}
use Rattle.history.specs.KeptStore.{StoresBy}
use Rattle.history.specs.KeptSessions.{LivesBy}
use Rattle.history.proofs.KeptStoreDeeds.{store_law}
use Rattle.history.proofs.KeptSessionsLaws.{sessions_law}
use Rattle.tper.specs.Tper.{Tper, Keeps, response_at}

-- a deed that leaves the store, the sessions and what waits
abbrev pub spares : Deed → Bool
spares Nothing = true
spares (OfQueue deed) = true
spares (Wrote lba bytes) = true
spares (Trimmed extents) = true
spares (Chose feature) = true
spares (PowerSet in_standby) = true
spares _ = false

spares-store : (d : Deed) (s : Stored) → spares d ≡ true → StoresBy d s s
spares-store Nothing s h = refl
spares-store (OfQueue deed) s h = refl
spares-store (Wrote lba bytes) s h = refl
spares-store (Trimmed extents) s h = refl
spares-store (Chose feature) s h = refl
spares-store (PowerSet in_standby) s h = refl
spares-store _ s h = cc

spares-live : (d : Deed) (l : Live) → spares d ≡ true → LivesBy d l l
spares-live Nothing l h = record { next = refl; at = λ n. refl }
spares-live (OfQueue deed) l h = record { next = refl; at = λ n. refl }
spares-live (Wrote lba bytes) l h = record { next = refl; at = λ n. refl }
spares-live (Trimmed extents) l h = record { next = refl; at = λ n. refl }
spares-live (Chose feature) l h = record { next = refl; at = λ n. refl }
spares-live (PowerSet in_standby) l h = record { next = refl; at = λ n. refl }
spares-live _ l h = cc

spares-beside : (d : Deed) (b : Beside) → spares d ≡ true → beside_then d b ≡ b
spares-beside Nothing b h = refl
spares-beside (OfQueue deed) b h = refl
spares-beside (Wrote lba bytes) b h = refl
spares-beside (Trimmed extents) b h = refl
spares-beside (Chose feature) b h = refl
spares-beside (PowerSet in_standby) b h = refl
spares-beside _ b h = cc

spares-waiting : (d : Deed) (com_id : ℕ) → spares d ≡ true → waits com_id d ≡ None
spares-waiting Nothing com_id h = refl
spares-waiting (OfQueue deed) com_id h = refl
spares-waiting (Wrote lba bytes) com_id h = refl
spares-waiting (Trimmed extents) com_id h = refl
spares-waiting (Chose feature) com_id h = refl
spares-waiting (PowerSet in_standby) com_id h = refl
spares-waiting _ com_id h = cc

either : (x y : Option (Option (List ℕ))) → unwrap_or (or_else x y) None ≡ unwrap_or x (unwrap_or y None)
either None y = refl
either (Some w) y = refl

-- what waits after one more event: what that says, or else what waited
pub waiting_more : (e : Event) (past : List Event) (com_id : ℕ) → waiting (e ∷ past) com_id ≡ unwrap_or (waits com_id e.deed) (waiting past com_id)
waiting_more e past com_id = either (waits com_id e.deed) (latest (waits com_id) past)

-- what a deed makes of the parts keeps what one more event says
pub kept_after : (t u : Tper) (o : Origin) (past : List Event) (e : Event) → StoresBy e.deed t.store u.store → LivesBy e.deed t.live u.live → u.live.beside ≡ beside_then e.deed t.live.beside
    → ((com_id : ℕ) → response_at u.waiting com_id ≡ unwrap_or (waits com_id e.deed) (response_at t.waiting com_id))
    → Keeps t o past → Keeps u o (e ∷ past)
kept_after t u o past e store live here responses k = record {
  store = store_law o past e t.store u.store k.store store;
  sessions = sessions_law past e t.live u.live k.sessions live;
  beside = here ∙ ap (beside_then e.deed) k.beside;
  waiting = λ com_id. responses com_id ∙ ap (λ w. unwrap_or (waits com_id e.deed) w) (k.waiting com_id) ∙ sym (waiting_more e past com_id);
}

pub kept_beside : (t : Tper) (o : Origin) (past : List Event) (e : Event) → spares e.deed ≡ true → Keeps t o past → Keeps t o (e ∷ past)
kept_beside t o past e h k =
    kept_after t t o past e (spares-store e.deed t.store h) (spares-live e.deed t.live h) (sym (spares-beside e.deed t.live.beside h))
    (λ com_id. sym (ap (λ w. unwrap_or w (response_at t.waiting com_id)) (spares-waiting e.deed com_id h))) k
