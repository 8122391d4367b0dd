-- What a deed makes of the sessions keeps what one more event says.
use Rattle.std.proofs.Common.{◌≡◌, true, false, List, [], ◌∷◌, Some, None, refl, ◌∙◌, ap, cond}
use Rattle.sp_cells.specs.declared.names.Sp.{Sp}
use Rattle.sp_cells.specs.declared.names.Sp.TheVariants.{Admin, Locking}
use Rattle.sp_cells.specs.Flat.{sp_eq}
use Rattle.sessions.specs.Live.{Live, session_at, unless_on, unless_ending}
use Rattle.sessions.specs.Made.{ended_by, LeavesAll}
use Rattle.history.specs.Events.{Deed, Nothing, InSession, OfQueue, Wrote, Trimmed, Took, BlockedSid, Chose, PowerSet, WasReset, Event}
use Rattle.sessions.specs.Deeds.{Unchanged, Started, Tried, Changed, Began, Committed, Aborted, Ended, Activated, Reverted, Erased, Drew, HostTold, StackReset, StackTold}
use Rattle.history.specs.Readers.{is_start, living, restores, starts, gains}
use Rattle.history.specs.KeptSessions.{KeepsSessions, LivesBy, SessionsOpeningLaw, SessionsLaw}
use Rattle.history.proofs.KeptSessionsNumbers.{none-apart, none-kept}
use Rattle.history.proofs.KeptSessionsSteps.{sp-flip, Ends, left-kept, tried-kept}
use Rattle.history.proofs.KeptSessionsStarts.{started-kept}

pub sessions_opening_law : SessionsOpeningLaw
sessions_opening_law live next none = record {
  next = next;
  at = λ n. none-kept [] (session_at live n) None (none n) refl;
  on = λ sp s is. absurd (none-apart is);
  below = λ sp s is. absurd (none-apart is);
  apart = λ a b is its. absurd (none-apart is);
}

-- a deed that ends no session and begins none
record Spares (d : Deed) : Type 0 where
  turns : (s : Sp) → living s d ≡ None
  starts_none : (s : Sp) → starts s d ≡ false
  gains_none : (s : Sp) → gains s d ≡ None
  is_no_start : is_start d ≡ false

spared-kept : (e : Event) (es : List Event) (l m : Live) (d : Deed) → e.deed ≡ d → Spares d → KeepsSessions l es → LeavesAll l m → KeepsSessions m (e ∷ es)
spared-kept e es l m d is spares k left = left-kept e es (λ s. false) (λ h. h) l m ends k left
  where
    ends : Ends e (λ s. false) (λ h. h)
    ends = record {
      none = refl;
      some = λ h. refl;
      turns = λ s. ap (living s) is ∙ spares.turns s;
      starts_none = λ s. ap (starts s) is ∙ spares.starts_none s;
      gains_none = λ s. ap (gains s) is ∙ spares.gains_none s;
      is_no_start = ap is_start is ∙ spares.is_no_start;
    }

pub sessions_law : SessionsLaw
sessions_law past e l m k lives = by_deed e.deed refl lives
  where
    by_deed : (d : Deed) → e.deed ≡ d → LivesBy d l m → KeepsSessions m (e ∷ past)
    by_deed (InSession (Started session row) r) is v = started-kept e past session row r l m is k v
    by_deed (InSession (Tried attempt) r) is v = tried-kept e past attempt r l m is k v
    by_deed (InSession (Ended sp) r) is v =
        left-kept e past (sp_eq sp) (unless_on sp) l m
        (record { none = refl; some = λ h. ap (λ b. cond b None (Some h)) (sp-flip h.sp sp); turns = λ s. ap (living s) is; starts_none = λ s. ap (starts s) is; gains_none = λ s. ap (gains s) is; is_no_start = ap is_start is })
        k v
    by_deed (InSession (Reverted Admin erasure) r) is v =
        left-kept e past (restores Admin) (ended_by Admin) l m
        (record { none = refl; some = λ h. refl; turns = λ s. ap (living s) is; starts_none = λ s. ap (starts s) is; gains_none = λ s. ap (gains s) is; is_no_start = ap is_start is })
        k v
    by_deed (InSession (Reverted Locking erasure) r) is v =
        left-kept e past (restores Locking) (ended_by Locking) l m
        (record { none = refl; some = λ h. ap (λ b. cond b None (Some h)) (sp-flip h.sp Locking); turns = λ s. ap (living s) is; starts_none = λ s. ap (starts s) is; gains_none = λ s. ap (gains s) is; is_no_start = ap is_start is })
        k v
    by_deed (WasReset kind) is v =
        left-kept e past (λ s. true) (λ h. None) l m
        (record { none = refl; some = λ h. refl; turns = λ s. ap (living s) is; starts_none = λ s. ap (starts s) is; gains_none = λ s. ap (gains s) is; is_no_start = ap is_start is })
        k v
    by_deed (InSession Unchanged r) is v = spared-kept e past l m (InSession Unchanged r) is (record { turns = λ s. refl; starts_none = λ s. refl; gains_none = λ s. refl; is_no_start = refl }) k v
    by_deed (InSession (Changed sp change) r) is v = spared-kept e past l m (InSession (Changed sp change) r) is (record { turns = λ s. refl; starts_none = λ s. refl; gains_none = λ s. refl; is_no_start = refl }) k v
    by_deed (InSession (Began sp number) r) is v = spared-kept e past l m (InSession (Began sp number) r) is (record { turns = λ s. refl; starts_none = λ s. refl; gains_none = λ s. refl; is_no_start = refl }) k v
    by_deed (InSession (Committed sp) r) is v = spared-kept e past l m (InSession (Committed sp) r) is (record { turns = λ s. refl; starts_none = λ s. refl; gains_none = λ s. refl; is_no_start = refl }) k v
    by_deed (InSession (Aborted sp) r) is v = spared-kept e past l m (InSession (Aborted sp) r) is (record { turns = λ s. refl; starts_none = λ s. refl; gains_none = λ s. refl; is_no_start = refl }) k v
    by_deed (InSession (Activated pin) r) is v = spared-kept e past l m (InSession (Activated pin) r) is (record { turns = λ s. refl; starts_none = λ s. refl; gains_none = λ s. refl; is_no_start = refl }) k v
    by_deed (InSession (Erased erasure) r) is v = spared-kept e past l m (InSession (Erased erasure) r) is (record { turns = λ s. refl; starts_none = λ s. refl; gains_none = λ s. refl; is_no_start = refl }) k v
    by_deed (InSession (Drew count) r) is v = spared-kept e past l m (InSession (Drew count) r) is (record { turns = λ s. refl; starts_none = λ s. refl; gains_none = λ s. refl; is_no_start = refl }) k v
    by_deed (InSession (HostTold com_id limits) r) is v = spared-kept e past l m (InSession (HostTold com_id limits) r) is (record { turns = λ s. refl; starts_none = λ s. refl; gains_none = λ s. refl; is_no_start = refl }) k v
    by_deed (InSession (StackTold com_id) r) is v = spared-kept e past l m (InSession (StackTold com_id) r) is (record { turns = λ s. refl; starts_none = λ s. refl; gains_none = λ s. refl; is_no_start = refl }) k v
    by_deed (InSession (StackReset com_id ends) r) is v =
        left-kept e past ends (unless_ending ends) l m
        (record { none = refl; some = λ h. refl; turns = λ s. ap (living s) is; starts_none = λ s. ap (starts s) is; gains_none = λ s. ap (gains s) is; is_no_start = ap is_start is })
        k v
    by_deed Nothing is v = spared-kept e past l m Nothing is (record { turns = λ s. refl; starts_none = λ s. refl; gains_none = λ s. refl; is_no_start = refl }) k v
    by_deed (OfQueue deed) is v = spared-kept e past l m (OfQueue deed) is (record { turns = λ s. refl; starts_none = λ s. refl; gains_none = λ s. refl; is_no_start = refl }) k v
    by_deed (Wrote lba bytes) is v = spared-kept e past l m (Wrote lba bytes) is (record { turns = λ s. refl; starts_none = λ s. refl; gains_none = λ s. refl; is_no_start = refl }) k v
    by_deed (Trimmed extents) is v = spared-kept e past l m (Trimmed extents) is (record { turns = λ s. refl; starts_none = λ s. refl; gains_none = λ s. refl; is_no_start = refl }) k v
    by_deed (Took com_id) is v = spared-kept e past l m (Took com_id) is (record { turns = λ s. refl; starts_none = λ s. refl; gains_none = λ s. refl; is_no_start = refl }) k v
    by_deed (BlockedSid block) is v = spared-kept e past l m (BlockedSid block) is (record { turns = λ s. refl; starts_none = λ s. refl; gains_none = λ s. refl; is_no_start = refl }) k v
    by_deed (Chose feature) is v = spared-kept e past l m (Chose feature) is (record { turns = λ s. refl; starts_none = λ s. refl; gains_none = λ s. refl; is_no_start = refl }) k v
    by_deed (PowerSet in_standby) is v = spared-kept e past l m (PowerSet in_standby) is (record { turns = λ s. refl; starts_none = λ s. refl; gains_none = λ s. refl; is_no_start = refl }) k v
