-- When the sessions that are kept are those of the past, and what each deed makes of them. By
-- points: by their numbers.
use Rattle.std.specs.Prelude.{◌≡◌, ◌<◌, ◌==◌, ℕ, false, List, [], ◌∷◌, Option, None, Some, option_map, if◌then◌else◌}
use Rattle.sp_cells.specs.declared.names.Uid.{Uid}
use Rattle.sp_cells.specs.declared.names.Sp.{Sp}
use Rattle.sp_cells.specs.declared.names.Sp.TheVariants.{Admin, Locking}
use Rattle.ace_eval.specs.Truth.{has}
use Rattle.compacket.specs.declared.session.Session.{Session}
use Rattle.transactions.specs.declared.change.SessionId.{SessionId}
use Rattle.sessions.specs.Live.{Holder, Live, session_at, found}
use Rattle.sessions.specs.Made.{Leaves, LeavesAll, LivesAs}
use Rattle.history.specs.Opening.{Origin}
use Rattle.sessions.specs.Deeds.{Begun}
use Rattle.history.specs.Events.{Deed, Nothing, InSession, OfQueue, Wrote, Trimmed, Took, WasReset, BlockedSid, Chose, PowerSet, Event, or_else}
use Rattle.history.specs.Readers.{session_on, authorities, first_number, next_number}
use Rattle.history.specs.Facts.{facts, session_named}

-- A session is kept with the authorities that the past gave it.
pub record KeepsSession (past : List Event) (h : Holder) (session : Begun) : Type 0 where
  pub sp : h.sp ≡ session.sp
  pub com_id : h.com_id ≡ session.com_id
  pub host : h.host ≡ session.host
  pub held : (a : Uid) → has h.held a ≡ has (authorities past session) a

abbrev pub IsKeptAs : List Event → Option Holder → Option Begun → Type 0
IsKeptAs past None None = Unit {0}
IsKeptAs past (Some h) (Some session) = KeepsSession past h session
IsKeptAs past None (Some session) = ⊥
IsKeptAs past (Some h) None = ⊥

-- The live session of a number.
abbrev pub if_number : ℕ → Option Begun → Option Begun
if_number n None = None
if_number n (Some session) = if session.number == n then Some session else None

abbrev pub session_numbered : List Event → ℕ → Option Begun
session_numbered past n =
    or_else (if_number n (session_on past Admin)) (if_number n (session_on past Locking))

-- A session of an SP is on it, and its number is below the next; those of the two SPs have two
-- numbers.
pub record KeepsSessions (live : Live) (past : List Event) : Type 0 where
  pub next : live.next ≡ next_number past
  pub at : (n : ℕ) → IsKeptAs past (session_at live n) (session_numbered past n)
  pub on : (sp : Sp) (session : Begun) → session_on past sp ≡ Some session → session.sp ≡ sp
  pub below : (sp : Sp) (session : Begun) → session_on past sp ≡ Some session
      → session.number < live.next
  pub apart : (a l : Begun) → session_on past Admin ≡ Some a → session_on past Locking ≡ Some l
      → (a.number == l.number) ≡ false

-- What a deed makes of the sessions.

abbrev pub LivesBy : Deed → Live → Live → Type 0
LivesBy Nothing l m = LeavesAll l m
LivesBy (InSession deed response) l m = LivesAs deed l m
LivesBy (OfQueue deed) l m = LeavesAll l m
LivesBy (Wrote lba bytes) l m = LeavesAll l m
LivesBy (Trimmed extents) l m = LeavesAll l m
LivesBy (Took com_id) l m = LeavesAll l m
LivesBy (WasReset kind) l m = Leaves (λ h. None) l m
LivesBy (BlockedSid block) l m = LeavesAll l m
LivesBy (Chose feature) l m = LeavesAll l m
LivesBy (PowerSet in_standby) l m = LeavesAll l m

-- Laws.

abbrev pub SessionsOpeningLaw : Type 0
SessionsOpeningLaw =
    (live : Live) → live.next ≡ first_number → ((n : ℕ) → session_at live n ≡ None)
    → KeepsSessions live []

-- What a deed makes of the sessions keeps what one more event says.
abbrev pub SessionsLaw : Type 0
SessionsLaw =
    (past : List Event) (e : Event) (l m : Live) → KeepsSessions l past → LivesBy e.deed l m
    → KeepsSessions m (e ∷ past)

-- The session that a packet names.
abbrev pub id_of : Begun → SessionId
id_of session = record { tsn = session.number; sp = session.sp }

abbrev pub NamedLaw : Type 0
NamedLaw =
    (o : Origin) (live : Live) (past : List Event) (com_id : ℕ) (named : Session)
    → KeepsSessions live past
    → option_map (λ sp. record { tsn = named.tsn; sp = sp })
    (found com_id named.hsn (session_at live named.tsn))
    ≡ option_map id_of (session_named (facts o past) com_id named)
