-- What is kept behind the ComIDs, and when it keeps what the past says.
use Rattle.std.specs.Prelude.{◌≡◌, ◌⊎◌, ◌==◌, ◌&&◌, ℕ, ◌-◌, Bool, true, false, nat_le, List, length, slice_index_or, Option, None, Some, option_map, if◌then◌else◌}
use Rattle.transactions.specs.Stored.{Stored}
use Rattle.device_data.specs.Discovery.{first_com_id}
use Rattle.sp_cells.specs.declared.names.Sp.{Sp}
use Rattle.sessions.specs.Live.{Holder, Live, session_at, found, unless_on}
use Rattle.history.specs.Opening.{Origin}
use Rattle.history.specs.Events.{Deed, InSession, Silent, Event}
use Rattle.history.specs.Readers.{waiting, beside}
use Rattle.history.specs.Decisions.{is_session_com_id}
use Rattle.history.specs.KeptStore.{KeepsStore}
use Rattle.history.specs.KeptSessions.{KeepsSessions}
use Rattle.sessions.specs.Deeds.{Ended, StackTold, says, erased_by}
use Rattle.audit.specs.declared.rules.rule.Rule.{Rule}
use Rattle.audit.specs.declared.rules.rule.Rule.TheVariants.{BrokenOff, Discarded, NoFrame, NoSubpacket}
use Rattle.transactions.specs.declared.change.SessionId.{SessionId}
use Rattle.history.specs.Tcg.{to_manager, in_session, item_in, breaks_off, is_discarded, broken_of}
use Rattle.tper.specs.Items.{OfManager, OfSession}
use Rattle.shadow_mbr.specs.declared.erasure.Erasure.{Erasure}
use Rattle.shadow_mbr.specs.Erasure.{no_sectors}
use Rattle.compacket.specs.declared.session.Session.{Session}
use Rattle.compacket.specs.declared.session.Named.{Named}
use Rattle.compacket.specs.Spelling.{frame_bytes}
use Rattle.tcg_tokens.specs.Message.{Message, message, end_session}
use Rattle.tcg_tokens.specs.Reading.{reading as message_in}
use Rattle.tcg_tokens.specs.Spelling.{item_spelling_of}
use Rattle.methods.specs.declared.outcome.Outcome.{Outcome}
use Rattle.tper.specs.declared.trusted.Sent.{Sent}

-- The rows and the shadow's bytes, the sessions that live with what is kept beside them, and the response that
-- waits on each of the four ComIDs.
pub record Tper : Type 0 where
  pub store : Stored
  pub live : Live
  pub waiting : List (Option (List ℕ))

-- The response that waits on a ComID.
abbrev pub response_at : List (Option (List ℕ)) → ℕ → Option (List ℕ)
response_at responses com_id =
    if is_session_com_id com_id
    then slice_index_or responses (com_id - first_com_id) None else None

-- The response that waits has room in a transfer.
abbrev pub fits_in : ℕ → Option (List ℕ) → Bool
fits_in room None = false
fits_in room (Some response) = nat_le (length response) room

-- It keeps what the past says, part by part.
pub record Keeps (t : Tper) (o : Origin) (past : List Event) : Type 0 where
  pub store : KeepsStore t.store o past
  pub sessions : KeepsSessions t.live past
  pub beside : t.live.beside ≡ beside past
  pub waiting : (com_id : ℕ) → response_at t.waiting com_id ≡ waiting past com_id

-- Which sectors a deed makes zeros.
abbrev pub erased_by_deed : Deed → Erasure
erased_by_deed (InSession deed response) = erased_by deed
erased_by_deed _ = no_sectors

-- What became of what was sent is what its event says.
pub record IsToldOfSend (event : Event) (s : Sent) : Type 0 where
  pub failed : event.failed ≡ None
  pub denied : s.denied ≡ event.denied
  pub rule : s.rule ≡ event.rule
  pub erases : s.erases ≡ erased_by_deed event.deed

-- The framed answer waits on the ComID, and all else stays.
abbrev pub Responds : ℕ → Session → Message → Tper → Tper → Type 0
Responds com_id session said old new =
    (other : ℕ) → response_at new.waiting other
    ≡ (if com_id == other
    then Some (frame_bytes com_id session (item_spelling_of said))
    else response_at old.waiting other)

-- A response that has room in a transfer is taken.
abbrev pub Takes : ℕ → ℕ → Tper → Tper → Type 0
Takes com_id room old new =
    (other : ℕ) → response_at new.waiting other
    ≡ (if com_id == other && fits_in room (response_at old.waiting com_id)
    then None else response_at old.waiting other)

-- An item was handled: what came of it, its answer, and what is told of it.
pub record Handles (Met : Outcome → Type 0) (com_id : ℕ) (session : Session) (s : Sent)
    (old new : Tper) : Type 0 where
  pub said : Outcome
  pub met : Met said
  pub denied : s.denied ≡ said.denied
  pub rule : s.rule ≡ said.rule
  pub erases : s.erases ≡ said.erases
  pub responds : Responds com_id session (message said.reply) old new

-- What was sent came to nothing, by a rule.
pub record IsIgnored (rule : Rule) (s : Sent) (old new : Tper) : Type 0 where
  pub unchanged : new ≡ old
  pub denied : s.denied ≡ None
  pub by : s.rule ≡ Some rule
  pub erases : s.erases ≡ no_sectors

-- It ended its session, and left no response: what came of the session, and what is told of it.
pub record BreaksOff (by : Rule) (Met : Outcome → Type 0) (s : Sent) (old new : Tper) : Type 0 where
  pub said : Outcome
  pub met : Met said
  pub waiting : new.waiting ≡ old.waiting
  pub denied : s.denied ≡ None
  pub rule : s.rule ≡ Some by
  pub erases : s.erases ≡ no_sectors

-- What is sent to the session manager is discarded, or handled.
abbrev pub Manages : ℕ → Session → List ℕ → Sent → Tper → Tper → Type 0
Manages com_id session tokens s old new =
    ((is_discarded old.store.config.profile (message_in tokens) ≡ true)
    × IsIgnored Discarded s old new)
    ⊎ ((is_discarded old.store.config.profile (message_in tokens) ≡ false)
    × Handles (λ said. OfManager (λ f. to_manager f com_id (message_in tokens)) said old.store
    new.store old.live new.live) com_id session s old new)

-- What is sent to a live session ends it, or is handled there.
abbrev pub ServesSession : ℕ → Session → SessionId → List ℕ → Sent → Tper → Tper → Type 0
ServesSession com_id session id tokens s old new =
    ((breaks_off old.store.config.profile (item_in old.store.config.profile tokens) ≡ true)
    × BreaksOff BrokenOff (λ said. OfSession (λ f its. says (Ended its.sp) end_session) id said
    old.store
    new.store old.live new.live) s old new)
    ⊎ ((breaks_off old.store.config.profile (item_in old.store.config.profile tokens) ≡ false)
    × Handles (λ said. OfSession (λ f its. in_session f its (item_in f.config.profile tokens)) id
    said old.store new.store old.live new.live) com_id session s old new)

-- What carries no whole subpacket ends the session that it names, if one is named; else it comes to nothing.
abbrev pub EndsNamed : SessionId → Sent → Tper → Tper → Type 0
EndsNamed id s old new =
    BreaksOff NoSubpacket (λ said. OfSession (λ f its. says (Ended its.sp) end_session) id said
    old.store new.store old.live new.live) s old new

abbrev pub found_in : Live → ℕ → Session → Option SessionId
found_in live com_id named =
    option_map (λ sp. record { tsn = named.tsn; sp = sp })
    (found com_id named.hsn (session_at live named.tsn))

abbrev pub EndsFound : Option SessionId → Sent → Tper → Tper → Type 0
EndsFound None s old new = IsIgnored NoFrame s old new
EndsFound (Some id) s old new = EndsNamed id s old new

abbrev pub named_for : ℕ → Option Named → Live → Option SessionId
named_for com_id None live = None
named_for com_id (Some named) live =
    if named.com_id == com_id then found_in live com_id named.session else None

abbrev pub IsUnframed : ℕ → List ℕ → Sent → Tper → Tper → Type 0
IsUnframed com_id payload s old new =
    EndsFound (named_for com_id (broken_of old.store.config.profile payload) old.live) s old new

-- The session, unless it is on this SP, where that is so.
abbrev pub unless_on_if : Bool → Sp → Option Holder → Option Holder
unless_on_if true sp o = unless_on sp o
unless_on_if false sp o = o

-- Nothing is to be told any more of the stack of a ComID.
abbrev pub told_event : ℕ → Option Rule → Event
told_event com_id rule = record {
  failed = None;
  deed = InSession (StackTold com_id) Silent;
  denied = None;
  rule = rule;
}
