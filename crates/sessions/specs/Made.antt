-- What a deed makes of a store, and of the sessions by their numbers; and so what an outcome says of a call.
use Rattle.std.specs.Prelude.{◌≡◌, ◌==◌, ◌+◌, ◌*◌, nat_le, ℕ, Bool, true, false, List, [], ◌∷◌, ◌++◌, length, Option, None, Some, if◌then◌else◌}
use Rattle.sp_cells.specs.Config.{table_sectors}
use Rattle.sp_cells.specs.declared.names.Uid.{Uid}
use Rattle.sp_cells.specs.declared.names.Sp.{Sp}
use Rattle.sp_cells.specs.declared.names.Sp.TheVariants.{Admin, Locking}
use Rattle.sp_cells.specs.ColumnNames.{tries_column}
use Rattle.sp_cells.specs.Flat.{sp_eq}
use Rattle.sp_cells.specs.Ranges.{number}
use Rattle.sp_tables.specs.Items.{Item, with_items}
use Rattle.sp_tables.specs.Tries.{names_tries}
use Rattle.shadow_mbr.specs.Stored.{sector_size}
use Rattle.shadow_mbr.specs.declared.erasure.Erasure.{Erasure}
use Rattle.ace_eval.specs.Truth.{has}
use Rattle.audit.specs.declared.reason.AttemptFailure.{AttemptFailure}
use Rattle.audit.specs.declared.reason.AttemptFailure.TheVariants.{WrongPin, LockedOut, Disabled, Blocked, Unknown}
use Rattle.audit.specs.declared.reason.Why.{Why}
use Rattle.audit.specs.declared.rules.rule.Rule.{Rule}
use Rattle.tcg_tokens.specs.Message.{Message}
use Rattle.transactions.specs.Bytes.{written}
use Rattle.transactions.specs.Stored.{Transaction, Part, Stored, part, at_part, part_begin, part_commit, part_close, part_tries, reverted}
use Rattle.transactions.specs.Sights.{activated_with}
use Rattle.sessions.specs.Answers.{rows_in_force, up}
use Rattle.sessions.specs.Deeds.{Setting, cells_set, bytes_set, Change, Sets, Restores, Resets, Begun, holder_of, SessionDeed, Unchanged, Started, Tried, Changed, Began, Committed, Aborted, Ended, Activated, Reverted, Erased, Drew, HostTold, StackReset, StackTold, erased_by, Outcome}
use Rattle.sessions.specs.declared.beside.Beside.{Beside}
use Rattle.sessions.specs.Beside.{freed, with_drawn, with_limits, with_reset_stack, with_told_stack}
use Rattle.sessions.specs.Live.{Holder, Live, session_at, unless_on, unless_ending}

-- what a setting makes of rows, of bytes, and of a store
abbrev pub rows_with : Setting → List Item → List Item
rows_with (cells_set object cells) rows = with_items rows object cells
rows_with (bytes_set at bytes) rows = rows

abbrev pub bytes_with : Setting → List ℕ → List ℕ
bytes_with (cells_set object cells) old = old
bytes_with (bytes_set at bytes) old = written at bytes old

abbrev pub part_with : Setting → Part → Option Transaction → Part
part_with st p None = record p { rows = rows_with st p.rows; bytes = bytes_with st p.bytes }
part_with st p (Some t) = record p {
  pending =
      Some (record t { rows = rows_with st t.rows; bytes = bytes_with st t.bytes });
}

abbrev pub set_stored : Stored → Sp → Setting → Stored
set_stored s sp st = at_part sp (λ p. part_with st p p.pending) s

-- the bytes stand within the sectors of the byte tables
abbrev pub is_within : ℕ → ℕ → List ℕ → Bool
is_within sectors at bytes = nat_le (at + length bytes) (sector_size * sectors)

-- no cell of a setting is a Tries, and its bytes are of the Locking SP, within those sectors
abbrev pub CanSet : ℕ → Sp → Setting → Type 0
CanSet sectors sp (cells_set object cells) = names_tries object cells ≡ false
CanSet sectors Locking (bytes_set at bytes) = is_within sectors at bytes ≡ true
CanSet sectors Admin (bytes_set at bytes) = ⊥

abbrev pub StoresChange : Sp → Change → Stored → Stored → Type 0
StoresChange sp (Sets setting) s t =
    CanSet (table_sectors s.config) sp setting × (t ≡ set_stored s sp setting)
StoresChange sp Restores s t = ⊥
StoresChange sp (Resets kind) s t = ⊥

abbrev pub with_count : Sp → Uid → ℕ → Stored → Stored
with_count sp row n s = at_part sp (part_tries row n) s

-- a right PIN makes the Tries of its row 0, and a wrong one counts
abbrev pub StoresAttempt : Sp → Uid → Option AttemptFailure → Stored → Stored → Type 0
StoresAttempt sp row None s t = t ≡ with_count sp row 0 s
StoresAttempt sp row (Some WrongPin) s t =
    t ≡ with_count sp row (up (number (rows_in_force s) sp row tries_column)) s
StoresAttempt sp row (Some LockedOut) s t = t ≡ s
StoresAttempt sp row (Some Disabled) s t = t ≡ s
StoresAttempt sp row (Some Blocked) s t = t ≡ s
StoresAttempt sp row (Some Unknown) s t = t ≡ s

abbrev pub Opens : Sp → ℕ → Stored → Stored → Type 0
Opens sp number s t =
    ((part s sp).pending ≡ None) × (t ≡ at_part sp (part_begin number) s)

abbrev pub Commits : Sp → Stored → Stored → Type 0
Commits sp s t =
    (its : Transaction) × ((part s sp).pending ≡ Some its)
    × (t ≡ at_part sp (part_commit its.tsn) s)

-- the transactions of these SPs end
abbrev pub closed_if : Bool → Sp → Stored → Stored
closed_if true sp s = at_part sp part_close s
closed_if false sp s = s

abbrev pub closed_where : (Sp → Bool) → Stored → Stored
closed_where ends s = closed_if (ends Locking) Locking (closed_if (ends Admin) Admin s)

-- what a deed makes of a store
abbrev pub StoresAs : SessionDeed → Stored → Stored → Type 0
StoresAs Unchanged s t = t ≡ s
StoresAs (Started session row) s t = t ≡ with_count session.sp row 0 s
StoresAs (Tried attempt) s t = StoresAttempt attempt.sp attempt.row attempt.failure s t
StoresAs (Changed sp change) s t = StoresChange sp change s t
StoresAs (Began sp number) s t = Opens sp number s t
StoresAs (Committed sp) s t = Commits sp s t
StoresAs (Aborted sp) s t = t ≡ at_part sp part_close s
StoresAs (Ended sp) s t = t ≡ at_part sp part_close s
StoresAs (Activated pin) s t = t ≡ activated_with pin s
StoresAs (Reverted sp erasure) s t = t ≡ reverted sp s
StoresAs (Erased erasure) s t = t ≡ s
StoresAs (Drew count) s t = t ≡ s
StoresAs (HostTold com_id limits) s t = t ≡ s
StoresAs (StackReset com_id ends) s t = t ≡ closed_where ends s
StoresAs (StackTold com_id) s t = t ≡ s

-- a session of the SP holds also what an attempt there gained, behind what it held
abbrev pub with_each : List Uid → List Uid → List Uid
with_each [] held = held
with_each (a ∷ more) held = with_each more (if has held a then held else held ++ a ∷ [])

abbrev pub gains_on : Sp → List Uid → Option Holder → Option Holder
gains_on sp gains None = None
gains_on sp gains (Some h) =
    if sp_eq h.sp sp then Some (record h { held = with_each gains h.held }) else Some h

-- a Revert of the Admin SP ends all sessions, one of the Locking SP those on it
abbrev pub ended_by : Sp → Option Holder → Option Holder
ended_by Admin o = None
ended_by Locking o = unless_on Locking o

-- it began with the next number, on an SP that has no session
pub record Starts (session : Begun) (l m : Live) : Type 0 where
  pub number : session.number ≡ l.next
  pub next : m.next ≡ l.next + 1
  pub free : (n : ℕ) (h : Holder) → session_at l n ≡ Some h → sp_eq h.sp session.sp ≡ false
  pub at : (n : ℕ) → session_at m n
      ≡ (if l.next == n then Some (holder_of session) else session_at l n)

pub record Leaves (f : Option Holder → Option Holder) (l m : Live) : Type 0 where
  pub next : m.next ≡ l.next
  pub at : (n : ℕ) → session_at m n ≡ f (session_at l n)

abbrev pub LeavesAll : Live → Live → Type 0
LeavesAll l m = Leaves (λ h. h) l m

-- what a deed makes of the sessions
abbrev pub LivesAs : SessionDeed → Live → Live → Type 0
LivesAs (Started session row) l m = Starts session l m
LivesAs (Tried attempt) l m = Leaves (gains_on attempt.sp attempt.gained) l m
LivesAs (Ended sp) l m = Leaves (unless_on sp) l m
LivesAs (Reverted sp erasure) l m = Leaves (ended_by sp) l m
LivesAs Unchanged l m = LeavesAll l m
LivesAs (Changed sp change) l m = LeavesAll l m
LivesAs (Began sp number) l m = LeavesAll l m
LivesAs (Committed sp) l m = LeavesAll l m
LivesAs (Aborted sp) l m = LeavesAll l m
LivesAs (Activated pin) l m = LeavesAll l m
LivesAs (Erased erasure) l m = LeavesAll l m
LivesAs (Drew count) l m = LeavesAll l m
LivesAs (HostTold com_id limits) l m = LeavesAll l m
LivesAs (StackReset com_id ends) l m = Leaves (unless_ending ends) l m
LivesAs (StackTold com_id) l m = LeavesAll l m

-- what a deed makes of what is kept beside them
abbrev pub beside_after : SessionDeed → Beside → Beside
beside_after (Reverted Admin erasure) b = freed b
beside_after (Drew count) b = with_drawn count b
beside_after (HostTold com_id limits) b = with_limits com_id limits b
beside_after (StackReset com_id ends) b = with_reset_stack com_id b
beside_after (StackTold com_id) b = with_told_stack com_id b
beside_after _ b = b

-- what is answered, what denied or refused it, which sectors are erased, and what is made of the store and of the
-- sessions, is what an outcome says
pub record Meets (out : Outcome) (said : Message) (why : Option Why) (ruled : Option Rule)
    (erasure : Erasure) (s t : Stored) (l m : Live) : Type 0 where
  pub answer : said ≡ out.said
  pub denied : why ≡ out.denied
  pub rule : ruled ≡ out.rule
  pub erases : erasure ≡ erased_by out.deed
  pub store : StoresAs out.deed s t
  pub sessions : LivesAs out.deed l m
  pub beside : m.beside ≡ beside_after out.deed l.beside
