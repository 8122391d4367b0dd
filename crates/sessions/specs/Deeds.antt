-- What an item does, sent to the session manager or to a session, and how it is answered. A deed names its SP, and
-- records what it did: the session as it began, the PIN that an Activate copied, which sectors were erased.
use Rattle.std.specs.Prelude.{ℕ, Bool, List, [], Option, None, Some}
use Rattle.sp_cells.specs.declared.names.Uid.{Uid}
use Rattle.sp_cells.specs.declared.names.Sp.{Sp}
use Rattle.sp_cells.specs.declared.names.Column.{Column}
use Rattle.sp_cells.specs.declared.cells.Cell.{Cell}
use Rattle.sp_cells.specs.Flat.{LookUp}
use Rattle.shadow_mbr.specs.declared.erasure.Erasure.{Erasure}
use Rattle.shadow_mbr.specs.Erasure.{no_sectors}
use Rattle.audit.specs.declared.reason.AttemptFailure.{AttemptFailure}
use Rattle.audit.specs.declared.reason.Why.{Why}
use Rattle.audit.specs.declared.rules.rule.Rule.{Rule}
use Rattle.tcg_tokens.specs.Message.{Message}
use Rattle.sessions.specs.Attempts.{credential}
use Rattle.sessions.specs.Gains.{gained as gained_by}
use Rattle.sessions.specs.declared.beside.HostLimits.{HostLimits}
use Rattle.sessions.specs.Live.{Holder}

-- what a call sets: cells of its object, or bytes of the byte table
pub data Setting : Type 0 where
  cells_set : Uid → List (Column × Cell) → Setting
  bytes_set : ℕ → List ℕ → Setting

-- what comes into force
pub data Change : Type 0 where
  -- cells of an object, or bytes of the shadow
  Sets : (setting : Setting) → Change
  -- the factory's cells, and a shadow of zeros
  Restores : Change
  -- the locks and the shadow that a reset of this kind sets
  Resets : (kind : ℕ) → Change

-- a session as it began, with the authorities that it held then (Core 2.01, section 3.3.7)
pub record Begun : Type 0 where
  pub number : ℕ
  pub host : ℕ
  pub com_id : ℕ
  pub sp : Sp
  pub authorities : List Uid

-- the same as it is kept under its number
abbrev pub holder_of : Begun → Holder
holder_of s = record { sp = s.sp; com_id = s.com_id; host = s.host; held = s.authorities }

-- an attempt that began no session: on an authority of an SP whose C_PIN row is `row`. A right one, which has no
-- failure, was made in a session, which gained these authorities
pub record Attempt : Type 0 where
  pub sp : Sp
  pub authority : Uid
  pub row : Uid
  pub failure : Option AttemptFailure
  pub gained : List Uid

-- what an item did
pub data SessionDeed : Type 0 where
  Unchanged : SessionDeed
  Started : (session : Begun) (row : Uid) → SessionDeed
  Tried : (attempt : Attempt) → SessionDeed
  Changed : (sp : Sp) (change : Change) → SessionDeed
  Began : (sp : Sp) (number : ℕ) → SessionDeed
  Committed : (sp : Sp) → SessionDeed
  Aborted : (sp : Sp) → SessionDeed
  Ended : (sp : Sp) → SessionDeed
  Activated : (pin : Option Cell) → SessionDeed
  Reverted : (sp : Sp) (erasure : Erasure) → SessionDeed
  Erased : (erasure : Erasure) → SessionDeed
  -- so many random bytes were given
  Drew : (count : ℕ) → SessionDeed
  -- a host told what it takes on a ComID
  HostTold : (com_id : ℕ) (limits : HostLimits) → SessionDeed
  -- the stack of a ComID was reset, and the sessions of these SPs, which are on it, ended
  StackReset : (com_id : ℕ) (ends : Sp → Bool) → SessionDeed
  -- nothing is to be told any more of the stack of a ComID
  StackTold : (com_id : ℕ) → SessionDeed

-- which sectors become zeros
abbrev pub erased_by : SessionDeed → Erasure
erased_by (Reverted sp erasure) = erasure
erased_by (Erased erasure) = erasure
erased_by _ = no_sectors

-- what it does and is answered, what denied it, and which rule refused it, where nothing denied it
pub record Outcome : Type 0 where
  pub deed : SessionDeed
  pub said : Message
  pub denied : Option Why
  pub rule : Option Rule

abbrev pub says : SessionDeed → Message → Outcome
says deed said = record { deed = deed; said = said; denied = None; rule = None }

-- what a rule refuses does nothing
abbrev pub refuses : Message → Rule → Outcome
refuses said rule = record { deed = Unchanged; said = said; denied = None; rule = Some rule }

-- an attempt goes by the rows in force, never by an open transaction's; a right one gains the authority and its class
abbrev pub gains_of : LookUp → Sp → Uid → Option AttemptFailure → List Uid
gains_of rows sp authority None = gained_by rows sp authority []
gains_of rows sp authority (Some failure) = []

abbrev pub tried : LookUp → Sp → Uid → Option AttemptFailure → List Uid → SessionDeed
tried rows sp authority failure gains =
    Tried (record {
      sp = sp;
      authority = authority;
      row = credential rows sp authority;
      failure = failure;
      gained = gains;
    })
