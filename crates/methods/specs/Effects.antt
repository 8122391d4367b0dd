-- Which methods a kind of object has, and what a session holds and sees.
use Rattle.std.specs.Prelude.{◌==◌, ◌-◌, ◌||◌, ℕ, Bool, true, false, List, [], Option, None, Some, Result, Ok, Err, if◌then◌else◌}
use Rattle.sp_cells.specs.declared.names.Uid.{Uid}
use Rattle.sp_cells.specs.declared.names.Sp.{Sp}
use Rattle.sp_cells.specs.declared.names.Sp.TheVariants.{Admin, Locking}
use Rattle.sp_cells.specs.declared.error.SetError.{SetError}
use Rattle.sp_cells.specs.declared.error.SetError.TheVariants as faults
use Rattle.sp_cells.specs.Names.{admin_sp}
use Rattle.sp_cells.specs.Flat.{LookUp}
use Rattle.audit.specs.declared.rules.rule.Rule.{Rule}
use Rattle.audit.specs.declared.rules.rule.Rule.TheVariants.{NotSet}
use Rattle.transactions.specs.declared.change.SessionId.{SessionId}
use Rattle.transactions.specs.declared.change.Change.{Change}
use Rattle.transactions.specs.Stored.{Stored, part, at_part, part_set, is_open}
use Rattle.transactions.specs.Changes.{fault_of_change}
use Rattle.transactions.specs.Sights.{look_up, sight_of}
use Rattle.tcg_calls.specs.declared.call_shapes.ask.Ask.{Ask}
use Rattle.tcg_calls.specs.declared.call_shapes.ask.Ask.TheVariants.{GetCells, GetBytes, SetCells, SetBytes, Authenticate, Activate, Revert, GenKey, RevertSp, Next, GetAcl, Random, Other}
use Rattle.sessions.specs.Live.{Live, Holder, session_at, holder_on}
use Rattle.methods.specs.declared.kinds.Kind.{Kind}
use Rattle.methods.specs.declared.kinds.Kind.TheVariants as kinds
use Rattle.methods.specs.declared.kinds.Handler.{Handler}
use Rattle.methods.specs.declared.kinds.Handler.TheVariants as handlers
use Rattle.methods.specs.Kinds.{kind_of}
use Rattle.methods.specs.Changes.{changed_object}
use Rattle.sessions.specs.Deeds.{Setting}

-- a kind of object has a method in this shape
abbrev pub has_ask : Option Kind → Ask → Bool
has_ask (Some kinds.ThisSp) (Authenticate authority proof) = true
has_ask (Some kinds.Sp) (GetCells first last) = true
has_ask (Some kinds.Sp) Activate = true
has_ask (Some kinds.Sp) Revert = true
has_ask (Some kinds.Authority) (GetCells first last) = true
has_ask (Some kinds.Authority) (SetCells ps) = true
has_ask (Some kinds.CPin) (GetCells first last) = true
has_ask (Some kinds.CPin) (SetCells ps) = true
has_ask (Some kinds.Ace) (GetCells first last) = true
has_ask (Some kinds.Ace) (SetCells ps) = true
has_ask (Some kinds.Locking) (GetCells first last) = true
has_ask (Some kinds.Locking) (SetCells ps) = true
has_ask (Some kinds.MbrControl) (GetCells first last) = true
has_ask (Some kinds.MbrControl) (SetCells ps) = true
has_ask (Some kinds.TperInfo) (GetCells first last) = true
has_ask (Some kinds.TperInfo) (SetCells ps) = true
has_ask (Some kinds.LockingInfo) (GetCells first last) = true
has_ask (Some kinds.Table) (GetCells first last) = true
has_ask (Some kinds.MbrTable) (GetBytes first last) = true
has_ask (Some kinds.MbrTable) (SetBytes at bytes) = true
has_ask (Some kinds.DataStore) (GetBytes first last) = true
has_ask (Some kinds.DataStore) (SetBytes at bytes) = true
has_ask (Some kinds.DataRemoval) (GetCells first last) = true
has_ask (Some kinds.DataRemoval) (SetCells ps) = true
has_ask (Some kinds.ThisSp) (RevertSp keep) = true
has_ask (Some kinds.ThisSp) (Random count) = true
has_ask (Some kinds.Key) GenKey = true
has_ask (Some kinds.Key) (GetCells first last) = true
has_ask (Some kinds.WholeTable) (Next after count) = true
has_ask (Some kinds.AccessControl) (GetAcl object method) = true
has_ask (Some kinds.ObjectTable) (GetCells first last) = true
has_ask (Some kinds.SpInfo) (GetCells first last) = true
has_ask (Some kinds.SpTemplates) (GetCells first last) = true
has_ask (Some kinds.MethodId) (GetCells first last) = true
has_ask (Some kinds.SecretProtect) (GetCells first last) = true
has_ask (Some kinds.Template) (GetCells first last) = true
has_ask _ _ = false

-- a kind of object has a Set, of columns or of bytes
abbrev pub has_set : Option Kind → Bool
has_set kind = has_ask kind (SetCells []) || has_ask kind (SetBytes 0 [])

-- a handler does what is asked in this shape
abbrev pub handles : Handler → Ask → Bool
handles handlers.ReadCells (GetCells first last) = true
handles handlers.ReadBytes (GetBytes first last) = true
handles handlers.WriteCells (SetCells ps) = true
handles handlers.WriteBytes (SetBytes at bytes) = true
handles handlers.Authenticate (Authenticate authority proof) = true
handles handlers.Activate Activate = true
handles handlers.Revert Revert = true
handles handlers.GenKey GenKey = true
handles handlers.RevertSp (RevertSp keep) = true
handles handlers.ListRows (Next after count) = true
handles handlers.ReadAcl (GetAcl object method) = true
handles handlers.Draw (Random count) = true
handles _ _ = false

-- what is asked, where the object's kind has it; else nothing that it knows
abbrev pub cased : Option Kind → Ask → Ask
cased kind ask = if has_ask kind ask then ask else Other

abbrev pub ask_at : Sp → Uid → Ask → Ask
ask_at sp object ask = cased (kind_of sp object) ask

-- a session, where it lives on its SP
abbrev pub live_holder : Live → SessionId → Option Holder
live_holder live session = holder_on session.sp (session_at live session.tsn)

-- the authorities that it holds; none where it does not live
abbrev pub held_of : Option Holder → List Uid
held_of None = []
held_of (Some h) = h.held

abbrev pub held_in : Live → SessionId → List Uid
held_in live session = held_of (live_holder live session)

-- the rows that a session sees
abbrev pub seen_by : Stored → SessionId → LookUp
seen_by s session = look_up (sight_of s session)

-- the session has a transaction open
abbrev pub has_transaction : Stored → SessionId → Bool
has_transaction s session = is_open (part s session.sp).pending session.tsn

-- the last one that is read, where none is named
abbrev pub last_row : ℕ → Option ℕ → ℕ
last_row size None = size - 1
last_row size (Some last) = last

-- why a Set does not make a change: the object's kind has no Set, or the change has a fault
abbrev pub fault_of_set : Stored → SessionId → Change → Option SetError
fault_of_set s session change = if has_set (kind_of session.sp (changed_object change))
    then fault_of_change s session.sp change else Some faults.NoCell

-- the store after a change that has this fault, or none
abbrev pub stored_after : Option SetError → Sp → Change → Stored → Stored
stored_after None sp change s = at_part sp (part_set change) s
stored_after (Some f) sp change s = s

-- a fault that is told to the host, and not want of memory
abbrev pub is_told : SetError → Bool
is_told faults.OutOfMemory = false
is_told faults.NoCell = true
is_told faults.WrongType = true
is_told faults.Overlap = true
is_told faults.Beyond = true
is_told faults.Expr = true

abbrev pub unless_fault : Option SetError → Setting → Result Setting Rule
unless_fault None st = Ok st
unless_fault (Some f) st = Err (NotSet f)

-- the SP that a row of the SP table names
abbrev pub sp_of_row : Uid → Sp
sp_of_row object = if object.0 == admin_sp.0 then Admin else Locking
