-- The order of refusals, as lists of rules: each with whether it applies, and what it comes to. What comes of a StartSession, or of
-- an attempt on an authority, is that of the first rule that applies (Core 2.01, sections 5.2.3.1 and 5.3.4.1; Block SID
-- Authentication feature set 1.00; the order is this drive's own).
use Rattle.std.specs.Prelude.{◌≡◌, ◌==◌, ℕ, Bool, not, ◌&&◌, ◌||◌, List, [], ◌∷◌, Option, None, Some, unwrap_or, if◌then◌else◌}
use Rattle.sp_cells.specs.declared.names.Sp.{Sp}
use Rattle.sp_cells.specs.declared.names.Uid.{Uid}
use Rattle.sp_cells.specs.Names.{anybody, sid}
use Rattle.sp_cells.specs.ColumnNames.{enabled_column, is_class_column, pin_column, tries_column, try_limit_column}
use Rattle.sp_cells.specs.Flat.{LookUp}
use Rattle.sp_cells.specs.Ranges.{number}
use Rattle.audit.specs.declared.reason.AttemptFailure.{AttemptFailure}
use Rattle.audit.specs.declared.reason.AttemptFailure.TheVariants.{WrongPin, LockedOut, Disabled, Blocked, Unknown}
use Rattle.audit.specs.declared.rules.rule.Rule.TheVariants.{Shape, UnknownSp, NotInUse, SpBusy, NoNumber}
use Rattle.trusted_cmds.specs.declared.block.SidBlock.{SidBlock}
use Rattle.trusted_cmds.specs.BlockSid.{is_blocked}
use Rattle.tcg_calls.specs.Statuses.{sp_busy, no_sessions_available, invalid_parameter}
use Rattle.sessions.specs.declared.opening.Opening.{Opening}
use Rattle.sessions.specs.declared.opening.StartVerdict.{StartVerdict}
use Rattle.sessions.specs.declared.opening.StartVerdict.TheVariants.{Refused, Attempted}
use Rattle.sessions.specs.Attempts.{is_there, credential, is_pin, is_used_up, attempt_failure}
use Rattle.sessions.specs.Live.{Live, lives_on}
use Rattle.sessions.specs.Starts.{sp_named, is_in_use, is_full, verdict}

-- what the first rule comes to that applies
abbrev pub first_applying : {A : Type 0} → List (Bool × A) → Option A
first_applying [] = None
first_applying (rule ∷ later) = if rule.0 then Some rule.1 else first_applying later

-- an authority that the SP has not, or a class of them
abbrev pub is_unknown : LookUp → Sp → Uid → Bool
is_unknown look sp authority =
    not (is_there look sp authority) || (number look sp authority is_class_column == 1)

abbrev pub is_disabled : LookUp → Sp → Uid → Bool
is_disabled look sp authority = not (number look sp authority enabled_column == 1)

-- SID, while it is blocked
abbrev pub is_shut : SidBlock → Uid → Bool
is_shut block authority = is_blocked block && (authority.0 == sid.0)

-- every authority but Anybody has a PIN
abbrev pub has_pin : Uid → Bool
has_pin authority = not (authority.0 == anybody.0)

-- its PIN row allows no attempt any more
abbrev pub has_no_tries : LookUp → Sp → Uid → Bool
has_no_tries look sp pin =
    is_used_up (number look sp pin try_limit_column) (number look sp pin tries_column)

abbrev pub proves_wrong : LookUp → Sp → Uid → List ℕ → Bool
proves_wrong look sp pin proof = not (is_pin proof (look sp pin pin_column))

-- how an attempt fails
abbrev pub failures : SidBlock → LookUp → Sp → Uid → List ℕ → List (Bool × AttemptFailure)
failures block look sp authority proof =
    (is_unknown look sp authority, Unknown)
    ∷ (is_disabled look sp authority, Disabled)
    ∷ (is_shut block authority, Blocked)
    ∷ (has_pin authority && has_no_tries look sp (credential look sp authority), LockedOut)
    ∷ (has_pin authority && proves_wrong look sp (credential look sp authority) proof, WrongPin)
    ∷ []

abbrev pub AttemptOrder : Type 0
AttemptOrder = (block : SidBlock) (look : LookUp) (sp : Sp) (authority : Uid) (proof : List ℕ)
    → attempt_failure block look sp authority proof
    ≡ first_applying (failures block look sp authority proof)

-- why there is no attempt: the SP is not in use, a session lives on it, no number is left
abbrev pub refusals : LookUp → Live → Sp → List (Bool × StartVerdict)
refusals look l sp = (not (is_in_use look sp), Refused invalid_parameter NotInUse)
    ∷ (lives_on sp l, Refused sp_busy SpBusy)
    ∷ (is_full l, Refused no_sessions_available NoNumber)
    ∷ []

-- the attempt that comes where nothing refuses it
abbrev pub attempted : LookUp → Live → Opening → Sp → StartVerdict
attempted look l o sp =
    Attempted sp (first_applying (failures l.beside.block look sp o.authority o.proof))

-- of a StartSession its shape is told first, then an SP that there is not; then the list
pub record StartsInOrder (look : LookUp) (l : Live) : Type 0 where
  pub shape : verdict look l None ≡ Refused invalid_parameter Shape
  pub unknown_sp : (o : Opening) → sp_named o.spid ≡ None
      → verdict look l (Some o) ≡ Refused invalid_parameter UnknownSp
  pub of_sp : (o : Opening) (sp : Sp) → sp_named o.spid ≡ Some sp
      → verdict look l (Some o)
      ≡ unwrap_or (first_applying (refusals look l sp)) (attempted look l o sp)

abbrev pub StartOrder : Type 0
StartOrder = (look : LookUp) (l : Live) → StartsInOrder look l
