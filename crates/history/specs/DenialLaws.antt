-- Each denied act has exactly the reason that denied it, and no other act has one.
use Rattle.std.specs.Prelude.{◌≡◌, ◌⊎◌, ◌↔◌, ℕ, true, false, List, Option, Some, None, Ok}
use Rattle.sp_cells.specs.declared.names.Uid.{Uid}
use Rattle.sp_cells.specs.declared.names.Sp.{Sp}
use Rattle.locking.specs.declared.range.Op.{Op}
use Rattle.locking.specs.declared.range.Op.TheVariants.{Read, Write}
use Rattle.audit.specs.declared.reason.AttemptFailure.{AttemptFailure}
use Rattle.audit.specs.declared.reason.Why.{Why}
use Rattle.audit.specs.declared.reason.Why.TheVariants.{AttemptFailed}
use Rattle.tcg_tokens.specs.Message.{call}
use Rattle.tcg_tokens.specs.Reading.{reading as message_in}
use Rattle.tcg_tokens.specs.Tree.{Trees}
use Rattle.compacket.specs.Frames.{Frame}
use Rattle.trusted_cmds.specs.declared.command.Command.{Command}
use Rattle.trusted_cmds.specs.declared.command.Command.TheVariants.{ReadQueued, WriteQueued, ReadDma, WriteDma, ReadPio, WritePio, Verify, Trim}
use Rattle.trusted_cmds.specs.Trims.{extents_in}
use Rattle.locking.specs.declared.ranges.Verdict.TheVariants.{Denied}
use Rattle.sessions.specs.Attempts.{attempt_failure as failure_of}
use Rattle.tcg_calls.specs.Asks.{uid_of}
use Rattle.sp_cells.specs.Names.{properties, start_session}
use Rattle.sessions.specs.Deeds.{Begun}
use Rattle.tcg_calls.specs.declared.call_shapes.ask.Ask.{Ask}
use Rattle.methods.specs.Judgement.{asked, Attempts, denial}
use Rattle.tcg_calls.specs.Named.{values_of}
use Rattle.sessions.specs.declared.opening.Opening.{Opening}
use Rattle.sessions.specs.declared.opening.StartVerdict.TheVariants.{Attempted}
use Rattle.sessions.specs.Starts.{opening_of}
use Rattle.history.specs.Facts.{Facts, standing}
use Rattle.history.specs.Decisions.{on_drive, verdict_on, ranges_in_force, are_on_drive, first_denial}
use Rattle.history.specs.Tcg.{is_manager, is_method_of_manager, start_verdict, judgement_on}
use Rattle.history.specs.History.{Act, event_by}
use Rattle.history.specs.MethodLaws.{IsLookedAt, IsSent, IsCall}

-- The commands by which data are reached, and which: so many sectors of media, or of the shadow, from one on, to be read or
-- written. A queued command has a tag. A TRIM reaches the sectors that its payload names (`TrimLaw`); no other command reaches
-- data (`UnreachedLaw`).
pub data Reaches : Command → Option ℕ → Op → ℕ → ℕ → Type 0 where
  read_queued : {lba count tag : ℕ} → Reaches (ReadQueued lba count) (Some tag) Read lba count
  write_queued : {lba count tag : ℕ} → Reaches (WriteQueued lba count) (Some tag) Write lba count
  read_dma : {lba count : ℕ} → Reaches (ReadDma lba count) None Read lba count
  write_dma : {lba count : ℕ} → Reaches (WriteDma lba count) None Write lba count
  read_pio : {lba count : ℕ} → Reaches (ReadPio lba count) None Read lba count
  write_pio : {lba count : ℕ} → Reaches (WritePio lba count) None Write lba count
  verify : {lba count : ℕ} → Reaches (Verify lba count) None Read lba count

-- The tag of a queued command is free.
abbrev pub IsFree : Facts → Option ℕ → Type 0
IsFree f None = Unit {0}
IsFree f (Some tag) = f.held tag ≡ None

-- A transfer on the drive that comes to the policy, with its verdict.
pub record TransferDenied (f : Facts) (act : Act) (why : Why) : Type 0 where
  pub command : Command
  pub tag : Option ℕ
  pub looked : IsLookedAt f act command tag
  pub op : Op
  pub lba : ℕ
  pub count : ℕ
  pub moves : Reaches command tag op lba count
  pub free : IsFree f tag
  pub on_drive : on_drive f lba count ≡ true
  pub verdict : verdict_on f op lba count ≡ Denied why

-- A TRIM whose extents are all on the drive, and the first of them that is denied.
pub record TrimDenied (f : Facts) (act : Act) (why : Why) : Type 0 where
  pub blocks : ℕ
  pub looked : IsLookedAt f act (Trim blocks) None
  pub on_drive : are_on_drive f.config.sectors (extents_in looked.payload) ≡ true
  pub denial : first_denial (ranges_in_force f) (extents_in looked.payload) ≡ Some why

-- A call of the right shape that its ACEs deny.
pub record MethodDenied (f : Facts) (act : Act) (why : Why) : Type 0 where
  pub session : Begun
  pub object : List ℕ
  pub method : List ℕ
  pub args : Trees
  pub called : IsCall f act session object method args
  pub ask : Ask
  pub shaped : asked f.config.profile session.sp (uid_of object) (uid_of method) args ≡ Some ask
  pub denial : denial (standing f session) (uid_of object) (uid_of method) ask ≡ Some why

-- An attempt in a session that fails.
pub record AttemptDenied (f : Facts) (act : Act) (why : Why) : Type 0 where
  pub session : Begun
  pub object : List ℕ
  pub method : List ℕ
  pub args : Trees
  pub called : IsCall f act session object method args
  pub authority : Uid
  pub pin : List ℕ
  pub attempts : judgement_on f session (uid_of object) (uid_of method) args
      ≡ Attempts f.beside.block authority pin
  pub failure : AttemptFailure
  pub fails : failure_of f.beside.block f.rows session.sp authority pin ≡ Some failure
  pub why_is : why ≡ AttemptFailed session.sp authority failure

-- An attempt of a StartSession that fails.
pub record StartDenied (f : Facts) (act : Act) (why : Why) : Type 0 where
  pub com_id : ℕ
  pub frame : Frame
  pub sent : IsSent f act com_id frame
  pub manager : is_manager frame.session ≡ true
  pub object : List ℕ
  pub method : List ℕ
  pub args : Trees
  pub status : List ℕ
  pub calls : message_in frame.payload ≡ Ok (call object method args status)
  pub no_properties : is_method_of_manager properties (uid_of object) (uid_of method) ≡ false
  pub starts : is_method_of_manager start_session (uid_of object) (uid_of method) ≡ true
  pub opening : Opening
  pub shaped : opening_of f.config.profile (values_of args) ≡ Some opening
  pub sp : Sp
  pub failure : AttemptFailure
  pub fails : start_verdict f (Some opening) ≡ Attempted sp (Some failure)
  pub why_is : why ≡ AttemptFailed sp opening.authority failure

abbrev pub IsDenied : Facts → Act → Why → Type 0
IsDenied f act why =
    TransferDenied f act why ⊎ MethodDenied f act why ⊎ AttemptDenied f act why
    ⊎ StartDenied f act why ⊎ TrimDenied f act why

-- Exactly where it was denied for this reason; the left side has one reason at most.
abbrev pub DenialLaw : Type 0
DenialLaw =
    (f : Facts) (act : Act) (why : Why) → ((event_by f act).denied ≡ Some why) ↔ IsDenied f act why
