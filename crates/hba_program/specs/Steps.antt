-- What a controller does for a host: each request, and the lines of a host to their end.
use Rattle.std.specs.Prelude.{◌≡◌, ℕ, zero, suc, ◌+◌, ◌-◌, ◌^◌, ◌<◌, nat_lt, ◌||◌, ◌⊎◌, Bool, true, false, List, [], ◌∷◌, ◌++◌, length, Option, None, Some, IfSome, Result, Ok, Err, if◌then◌else◌}
use Rattle.std.specs.Io.BufRead.{strip_last}
use Rattle.std.specs.Io.KnownBytes.{Appends}
use Rattle.shadow_mbr.specs.Stored.{sector_at}
use Rattle.drive_scripts.specs.Kept.{KeptReasons}
use Rattle.history.specs.Opening.{Origin}
use Rattle.drive.specs.State.{DriveState, Agrees}
use Rattle.hba.specs.History.{over_new_by, State, Operation, Wrote, Powered, Adds, AgreesHba, denial_heard}
use Rattle.hba.specs.Registers.{word_at, line}
use Rattle.hba.specs.Ready.{ready_on, picked}
use Rattle.hba.specs.Engine.{HearsTo}
use Rattle.hba.specs.declared.work.TurnedHeard.{TurnedHeard}
use Rattle.hba_program.specs.Replies.{reply_line, error_line}
use Rattle.hba_program.specs.Requests.{host_request, request_fault_text}
use Rattle.hba_program.specs.declared.hba_tool.session.Told.{Told}
use Rattle.hba_program.specs.declared.hba_lines.reply.Reply.TheVariants as says
use Rattle.hba_program.specs.declared.hba_lines.request.Request.{Request}
use Rattle.hba_program.specs.declared.hba_lines.request.Request.TheVariants as asks
use Rattle.hba_program.specs.declared.hba_lines.request.RequestFault.{RequestFault}
use Rattle.hba_program.specs.Wires.{Accesses, left_of, SameWriter, SameMarks, TakesOne}
use Rattle.hba_program.specs.declared.hba_wire.wire.Wire.{Wire}
use Rattle.sp_cells.specs.Config.{Config}
use Rattle.hba_program.specs.Openings.{option_rows, OpensAs}
use Rattle.hba_program.specs.Sayings.{DeniedCommand, work_tag, work_reply, work_text, denials_text, sector_line, kept_denial}
use Rattle.hba_program.specs.Explained.{source_at, ExplainsOperation, StartsTelling}
use Rattle.hba_program.specs.declared.hba_tool.session.Session.{Session}
use Rattle.hba_program.specs.declared.hba_tool.way.Way.{Way}

-- a controller, what is kept where reasons are told, the denials that were not told, and the pipe to its host
pub record Stand (R W : Type 0) : Type 0 where
  pub hba : State
  pub kept : Option KeptReasons
  pub denials : List DeniedCommand
  pub wire : Wire R W

abbrev pub stand : {R W : Type 0} → Session → Wire R W → Stand R W
stand session wire = record {
  hba = session.hba;
  kept = session.explainer;
  denials = session.denials.items;
  wire = wire;
}

-- lines are said, and nothing is read
pub record SaysLines {R W : Type 0} (remaining : R → Option (List ℕ))
    (contents : W → Option (List ℕ)) (text : List ℕ) (old new : Wire R W) : Type 0 where
  pub said : Appends (contents old.output.now) (contents new.output.now) text
  pub left : left_of remaining new ≡ left_of remaining old
  pub same : SameWriter old new
  pub marks : SameMarks old new

-- lines are said, and the controller stays as it is
pub record TellsHost {R W : Type 0} (remaining : R → Option (List ℕ))
    (contents : W → Option (List ℕ)) (text : List ℕ) (before after : Stand R W) : Type 0 where
  pub hba : after.hba ≡ before.hba
  pub kept : after.kept ≡ before.kept
  pub denials : after.denials ≡ before.denials
  pub says : SaysLines remaining contents text before.wire after.wire

-- a work is done over the pipe in the request of a number, where no call of a stream failed; its last line is this, what
-- denied it is kept, and, if reasons are told, so is why the command of its operation was refused
pub record Works {R W : Type 0} (remaining : R → Option (List ℕ)) (contents : W → Option (List ℕ))
    (number choice : ℕ) (told : Told) (before after : Stand R W) : Type 0 where
  pub turned : TurnedHeard
  pub is_picked : picked choice (ready_on before.hba) ≡ Some turned.work
  pub does : HearsTo (Accesses remaining contents) before.hba before.wire after.hba after.wire
      turned
  pub is_reply : told.reply ≡ work_reply turned.work turned.done
  pub explains : ExplainsOperation (source_at number (work_tag turned.work)) before.kept after.kept
      before.hba does.1 told.reasons.items
  pub keeps : after.denials
      ≡ before.denials ++ kept_denial after.hba.acts (work_tag turned.work)
      (denial_heard turned.heard) told.reasons.items
  pub stands : after.wire.failure ≡ None

-- none is ready, and nothing changes
pub record Rests {R W : Type 0} (before after : Stand R W) : Type 0 where
  pub idle : ready_on before.hba ≡ []
  pub same : after ≡ before

-- the work of a number is done, or none is ready
abbrev pub WorksIf : {R W : Type 0} → (R → Option (List ℕ)) → (W → Option (List ℕ)) → ℕ → ℕ
    → Option Told → Stand R W → Stand R W → Type 0
WorksIf remaining contents number choice None before after = Rests before after
WorksIf remaining contents number choice (Some told) before after =
    Works remaining contents number choice told before after

-- a line is said, unless the input ended before
abbrev pub TellsUnless : {R W : Type 0} → (R → Option (List ℕ)) → (W → Option (List ℕ)) → Bool
    → List ℕ → Stand R W → Stand R W → Type 0
TellsUnless remaining contents true text before after = after ≡ before
TellsUnless remaining contents false text before after =
    TellsHost remaining contents text before after

-- the work of a number is done, and its last line said, with what is told of its command
pub record Turns {R W : Type 0} (remaining : R → Option (List ℕ)) (contents : W → Option (List ℕ))
    (number choice : ℕ) (before after : Stand R W) : Type 0 where
  pub told : Option Told
  pub middle : Stand R W
  pub works : WorksIf remaining contents number choice told before middle
  pub tells : TellsUnless remaining contents middle.wire.is_cut_off (work_text told) middle after

-- so many turns, each with the first work
unfoldable pub TurnsOn : {R W : Type 0} → (R → Option (List ℕ)) → (W → Option (List ℕ)) → ℕ
    → ℕ → Stand R W → Stand R W → Type 0
TurnsOn remaining contents number zero before after = after ≡ before
TurnsOn {R} {W} remaining contents number (suc n) before after =
    (middle : Stand R W) × TurnsOn remaining contents number n before middle
    × Turns remaining contents number 0 middle after

-- turns until none is ready, which is told, or until the input ended
pub record RunsOut {R W : Type 0} (remaining : R → Option (List ℕ)) (contents : W → Option (List ℕ))
    (number : ℕ) (before after : Stand R W) : Type 0 where
  pub count : ℕ
  pub middle : Stand R W
  pub turns : TurnsOn remaining contents number count before middle
  pub tells : TellsUnless remaining contents middle.wire.is_cut_off
      (reply_line (says.Ran count)) middle after
  pub idle : middle.wire.is_cut_off ≡ false → count < 2 ^ 32 - 1 → ready_on middle.hba ≡ []

-- the host's write, or a power cycle, is done
pub record Operates {R W : Type 0} (remaining : R → Option (List ℕ))
    (contents : W → Option (List ℕ)) (number : ℕ) (operation : Operation)
    (before after : Stand R W) : Type 0 where
  pub adds : Adds operation before.hba after.hba
  pub explains : ExplainsOperation (source_at number 0) before.kept after.kept before.hba
      operation []
  pub denials : after.denials ≡ before.denials
  pub says : SaysLines remaining contents (reply_line says.Done) before.wire after.wire

-- the denials are told, and told once
pub record TellsWhy {R W : Type 0} (remaining : R → Option (List ℕ))
    (contents : W → Option (List ℕ)) (before after : Stand R W) : Type 0 where
  pub hba : after.hba ≡ before.hba
  pub kept : after.kept ≡ before.kept
  pub denials : after.denials ≡ []
  pub says : SaysLines remaining contents (reply_line (says.Denials (length before.denials))
      ++ denials_text before.denials) before.wire after.wire

-- the bytes of a sector, if the drive has it
abbrev pub sector_text : DriveState → ℕ → List ℕ
sector_text drive lba =
    if nat_lt lba drive.tper.store.config.sectors then sector_line (sector_at drive.media lba)
    else reply_line says.NoSector

-- a request is answered
abbrev pub AnswersHost : {R W : Type 0} → (R → Option (List ℕ)) → (W → Option (List ℕ)) → ℕ
    → Request → Stand R W → Stand R W → Type 0
AnswersHost remaining contents number (asks.Read offset) before after = TellsHost remaining contents
    (reply_line (says.Word (word_at before.hba.registers offset))) before after
AnswersHost remaining contents number (asks.Write offset value) before after =
    Operates remaining contents number (Wrote offset value) before after
AnswersHost remaining contents number (asks.Turn choice) before after =
    Turns remaining contents number choice before after
AnswersHost remaining contents number asks.Run before after =
    RunsOut remaining contents number before after
AnswersHost remaining contents number asks.Interrupt before after = TellsHost remaining contents
    (reply_line (says.Line (line before.hba.registers))) before after
AnswersHost remaining contents number asks.Why before after =
    TellsWhy remaining contents before after
AnswersHost remaining contents number asks.PowerCycle before after =
    Operates remaining contents number Powered before after
AnswersHost remaining contents number (asks.Sector lba) before after =
    TellsHost remaining contents (sector_text before.hba.drive lba) before after

-- the host is told that a line is none
pub record Complains {R W : Type 0} (remaining : R → Option (List ℕ))
    (contents : W → Option (List ℕ)) (fault : RequestFault) (before after : Stand R W)
    : Type 0 where
  pub hba : after.hba ≡ before.hba
  pub kept : after.kept ≡ before.kept
  pub denials : after.denials ≡ before.denials
  pub said : Appends (contents before.wire.output.now) (contents after.wire.output.now)
      (error_line (request_fault_text fault))
  pub left : left_of remaining after.wire ≡ left_of remaining before.wire
  pub same : SameWriter before.wire after.wire
  pub complained : after.wire.has_complained ≡ true
  pub cut_off : after.wire.is_cut_off ≡ before.wire.is_cut_off
  pub failure : after.wire.failure ≡ before.wire.failure

-- what a line asks for is done, or the host is told that it is none
abbrev pub DoesLine : {R W : Type 0} → (R → Option (List ℕ)) → (W → Option (List ℕ)) → ℕ
    → Result Request RequestFault → Stand R W → Stand R W → Type 0
DoesLine remaining contents number (Ok request) before after =
    AnswersHost remaining contents number request before after
DoesLine remaining contents number (Err fault) before after =
    Complains remaining contents fault before after

-- the next line is read, and nothing is written
pub record ReadsLine {R W : Type 0} (remaining : R → Option (List ℕ)) (is_line : Bool)
    (before after : Stand R W) : Type 0 where
  pub hba : after.hba ≡ before.hba
  pub kept : after.kept ≡ before.kept
  pub denials : after.denials ≡ before.denials
  pub taken : IfSome (left_of remaining before.wire)
      (λ text. TakesOne is_line after.wire.line.items text (left_of remaining after.wire))
  pub same : SameWriter before.wire after.wire
  pub unwritten : after.wire.output.now ≡ before.wire.output.now
  pub marks : SameMarks before.wire after.wire

-- what the line at hand asks for is done, as the request of a number
abbrev pub DoesHere : {R W : Type 0} → (R → Option (List ℕ)) → (W → Option (List ℕ)) → ℕ
    → Stand R W → Stand R W → Type 0
DoesHere remaining contents number before after =
    DoesLine remaining contents number (host_request (strip_last 10 before.wire.line.items))
    before after

-- a line that was done: its number, and the controller that it left
pub record DoneLine : Type 0 where
  pub number : ℕ
  pub hba : State

-- So many lines are read, each done before the next; the input did not end in one before the last. They are counted from 1,
-- and this is what each left, the last first.
unfoldable pub DoesLines : {R W : Type 0} → (R → Option (List ℕ)) → (W → Option (List ℕ)) → ℕ
    → List DoneLine → Stand R W → Stand R W → Type 0
DoesLines remaining contents zero left before after = (after ≡ before) × (left ≡ [])
DoesLines {R} {W} remaining contents (suc n) left before after =
    (middle : Stand R W) × (reading : Stand R W) × (earlier : List DoneLine)
    × DoesLines remaining contents n earlier before middle
    × ReadsLine remaining true middle reading
    × DoesHere remaining contents (n + 1) reading after
    × (left ≡ record { number = n + 1; hba = after.hba } ∷ earlier)

-- the status: 2 where the input ended in a work, or a line was none
abbrev pub lines_status : {R W : Type 0} → Wire R W → ℕ
lines_status wire = if wire.is_cut_off || wire.has_complained then 2 else 0

-- no line is left, or the input ended in the last, or there were as many lines as are read
abbrev pub HasNoMore : {R W : Type 0} → (R → Option (List ℕ)) → ℕ → Stand R W → Stand R W
    → Type 0
HasNoMore remaining count last after =
    ReadsLine remaining false last after
    ⊎ ((after ≡ last) × ((last.wire.is_cut_off ≡ true) ⊎ (count ≡ 2 ^ 64 - 1)))

-- the lines of a host are done, to a status
pub record DoesAll {R W : Type 0} (remaining : R → Option (List ℕ)) (contents : W → Option (List ℕ))
    (status : ℕ) (before after : Stand R W) : Type 0 where
  pub count : ℕ
  pub left : List DoneLine
  pub last : Stand R W
  pub lines : DoesLines remaining contents count left before last
  pub no_more : HasNoMore remaining count last after
  pub is_status : status ≡ lines_status after.wire

-- at the start: the whole input is left, nothing is said, and the controller is over this drive
pub record StartsServing {R W : Type 0} (remaining : R → Option (List ℕ))
    (contents : W → Option (List ℕ)) (way : Way) (drive : DriveState)
    (input written : Option (List ℕ)) (first : Stand R W) : Type 0 where
  pub hba : (o : Origin) → Agrees drive o [] → AgreesHba first.hba (over_new_by way.width o) []
  pub kept : StartsTelling way.explains first.kept drive
  pub denials : first.denials ≡ []
  pub left : left_of remaining first.wire ≡ input
  pub unwritten : contents first.wire.output.now ≡ written
  pub cut_off : first.wire.is_cut_off ≡ false
  pub complained : first.wire.has_complained ≡ false
  pub failure : first.wire.failure ≡ None

-- A host is served to the end of its lines, in this way: `input` is what it said, `old` and `new` are what the
-- writer held before and behind.
pub record ServesHost {R W : Type 0} (remaining : R → Option (List ℕ))
    (contents : W → Option (List ℕ)) (way : Way) (drive : DriveState)
    (input : Option (List ℕ)) (status : ℕ) (old new : Option (List ℕ)) : Type 0 where
  pub first : Stand R W
  pub last : Stand R W
  pub starts : StartsServing remaining contents way drive input old first
  pub does : DoesAll remaining contents status first last
  pub written : contents last.wire.output.now ≡ new

-- the same by the controller of a drive that the configuration and the texts of ranges open
abbrev pub ServesOpened : {R W : Type 0} → (R → Option (List ℕ)) → (W → Option (List ℕ)) → Way
    → Config → List (List ℕ) → Option (List ℕ) → ℕ → Option (List ℕ) → Option (List ℕ) → Type 0
ServesOpened remaining contents way config ranges input status old new =
    (o : Origin) × (drive : DriveState) × OpensAs config (option_rows ranges) o
    × Agrees drive o [] × ServesHost remaining contents way drive input status old new
