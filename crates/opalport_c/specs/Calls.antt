-- What a call by a handle does: nothing where the handle has nothing; else what the call does with the object. The
-- handle keeps its object.
use Rattle.std.specs.Prelude.{◌≡◌, ◌≢◌, ℕ, List, map, Option, Some, None}
use Rattle.library_calls.specs.declared.byte_calls.error.CallError.{CallError}
use Rattle.library_calls.specs.declared.byte_calls.error.CallError.TheVariants.{NotOpen, OtherKind, InUse, OutOfMemory}
use Rattle.opalport_c.specs.declared.answer.Answer.{Answer}
use Rattle.library_calls.specs.declared.byte_calls.count.Count.{Count}
use Rattle.opalport_c.specs.declared.failed.Failed.{Failed}
use Rattle.opalport_c.specs.declared.asked.RangeCells.{RangeCells}
use Rattle.opalport_c.specs.declared.asked.Size.{Size}
use Rattle.opalport_c.specs.declared.drive_desk.DriveDesk.{DriveDesk}
use Rattle.opalport_c.specs.declared.object.Object.{Object}
use Rattle.opalport_c.specs.declared.object.Object.TheVariants.{Drive, Port, Hba}
use Rattle.sp_cells.specs.Config.{Config}
use Rattle.port_history.specs.Requests.{no_bytes}
use Rattle.opalport_c.specs.Answers.{refused_answer}
use Rattle.library_calls.specs.Counts.{refused_count}
use Rattle.opalport_c.specs.Asked.{CanBe, ConfigAsked, IsMakingFault, StartsAs, row_asked}
use Rattle.library_calls.specs.Copies.{IsCopied, IsWrittenOut}
use Rattle.opalport_c.specs.Denials.{denial_at}
use Rattle.opalport_c.specs.Desks.{IsTakenAs, IsFinishedAs, IsResetAs, IsNewDesk, IsCopyOf, payload_count, expected_count, last_bytes, laid_data}
use Rattle.opalport_c.specs.Failures.{refused_failure, failure_numbers}
use Rattle.library_calls.specs.Refusals.{done_code, code_of_call}

-- what a handle had and has, where a handle with nothing is `refused`
abbrev pub ByHandle : Option Object → Option Object → Type 0 → (Object → Object → Type 0) → Type 0
ByHandle None None refused does = refused
ByHandle None (Some new) refused does = ⊥
ByHandle (Some old) None refused does = ⊥
ByHandle (Some old) (Some new) refused does = does old new

-- a drive that was there, and the drive that is there; what is none is refused, and stays
abbrev pub OfDrive : Object → Object → (CallError → Type 0) → (DriveDesk → DriveDesk → Type 0)
    → Type 0
OfDrive (Drive old) (Drive new) refused does = does old new
OfDrive (Drive old) _ refused does = ⊥
OfDrive old new refused does = refused OtherKind × (new ≡ old)

-- a call of a drive by its handle
abbrev pub ByDrive : Option Object → Option Object → (CallError → Type 0)
    → (DriveDesk → DriveDesk → Type 0) → Type 0
ByDrive had has refused does =
    ByHandle had has (refused NotOpen) (λ old new. OfDrive old new refused does)

-- The drive was given a command.
abbrev pub AcceptsBy : Option Object → Option Object → List ℕ → List ℕ → Answer → Type 0
AcceptsBy had has fis payload answer = ByDrive had has (λ e. answer ≡ refused_answer e)
    (λ old new. IsTakenAs old new fis payload answer)

-- The drive was to complete what it holds under a tag.
abbrev pub FinishesBy : Option Object → Option Object → ℕ → List ℕ → Answer → Type 0
FinishesBy had has tag payload answer = ByDrive had has (λ e. answer ≡ refused_answer e)
    (λ old new. IsFinishedAs old new tag payload answer)

-- The same two, with the data of the answer in a buffer.
abbrev pub AcceptsInto : Option Object → Option Object → List ℕ → List ℕ → List ℕ → List ℕ → Answer
    → Type 0
AcceptsInto had has fis payload into out answer =
    ByDrive had has (λ e. (answer ≡ refused_answer e) × (out ≡ into))
    (λ old new. IsTakenAs old new fis payload answer × (out ≡ laid_data answer new into))

abbrev pub FinishesInto : Option Object → Option Object → ℕ → List ℕ → List ℕ → List ℕ → Answer
    → Type 0
FinishesInto had has tag payload into out answer =
    ByDrive had has (λ e. (answer ≡ refused_answer e) × (out ≡ into))
    (λ old new. IsFinishedAs old new tag payload answer × (out ≡ laid_data answer new into))

-- The drive was to be reset.
abbrev pub Resets : Option Object → Option Object → ℕ → ℕ → Type 0
Resets had has kind code = ByDrive had has (λ e. code ≡ code_of_call e)
    (λ old new. IsResetAs old new kind code)

-- How many bytes a command brings, and a completion; the drive is as before.
abbrev pub CountsPayload : Option Object → Option Object → List ℕ → Count → Type 0
CountsPayload had has fis count = ByDrive had has (λ e. count ≡ refused_count e)
    (λ old new. (count ≡ payload_count old.drive fis) × (new ≡ old))

abbrev pub CountsExpected : Option Object → Option Object → ℕ → Count → Type 0
CountsExpected had has tag count = ByDrive had has (λ e. count ≡ refused_count e)
    (λ old new. (count ≡ expected_count old.drive tag) × (new ≡ old))

-- How the queue has failed.
abbrev pub TellsFailure : Option Object → Option Object → Failed → Type 0
TellsFailure had has failed = ByDrive had has (λ e. failed ≡ refused_failure e)
    (λ old new. (failed ≡ failure_numbers old.drive.queue.failure) × (new ≡ old))

-- a refused call leaves the buffer as it was
abbrev pub WritesNone : {A : Type 0} → List A → List A → Count → CallError → Type 0
WritesNone into out count error = (count ≡ refused_count error) × (out ≡ into)

-- The data of the last answer, and what denied it.
abbrev pub CopiesData : Option Object → Option Object → List ℕ → List ℕ → Count → Type 0
CopiesData had has into out count = ByDrive had has (WritesNone into out count)
    (λ old new. IsCopied (last_bytes old) into out count × (new ≡ old))

abbrev pub CopiesDenial : Option Object → Option Object → ℕ → List ℕ → List ℕ → Count → Type 0
CopiesDenial had has client into out count = ByDrive had has (WritesNone into out count)
    (λ old new. IsWrittenOut (denial_at old client) into out count × (new ≡ old))

-- A handle with nothing is given a drive that has answered nothing, or nothing was done.
pub record MakesDrive (had has : Option Object) (size : Size) (msid serial model psid : List ℕ)
    (cells : List RangeCells) (code : ℕ) : Type 0 where
  pub in_use : had ≢ None → (code ≡ code_of_call InUse) × (has ≡ had)
  pub opened : code ≡ done_code → (desk : DriveDesk) × (has ≡ Some (Drive desk))
      × IsNewDesk desk × ((config : Config) × ConfigAsked size msid serial model psid config
      × StartsAs config (map row_asked cells) desk.drive)
  pub refused : code ≢ done_code → has ≡ had
  pub can : code ≡ done_code → CanBe size msid serial model psid cells
  pub why : had ≡ None → code ≢ done_code → (error : CallError) × (code ≡ code_of_call error)
      × IsMakingFault size msid serial model psid cells error

-- What is there once more: a drive, a port with the same steps behind it, a controller.
abbrev pub CopiesObject : Object → Object → Type 0
CopiesObject (Drive desk) (Drive copied) = IsCopyOf desk copied
CopiesObject (Port desk) (Port copied) = (copied.port ≡ desk.port) × (copied.last ≡ no_bytes)
CopiesObject (Hba desk) (Hba copied) = (copied.hba ≡ desk.hba) × (copied.denied ≡ desk.denied)
CopiesObject _ _ = ⊥

-- Why what one handle has is not copied to another: that has something, or the first has nothing.
abbrev pub IsCopyFault : Option Object → Option Object → CallError → Type 0
IsCopyFault (Some there) from error = error ≡ InUse
IsCopyFault None None error = error ≡ NotOpen
IsCopyFault None (Some object) error = error ≡ OutOfMemory

-- A handle with nothing is given what another one has once more, or nothing was done. The other one is as before.
pub record Copies (had has from after : Option Object) (code : ℕ) : Type 0 where
  pub other : after ≡ from
  pub copied : code ≡ done_code → (object copied : Object) × (had ≡ None) × (from ≡ Some object)
      × (has ≡ Some copied) × CopiesObject object copied
  pub refused : code ≢ done_code → has ≡ had
  pub why : code ≢ done_code
      → (error : CallError) × (code ≡ code_of_call error) × IsCopyFault had from error
