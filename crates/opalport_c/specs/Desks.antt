-- A drive that a caller from outside works on.
use Rattle.std.specs.Prelude.{◌≡◌, ◌≢◌, ◌<◌, ◌==◌, ◌&&◌, ◌+◌, ◌%◌, ◌^◌, ◌++◌, ℕ, IfSome, List, [], ◌∷◌, length, drop, nat_le, nat_lt, is_some, false, if◌then◌else◌, Option, Some, None}
use Rattle.fis.specs.Types.{h2d_length}
use Rattle.fis.specs.Tags.{slot_count}
use Rattle.fis.specs.H2d.{h2d_at}
use Rattle.history.specs.Opening.{Origin}
use Rattle.history.specs.Facts.{facts}
use Rattle.history.specs.Answers.{expected, payload_of, ready}
use Rattle.history.specs.History.{Act, Accept, Complete, Reset, log, event}
use Rattle.history.specs.Readers.{held}
use Rattle.drive.specs.State.{DriveState, Agrees}
use Rattle.drive.specs.Queue.{held_at}
use Rattle.drive.specs.Answers.{IsAnswer, IsCompletion}
use Rattle.drive.specs.declared.answer.Completed.{Completed}
use Rattle.library_calls.specs.declared.byte_calls.error.CallError.{CallError}
use Rattle.library_calls.specs.declared.byte_calls.error.CallError.TheVariants.{OutOfMemory, Length, Tag, Number, NotHeld}
use Rattle.opalport_c.specs.declared.answer.Answer.{Answer}
use Rattle.library_calls.specs.declared.byte_calls.count.Count.{Count}
use Rattle.opalport_c.specs.declared.drive_desk.DriveDesk.{DriveDesk}
use Rattle.library_calls.specs.Refusals.{done_code, code_of_call}
use Rattle.opalport_c.specs.Answers.{refused_answer}
use Rattle.library_calls.specs.Counts.{refused_count, given_count}

-- What is wrong with a command from outside: its FIS, or its payload, has another length than it is to have.
abbrev pub command_fault : DriveState → List ℕ → List ℕ → Option CallError
command_fault d fis payload = if (length fis == h2d_length)
    && (length payload == payload_of d.tper.store.config fis) then None else Some Length

-- The drive took the command: whatever was done before, it agrees with that and this act, and its answer is the act's.
pub record TakesCommand (old new : DriveDesk) (fis payload : List ℕ) : Type 0 where
  pub agrees : (o : Origin) (acts : List Act) → Agrees old.drive o acts
      → Agrees new.drive o (Accept fis payload ∷ acts)
  pub answer : (o : Origin) (acts : List Act) → Agrees old.drive o acts
      → IsAnswer (facts o (log o acts)) (h2d_at fis) (event o (log o acts) (Accept fis payload))
      new.answer
  pub last : new.done ≡ None
  pub acts : new.acts ≡ (old.acts + 1) % 2 ^ 64
  pub answered : new.answered ≡ (old.acts + 1) % 2 ^ 64

-- What is wrong with a completion from outside: there is no such tag, nothing is held under it, or the payload has
-- another length than what is held expects.
abbrev pub held_fault : DriveState → ℕ → List ℕ → Option CallError
held_fault d tag payload = if is_some (held_at d.queue tag)
    then (if length payload == expected (held_at d.queue tag) then None else Some Length)
    else Some NotHeld

abbrev pub completion_fault : DriveState → ℕ → List ℕ → Option CallError
completion_fault d tag payload =
    if nat_lt tag slot_count then held_fault d tag payload else Some Tag

-- The drive completed what it held: it agrees with the acts and this one, and gives what was held.
pub record CompletesHeld (old new : DriveDesk) (tag : ℕ) (payload : List ℕ) : Type 0 where
  pub agrees : (o : Origin) (acts : List Act) → Agrees old.drive o acts
      → Agrees new.drive o (Complete tag payload ∷ acts)
  pub gives : (done : Completed) × (new.done ≡ Some done)
      × ((o : Origin) (acts : List Act) → Agrees old.drive o acts
      → IsCompletion (facts o (log o acts)) tag (held (log o acts) tag) done)
  pub acts : new.acts ≡ (old.acts + 1) % 2 ^ 64

-- What the last call gave, in numbers.
abbrev pub completed_numbers : Completed → Answer
completed_numbers done = record {
  code = done_code;
  status = ready;
  error = 0;
  held = false;
  denied = false;
  length = length done.bytes.items;
}

abbrev pub accepted_numbers : DriveDesk → Answer
accepted_numbers desk = record {
  code = done_code;
  status = desk.answer.status;
  error = desk.answer.error;
  held = desk.answer.held;
  denied = is_some desk.answer.denied;
  length = length desk.answer.bytes.items;
}

abbrev pub numbers_by : Option Completed → DriveDesk → Answer
numbers_by (Some done) desk = completed_numbers done
numbers_by None desk = accepted_numbers desk

abbrev pub numbers_at : DriveDesk → Answer
numbers_at desk = numbers_by desk.done desk

-- The data of the last answer.
abbrev pub last_bytes_by : Option Completed → DriveDesk → List ℕ
last_bytes_by (Some done) desk = done.bytes.items
last_bytes_by None desk = desk.answer.bytes.items

abbrev pub last_bytes : DriveDesk → List ℕ
last_bytes desk = last_bytes_by desk.done desk

-- Which error it is: the first thing that is wrong, and want of memory where nothing is.
abbrev pub IsFirstFault : Option CallError → CallError → Type 0
IsFirstFault None error = error ≡ OutOfMemory
IsFirstFault (Some fault) error = error ≡ fault

-- A drive that has answered nothing.
pub record IsNewDesk (desk : DriveDesk) : Type 0 where
  pub done : desk.done ≡ None
  pub bytes : desk.answer.bytes.items ≡ []
  pub denied : desk.answer.denied ≡ None
  pub acts : desk.acts ≡ 0

-- The same drive once more: it has done as many acts, and answered nothing since it is there.
pub record IsCopyOf (desk copied : DriveDesk) : Type 0 where
  pub drive : copied.drive ≡ desk.drive
  pub done : copied.done ≡ None
  pub bytes : copied.answer.bytes.items ≡ []
  pub denied : copied.answer.denied ≡ None
  pub acts : copied.acts ≡ desk.acts

-- Nothing was done: where something is wrong all is as before, and where memory was refused all but the data of the last
-- answer, which have made room.
pub record IsUndone (old new : DriveDesk) : Type 0 where
  pub drive : new.drive ≡ old.drive
  pub denied : new.answer.denied ≡ old.answer.denied
  pub bytes : last_bytes new ≡ []
  pub acts : new.acts ≡ old.acts
  pub answered : new.answered ≡ old.answered

abbrev pub IsRefusedAs : Option CallError → DriveDesk → DriveDesk → Type 0
IsRefusedAs None old new = IsUndone old new
IsRefusedAs (Some error) old new = new ≡ old

-- A call of the drive was answered in numbers: what was done where nothing is wrong, or the first thing that is wrong,
-- or want of memory; the drive is then as before.
pub record IsCalled (fault : Option CallError) (old new : DriveDesk) (answer : Answer)
    (does : Type 0) : Type 0 where
  pub done : answer.code ≡ done_code → does
  pub told : answer.code ≡ done_code → answer ≡ numbers_at new
  pub refused : answer.code ≢ done_code → new.drive ≡ old.drive
  pub undone : answer.code ≢ done_code → IsRefusedAs fault old new
  pub first : IfSome fault (λ error. answer ≡ refused_answer error)
  pub memory : fault ≡ None → answer.code ≢ done_code → answer ≡ refused_answer OutOfMemory

abbrev pub IsTakenAs : DriveDesk → DriveDesk → List ℕ → List ℕ → Answer → Type 0
IsTakenAs old new fis payload answer = IsCalled (command_fault old.drive fis payload) old new answer
    (TakesCommand old new fis payload)

abbrev pub IsFinishedAs : DriveDesk → DriveDesk → ℕ → List ℕ → Answer → Type 0
IsFinishedAs old new tag payload answer =
    IsCalled (completion_fault old.drive tag payload) old new answer
    (CompletesHeld old new tag payload)

-- The data of an answer stand at the front of a buffer that has room for them. A shorter one is as before, and so is that of
-- a call that was refused.
abbrev pub laid_data : Answer → DriveDesk → List ℕ → List ℕ
laid_data answer desk into =
    if (answer.code == done_code) && nat_le (length (last_bytes desk)) (length into)
    then last_bytes desk ++ drop (length (last_bytes desk)) into else into

-- How many bytes a command brings, and a completion.
abbrev pub payload_count : DriveState → List ℕ → Count
payload_count d fis = if length fis == h2d_length
    then given_count (payload_of d.tper.store.config fis) else refused_count Length

abbrev pub expected_count : DriveState → ℕ → Count
expected_count d tag = if nat_lt tag slot_count
    then (if is_some (held_at d.queue tag) then given_count (expected (held_at d.queue tag))
    else refused_count NotHeld) else refused_count Tag

-- The drive was reset where there is such a kind; else nothing was done.
pub record IsResetAs (old new : DriveDesk) (kind code : ℕ) : Type 0 where
  pub agrees : kind < 2 → (o : Origin) (acts : List Act) → Agrees old.drive o acts
      → Agrees new.drive o (Reset kind ∷ acts)
  pub done : kind < 2 → code ≡ done_code
  pub acts : kind < 2 → new.acts ≡ (old.acts + 1) % 2 ^ 64
  pub last : kind < 2 → (new.done ≡ old.done) × (new.answer ≡ old.answer)
      × (new.answered ≡ old.answered)
  pub refused : ¬ (kind < 2) → (code ≡ code_of_call Number) × (new ≡ old)
