-- What a drive answers (Serial ATA, FISes to the host; ACS-3, Status and Error).
use Rattle.std.specs.Prelude.{◌≡◌, ℕ, Bool, true, false, not, List, [], ◌∷◌, unwrap_or, Option, Some, None}
use Rattle.fis.specs.declared.h2d.RegH2d.{RegH2d}
use Rattle.fis.specs.declared.any.Fis.{Fis}
use Rattle.history.specs.Opening.{Origin}
use Rattle.history.specs.Events.{HeldCommand, Event}
use Rattle.history.specs.Facts.{Facts}
use Rattle.history.specs.Answers.{status_of, is_holding, completed_fises, completed_data, fises_of, answer_fis, diagnosed_fis, power_fis, pio_fis, setup_fis, moved_fis, ready, busy}
use Rattle.history.specs.Tcg.{answer_data, answer_fises}
use Rattle.shadow_mbr.specs.Stored.{sector_at, heads}
use Rattle.device_data.specs.Settings.{active}
use Rattle.drive.specs.Transfer.{by_op, queued_command, held_bytes, sector_then}
use Rattle.drive.specs.Queue.{with_slot}
use Rattle.drive.specs.State.{DriveState, kept_facts, KeepsDrive}
use Rattle.drive.specs.declared.transfer.Held.{Held}
use Rattle.drive.specs.declared.answer.Accepted.{Accepted}
use Rattle.drive.specs.declared.answer.Completed.{Completed}
use Rattle.drive.specs.declared.answer.Form.{Form}
use Rattle.drive.specs.declared.answer.Form.TheVariants.{Register, PioIn, PioOut, Diagnosed, Powered}

-- The FISes of a form, with the answer's registers: bit I stands where the command is not held. Two forms have fields of
-- their own.
abbrev pub form_fises : Form → Bool → ℕ → ℕ → List Fis
form_fises Register is_held status error = answer_fis (not is_held) status error ∷ []
form_fises PioIn is_held status error = pio_fis true ready ∷ []
form_fises PioOut is_held status error = pio_fis false busy ∷ answer_fis true ready 0 ∷ []
form_fises Diagnosed is_held status error = diagnosed_fis ∷ []
form_fises (Powered in_standby) is_held status error = power_fis in_standby ∷ []

-- The FISes of an answer.
abbrev pub fises_in : Accepted → List Fis
fises_in answer = form_fises answer.form answer.held answer.status answer.error

-- The FISes of a completion.
abbrev pub fises_done : Completed → List Fis
fises_done done =
    setup_fis (by_op done.op true false) done.tag done.size ∷ moved_fis done.tag ∷ []

-- The answer to the FIS of a command is that of its event.
pub record IsAnswer (f : Facts) (h : RegH2d) (event : Event) (answer : Accepted) : Type 0 where
  pub status : answer.status ≡ status_of event.failed
  pub error : answer.error ≡ unwrap_or event.failed 0
  pub held : answer.held ≡ is_holding event.deed
  pub fises : fises_in answer ≡ answer_fises f h event
  pub bytes : answer.bytes.items ≡ answer_data f h event
  pub denied : answer.denied ≡ event.denied
  pub rule : answer.rule ≡ event.rule

-- What the completion of what is held under a tag gives.
pub record IsCompletion (f : Facts) (tag : ℕ) (held : Option HeldCommand)
    (done : Completed) : Type 0 where
  pub fises : fises_done done ≡ completed_fises tag held
  pub bytes : done.bytes.items ≡ completed_data f held

-- The same, where of each sector of a read the first bytes alone are given.
pub record IsCompletionByHeads (f : Facts) (tag : ℕ) (held : Option HeldCommand)
    (done : Completed) : Type 0 where
  pub fises : fises_done done ≡ completed_fises tag held
  pub bytes : done.bytes.items ≡ heads (completed_data f held)

-- The event was done: it is kept, and answered.
abbrev pub IsDoneAndAnswered : Facts → RegH2d → Event → DriveState → Origin → List Event
    → Accepted → Type 0
IsDoneAndAnswered f h event d o past answer = KeepsDrive d o (event ∷ past)
    × IsAnswer f h event answer

-- What a completion of what is in a slot changes and gives: its slot is free, the drive is active, and
-- a write has moved its bytes. `gives` is what it gives of the bytes that it reads.
pub record Finishes (gives : List ℕ → List ℕ) (tag : ℕ) (payload : List ℕ) (held : Held)
    (old new : DriveState) (done : Completed) : Type 0 where
  pub tper : new.tper ≡ old.tper
  pub queue : new.queue ≡ with_slot tag None old.queue
  pub settings : new.settings ≡ active old.settings
  pub media : (s : ℕ) → sector_at new.media s
      ≡ sector_then held.transfer payload (sector_at old.media s) s
  pub fises : fises_done done ≡ fises_of tag (queued_command held.transfer)
  pub bytes : (f : Facts) → done.bytes.items ≡ gives (held_bytes (kept_facts old f) held)

abbrev pub IsFinished : (List ℕ → List ℕ) → ℕ → List ℕ → Option Held → DriveState → DriveState
    → Completed → Type 0
IsFinished gives tag payload None old new done = ⊥
IsFinished gives tag payload (Some held) old new done =
    Finishes gives tag payload held old new done
