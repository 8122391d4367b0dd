-- A controller that a caller from outside works on: what each call does to it is what the call of the controller does.
use Rattle.std.specs.Prelude.{◌≡◌, ℕ, List, [], Option, Some, None, Result, Ok, Err, option_map}
use Rattle.std.specs.declared.alloc.AllocError.{AllocError}
use Rattle.audit.specs.AuditText.{line_text}
use Rattle.audit.specs.declared.reason.AuditLine.{AuditLine}
use Rattle.host_memory.specs.Access.{Access}
use Rattle.library_calls.specs.Refusals.{done_code}
use Rattle.hba.specs.History.{Adds, Wrote, Powered}
use Rattle.hba.specs.declared.work.Turned.{Turned}
use Rattle.library_calls.specs.Over.{TurnsOver}
use Rattle.library_calls.specs.Worked.{worked_tag, told_worked}
use Rattle.library_calls.specs.declared.hba_calls.desk.HbaDesk.{HbaDesk}
use Rattle.library_calls.specs.declared.hba_calls.worked.Worked.{Worked}

-- The host wrote a word.
pub record WritesHba (old new : HbaDesk) (offset value code : ℕ) : Type 0 where
  pub adds : Adds (Wrote offset value) old.hba new.hba
  pub denied : new.denied ≡ old.denied
  pub done : code ≡ done_code

-- Power was lost, and is there again.
pub record CyclesHba (old new : HbaDesk) (code : ℕ) : Type 0 where
  pub adds : Adds Powered old.hba new.hba
  pub denied : new.denied ≡ old.denied
  pub done : code ≡ done_code

-- what denied the command of a turn, with the number of the drive's act and the tag
abbrev pub denied_line : ℕ → Turned → Option AuditLine
denied_line acts turned =
    option_map (λ why. record { step = acts; client = worked_tag turned.work; why = why })
    turned.denied

-- and after a turn: as before, where no work was done
abbrev pub denied_after : {E : Type 0} → ℕ → Option AuditLine → Result (Option Turned) E
    → Option AuditLine
denied_after acts before (Ok (Some turned)) = denied_line acts turned
denied_after acts before (Ok None) = before
denied_after acts before (Err error) = before

abbrev pub denied_text : Option AuditLine → List ℕ
denied_text None = []
denied_text (Some line) = line_text line

-- The controller did the work of a number over bytes, by what an access makes of them, told it, and keeps what denied its command.
pub record TurnsDesk (old new : HbaDesk) (choice : ℕ) (stands : List ℕ → Access → List ℕ → Type 0)
    (before after : List ℕ) (worked : Worked) : Type 0 where
  pub outcome : Result (Option Turned) AllocError
  pub told : worked ≡ told_worked outcome
  pub turned : TurnsOver choice stands old.hba before new.hba after outcome
  pub denied : new.denied ≡ denied_after new.hba.acts old.denied outcome
