-- A port that keeps no history: what contracts see of it, and when it agrees with the list of its steps, which nobody
-- keeps.
use Rattle.std.specs.Prelude.{◌≡◌, ℕ, ◌+◌, ◌-◌, nat_lt, List, [], ◌∷◌, ◌++◌, length, reverse, slice_get, Option, Some, None, Result, Ok, IfOk, OnOk, if◌then◌else◌}
use Rattle.circular_buffer.specs.Buffer.{keep_last}
use Rattle.audit.specs.declared.reason.AuditLine.{AuditLine}
use Rattle.history.specs.Opening.{Origin}
use Rattle.port_history.specs.Refusals.{IsRefusedBy, refusal_with_room}
use Rattle.port_history.specs.Steps.{trace, audit, entries}
use Rattle.port_history.specs.declared.error.PortError.{PortError}
use Rattle.port_history.specs.declared.step.Entry.{Entry}
use Rattle.port_history.specs.declared.step.Step.{Step}
use Rattle.port.specs.Agreement.{PortAgrees}
use Rattle.slots.specs.Fetch.{fetched}
use Rattle.slots.specs.declared.fetched.Fetched.{Fetched}
use Rattle.port_history.specs.declared.step.Step.TheVariants as steps
use Rattle.port.specs.State.{BareState, PortState, MakesBare, MakesNoted, IsAccepted, entry_of, with_history}

-- A port with how many denials there were, and the lines of the latest of them, the oldest first.
pub record LiveState : Type 0 where
  pub bare : BareState
  pub denials : ℕ
  pub latest : List AuditLine

-- how many lines are kept
abbrev pub most_lines : ℕ
most_lines = 64

-- After a lawful list of steps, the newest first, the port stands as a port that kept the history of these steps and its
-- audit log; it counts the steps and the denials, and has the latest lines.
pub record LiveAgrees (port : LiveState) (o : Origin) (steps : List Step) : Type 0 where
  pub stands : PortAgrees
      (with_history port.bare (reverse (entries o steps)) (reverse (audit (trace o steps)))) o steps
  pub count : port.bare.count ≡ length steps
  pub denials : port.denials ≡ length (audit (trace o steps))
  pub latest : port.latest ≡ keep_last most_lines (reverse (audit (trace o steps)))

-- The line at a place of the audit log, 0 the oldest, as far as it is kept.
abbrev pub line_from : ℕ → List AuditLine → ℕ → Option AuditLine
line_from gone latest place = if nat_lt place gone then None else slice_get latest (place - gone)

abbrev pub line_kept : LiveState → ℕ → Option AuditLine
line_kept port place = line_from (port.denials - length port.latest) port.latest place

-- The same of an audit log, the oldest line first.
abbrev pub latest_line : List AuditLine → ℕ → Option AuditLine
latest_line log place = if nat_lt place (length log - most_lines) then None else slice_get log place

-- What a call that makes a step promises, whatever steps the port agrees with so far, as of a port that keeps a history;
-- but no step is refused for want of room.
abbrev pub MakesStep : {A E : Type 0} → LiveState → LiveState → Step → Result A E → Type 0
MakesStep old new step result =
    OnOk result ((o : Origin) (list : List Step) → LiveAgrees old o list
    → LiveAgrees new o (step ∷ list))

abbrev pub NumbersStep : {E : Type 0} → LiveState → Result ℕ E → Type 0
NumbersStep old result =
    IfOk result (λ n. (o : Origin) (list : List Step) → LiveAgrees old o list
    → n ≡ 1 + length (trace o list))

abbrev pub RefusesStep : {A : Type 0} → LiveState → Step → Result A PortError → Type 0
RefusesStep old step result =
    (o : Origin) (list : List Step) → LiveAgrees old o list
    → IsRefusedBy (refusal_with_room (trace o list) step) result

-- What a step makes of it: the lines stay, or one more is noted.
abbrev pub AreSameLines : LiveState → LiveState → Type 0
AreSameLines old new = (new.denials ≡ old.denials) × (new.latest ≡ old.latest)

pub record LiveMade (old new : LiveState) (entry : Entry)
    (made : PortState → PortState → Type 0) : Type 0 where
  pub state : MakesBare old.bare new.bare entry made
  pub count : new.bare.count ≡ 1 + old.bare.count
  pub lines : AreSameLines old new

abbrev pub IsNoted : ℕ → List AuditLine → LiveState → Option AuditLine → Type 0
IsNoted denials latest new None = (new.denials ≡ denials) × (new.latest ≡ latest)
IsNoted denials latest new (Some line) = (new.denials ≡ 1 + denials)
    × (new.latest ≡ keep_last most_lines (latest ++ line ∷ []))

pub record LiveAccepted (old new : LiveState) (tag : ℕ) : Type 0 where
  pub line : Option AuditLine
  pub noted : IsNoted old.denials old.latest new line
  pub state : (f : Fetched) → fetched old.bare.memory tag ≡ Ok f
      → MakesNoted old.bare new.bare (entry_of (steps.Accept tag)) line
      (λ p q. IsAccepted p q tag f.fis)
  pub count : new.bare.count ≡ 1 + old.bare.count
