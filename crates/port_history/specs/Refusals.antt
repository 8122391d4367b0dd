-- Which steps are lawful. The order of the refusals stands here once, over facts that the past
-- says, or a port keeps.
use Rattle.std.specs.Prelude.{◌≡◌, ◌⊎◌, ℕ, Bool, true, false, not, nat_lt, List, [], ◌∷◌, length, is_some, Option, Some, None, Result, Ok, Err, if◌then◌else◌}
use Rattle.fis.specs.Tags.{slot_count}
use Rattle.history.specs.Items.{Items}
use Rattle.history.specs.Opening.{Origin}
use Rattle.history.specs.Tcg.{tcg}
use Rattle.port_history.specs.declared.error.PortError.{PortError}
use Rattle.port_history.specs.declared.error.PortError.TheVariants.{SlotBusy, NotPrepared, Queue, NotIssued, NotAccepted, NotFailed, Failed, NotAnswered, NotYours, Size, HistoryFull, OutOfMemory}
use Rattle.port_history.specs.declared.stages.Stage.{Stage}
use Rattle.port_history.specs.declared.step.Step.{Step}
use Rattle.port_history.specs.declared.step.Step.TheVariants as steps
use Rattle.port_history.specs.Requests.{is_sized}
use Rattle.port_history.specs.Stages.{put_at, is_free, is_prepared, is_issued, is_accepted, is_answered, mixes, is_put_by}
use Rattle.port_history.specs.Steps.{Moment, trace_of, stage, failed}

-- The number by which a refusal is told.
abbrev pub refusal_number : PortError → ℕ
refusal_number SlotBusy = 1
refusal_number NotPrepared = 2
refusal_number Queue = 3
refusal_number NotIssued = 4
refusal_number NotAccepted = 5
refusal_number NotFailed = 6
refusal_number Failed = 7
refusal_number NotAnswered = 8
refusal_number NotYours = 9
refusal_number Size = 10
refusal_number HistoryFull = 11
refusal_number OutOfMemory = 12

-- how many steps a history has room for
abbrev pub most_steps : ℕ
most_steps = 1048576

-- The first whose test holds.
abbrev pub first_refusal : List (Bool × PortError) → Option PortError
first_refusal [] = None
first_refusal (test ∷ tests) = if test.0 then Some test.1 else first_refusal tests

-- What is tested, and the error where it holds: by whether the history is full and the port failed,
-- and by the stages.
abbrev pub tests : Bool → Bool → (ℕ → Stage) → Step → List (Bool × PortError)
tests full failed stages (steps.Put client tag request) = (full, HistoryFull)
    ∷ (not (is_sized request), Size) ∷ (not (is_free (stages tag)), SlotBusy) ∷ []
tests full failed stages (steps.Issue tag) = (full, HistoryFull) ∷ (failed, Failed)
    ∷ (not (is_prepared (stages tag)), NotPrepared) ∷ (mixes stages (stages tag), Queue) ∷ []
tests full failed stages (steps.Accept tag) = (full, HistoryFull) ∷ (failed, Failed)
    ∷ (not (is_issued (stages tag)), NotIssued) ∷ []
tests full failed stages (steps.Complete tag) = (full, HistoryFull) ∷ (failed, Failed)
    ∷ (not (is_accepted (stages tag)), NotAccepted) ∷ []
tests full failed stages steps.Recover = (full, HistoryFull) ∷ (not failed, NotFailed) ∷ []
tests full failed stages (steps.Reset client kind) = (full, HistoryFull) ∷ []
tests full failed stages (steps.Take client tag) = (full, HistoryFull)
    ∷ (not (is_answered (stages tag)), NotAnswered)
    ∷ (not (is_put_by client (put_at (stages tag))), NotYours) ∷ []

-- The first refusal that applies, memory apart.
abbrev pub refusal_by : Bool → Bool → (ℕ → Stage) → Step → Option PortError
refusal_by full failed stages step = first_refusal (tests full failed stages step)

abbrev pub refusal : List Moment → Step → Option PortError
refusal before step = refusal_by (not (nat_lt (length before) most_steps)) (is_some (failed before))
    (stage before) step

-- The same where there is room for a step: of a port that keeps no history, and so is never full.
abbrev pub refusal_with_room : List Moment → Step → Option PortError
refusal_with_room before step = refusal_by false (is_some (failed before)) (stage before) step

-- The slots are those that tags number.
abbrev pub has_slot : Step → Bool
has_slot (steps.Put client tag request) = nat_lt tag slot_count
has_slot (steps.Issue tag) = nat_lt tag slot_count
has_slot (steps.Accept tag) = nat_lt tag slot_count
has_slot (steps.Complete tag) = nat_lt tag slot_count
has_slot steps.Recover = true
has_slot (steps.Reset client kind) = true
has_slot (steps.Take client tag) = nat_lt tag slot_count

-- Each step was lawful where it stands, whatever its items do. How many steps there are is no matter of this.
abbrev pub AreLawful : Items → Origin → List Step → Type 0
AreLawful items o [] = Unit {0}
AreLawful items o (step ∷ before) = (has_slot step ≡ true)
    × (refusal_with_room (trace_of items o before) step ≡ None)
    × AreLawful items o before

-- By the items of this drive.
abbrev pub IsLawful : Origin → List Step → Type 0
IsLawful = AreLawful tcg

-- A call is refused exactly where this is something, and with it; want of memory, the last of the
-- refusals, is told only where no other applies.
abbrev pub IsRefusedBy : {A : Type 0} → Option PortError → Result A PortError → Type 0
IsRefusedBy refused (Ok a) = refused ≡ None
IsRefusedBy refused (Err error) =
    ((error ≡ OutOfMemory) × (refused ≡ None)) ⊎ (refused ≡ Some error)

-- A test says just this.
abbrev pub IsTold : {A : Type 0} → Option PortError → Result A PortError → Type 0
IsTold refused (Ok a) = refused ≡ None
IsTold refused (Err error) = refused ≡ Some error
