-- What a call of a port by its handle does: nothing where the handle has no port; else what the call does with the port.
use Rattle.std.specs.Prelude.{◌≡◌, ◌≢◌, ℕ, List, [], map, Option, Some, None, Ok}
use Rattle.library_calls.specs.declared.byte_calls.count.Count.{Count}
use Rattle.library_calls.specs.declared.byte_calls.error.CallError.{CallError}
use Rattle.library_calls.specs.declared.byte_calls.error.CallError.TheVariants.{NotOpen, OtherKind, InUse}
use Rattle.library_calls.specs.Copies.{IsCopied, IsWrittenOut}
use Rattle.library_calls.specs.Counts.{refused_count}
use Rattle.library_calls.specs.Refusals.{done_code, code_of_call}
use Rattle.locking.specs.declared.range.RangeRow.{RangeRow}
use Rattle.sp_cells.specs.Config.{Config}
use Rattle.history.specs.Opening.{Origin, opened_with}
use Rattle.port_history.specs.Requests.{no_bytes}
use Rattle.port_history.specs.declared.step.Step.{Step}
use Rattle.port_history.specs.declared.step.Step.TheVariants.{Recover}
use Rattle.port.specs.Live.{LiveAgrees, LiveState, line_kept}
use Rattle.drive.specs.State.{DriveState, Agrees}
use Rattle.library_calls.specs.Desk.{TakesStep, StepsUnder, PutsBy, ResetsBy, TakesUnder, TakesTurn, ListsReady}
use Rattle.library_calls.specs.Shown.{shown_numbers, refused_shown, logged_text}
use Rattle.library_calls.specs.PortCallsTold.{refused_take, answer_bytes}
use Rattle.library_calls.specs.declared.port_calls.asked.Asked.{Asked}
use Rattle.library_calls.specs.declared.port_calls.desk.PortDesk.{PortDesk}
use Rattle.library_calls.specs.declared.port_calls.ready.ReadyStep.{ReadyStep}
use Rattle.library_calls.specs.declared.port_calls.shown.Shown.{Shown}
use Rattle.library_calls.specs.declared.port_calls.taken.Taken.{Taken}
use Rattle.opalport_c.specs.declared.asked.RangeCells.{RangeCells}
use Rattle.opalport_c.specs.declared.asked.Size.{Size}
use Rattle.opalport_c.specs.declared.object.Object.{Object}
use Rattle.opalport_c.specs.declared.object.Object.TheVariants.{Port}
use Rattle.opalport_c.specs.Asked.{CanBe, ConfigAsked, IsMakingFault, row_asked}
use Rattle.opalport_c.specs.Calls.{ByHandle, WritesNone}

-- a port that was there, and the port that is there; what is none is refused, and stays
abbrev pub OfPort : Object → Object → (CallError → Type 0) → (PortDesk → PortDesk → Type 0)
    → Type 0
OfPort (Port old) (Port new) refused does = does old new
OfPort (Port old) _ refused does = ⊥
OfPort old new refused does = refused OtherKind × (new ≡ old)

-- a call of a port by its handle
abbrev pub ByPort : Option Object → Option Object → (CallError → Type 0)
    → (PortDesk → PortDesk → Type 0) → Type 0
ByPort had has refused does =
    ByHandle had has (refused NotOpen) (λ old new. OfPort old new refused does)

-- A call that is told by a number.
abbrev pub ByPortCount : Option Object → Option Object → Count → (PortDesk → PortDesk → Type 0)
    → Type 0
ByPortCount had has count does = ByPort had has (λ e. count ≡ refused_count e) does

-- A client put a request.
abbrev pub PutsByHandle : Option Object → Option Object → ℕ → ℕ → Asked → List ℕ → Count → Type 0
PutsByHandle had has client tag asked payload count =
    ByPortCount had has count (λ old new. PutsBy old new client tag asked payload count)

-- The port made a step under a tag; it recovered; it was reset.
abbrev pub StepsByHandle : Option Object → Option Object → (ℕ → Step) → ℕ → Count → Type 0
StepsByHandle had has step tag count =
    ByPortCount had has count (λ old new. StepsUnder old new step tag count)

abbrev pub RecoversByHandle : Option Object → Option Object → Count → Type 0
RecoversByHandle had has count =
    ByPortCount had has count (λ old new. TakesStep old new Recover count)

abbrev pub ResetsByHandle : Option Object → Option Object → ℕ → ℕ → Count → Type 0
ResetsByHandle had has client kind count =
    ByPortCount had has count (λ old new. ResetsBy old new client kind count)

-- A client took its answer.
abbrev pub TakesByHandle : Option Object → Option Object → ℕ → ℕ → Taken → Type 0
TakesByHandle had has client tag taken = ByPort had has
    (λ e. taken ≡ refused_take (code_of_call e))
    (λ old new. TakesUnder old new client tag taken)

-- The engine made a step at a choice of those that are ready.
abbrev pub TurnsByHandle : Option Object → Option Object → ℕ → Count → Type 0
TurnsByHandle had has choice count =
    ByPortCount had has count (λ old new. TakesTurn old new choice count)

-- The steps that are ready; what was taken last; a line of the audit log. The port is as before.
abbrev pub ListsByHandle : Option Object → Option Object → List ReadyStep → List ReadyStep → Count
    → Type 0
ListsByHandle had has into out count = ByPort had has (WritesNone into out count)
    (λ old new. ListsReady old into out count × (new ≡ old))

abbrev pub CopiesTaken : Option Object → Option Object → List ℕ → List ℕ → Count → Type 0
CopiesTaken had has into out count = ByPort had has (WritesNone into out count)
    (λ old new. IsCopied (answer_bytes old.last) into out count × (new ≡ old))

abbrev pub CopiesLogged : Option Object → Option Object → ℕ → List ℕ → List ℕ → Count → Type 0
CopiesLogged had has place into out count = ByPort had has (WritesNone into out count)
    (λ old new. IsWrittenOut (logged_text (line_kept old.port place)) into out count
    × (new ≡ old))

-- What the port shows.
abbrev pub ShowsByHandle : Option Object → Option Object → Shown → Type 0
ShowsByHandle had has shown = ByPort had has (λ e. shown ≡ refused_shown e)
    (λ old new. (shown ≡ shown_numbers old.port) × (new ≡ old))

-- What the drive of a port with these rows starts from: with none it is as it leaves the factory.
abbrev pub PortStartsAs : Config → List RangeRow → LiveState → Type 0
PortStartsAs config rows port =
    (o : Origin) × (opened_with config rows ≡ Ok o) × LiveAgrees port o []

-- A port over a drive starts from what the drive starts from.
abbrev pub PortOver : DriveState → LiveState → Type 0
PortOver drive port = (o : Origin) → Agrees drive o [] → LiveAgrees port o []

-- A handle with nothing is given a port of which nothing was taken yet, or nothing was done.
pub record MakesPort (had has : Option Object) (size : Size) (msid serial model psid : List ℕ)
    (cells : List RangeCells) (code : ℕ) : Type 0 where
  pub in_use : had ≢ None → (code ≡ code_of_call InUse) × (has ≡ had)
  pub opened : code ≡ done_code → (desk : PortDesk) × (has ≡ Some (Port desk))
      × (desk.last ≡ no_bytes) × ((config : Config)
      × ConfigAsked size msid serial model psid config
      × PortStartsAs config (map row_asked cells) desk.port)
  pub refused : code ≢ done_code → has ≡ had
  pub can : code ≡ done_code → CanBe size msid serial model psid cells
  pub why : had ≡ None → code ≢ done_code → (error : CallError) × (code ≡ code_of_call error)
      × IsMakingFault size msid serial model psid cells error
