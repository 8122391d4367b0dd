-- A port that a caller from outside works on: what each call does to it is what the call of the port does.
use Rattle.std.specs.Prelude.{◌≡◌, ◌+◌, ◌⊎◌, ◌==◌, ℕ, Bool, true, false, nat_lt, if◌then◌else◌, List, [], map, length, Option, option_map, unwrap_or, Some, None, Result, Ok, Err, OnOk, OnErr, IfOk, IfErr}
use Rattle.fis.specs.Tags.{slot_count}
use Rattle.history.specs.Opening.{Origin}
use Rattle.history.specs.Tcg.{tcg}
use Rattle.history.specs.declared.reset.ResetKind.{ResetKind}
use Rattle.history.specs.declared.reset.ResetKind.TheVariants.{Power, Hardware}
use Rattle.headline.specs.Transfers.{IsServedAnswer}
use Rattle.library_calls.specs.declared.byte_calls.count.Count.{Count}
use Rattle.library_calls.specs.declared.byte_calls.error.CallError.{CallError}
use Rattle.library_calls.specs.declared.byte_calls.error.CallError.TheVariants as calls
use Rattle.library_calls.specs.Counts.{refused_count}
use Rattle.library_calls.specs.Refusals.{code_of_call}
use Rattle.port.specs.Live.{LiveAgrees, MakesStep, NumbersStep, RefusesStep}
use Rattle.port_history.specs.declared.error.PortError.{PortError}
use Rattle.port_history.specs.declared.error.PortError.TheVariants as errors
use Rattle.port_history.specs.declared.request.Answer.{Answer}
use Rattle.port_history.specs.declared.request.Request.{Request}
use Rattle.port_history.specs.declared.step.Step.{Step}
use Rattle.port_history.specs.declared.step.Step.TheVariants as steps
use Rattle.port_history.specs.Ready.{engine_may, chosen, with_step}
use Rattle.port_history.specs.Requests.{no_bytes}
use Rattle.port_history.specs.Steps.{trace, answer}
use Rattle.library_calls.specs.declared.port_calls.asked.Asked.{Asked}
use Rattle.library_calls.specs.declared.port_calls.desk.PortDesk.{PortDesk}
use Rattle.library_calls.specs.declared.port_calls.ready.ReadyStep.{ReadyStep}
use Rattle.library_calls.specs.declared.port_calls.taken.Taken.{Taken}
use Rattle.library_calls.specs.Listed.{ready_numbers, IsWrittenList}
use Rattle.library_calls.specs.Requested.{request_asked}
use Rattle.library_calls.specs.PortCallsTold.{told_step, told_turn, told_take, refused_take}

-- The port made the step, and told its number; or it was refused as the rules say, and stayed.
pub record TakesStep (old new : PortDesk) (step : Step) (count : Count) : Type 0 where
  pub outcome : Result ℕ PortError
  pub told : count ≡ told_step outcome
  pub agrees : MakesStep old.port new.port step outcome
  pub number : NumbersStep old.port outcome
  pub refused : RefusesStep old.port step outcome
  pub err : OnErr outcome (new.port ≡ old.port)
  pub last : new.last ≡ old.last

-- Nothing was done, for this reason.
abbrev pub IsRefusedStep : PortDesk → PortDesk → CallError → Count → Type 0
IsRefusedStep old new error count = (count ≡ refused_count error) × (new ≡ old)

abbrev pub UnderTag : Bool → Type 0 → Type 0 → Type 0
UnderTag true does no_tag = does
UnderTag false does no_tag = no_tag

-- A step under a tag.
abbrev pub StepsUnder : PortDesk → PortDesk → (ℕ → Step) → ℕ → Count → Type 0
StepsUnder old new step tag count = UnderTag (nat_lt tag slot_count)
    (TakesStep old new (step tag) count) (IsRefusedStep old new calls.Tag count)

-- A Put: of numbers that are no request it is refused, and for want of memory for a copy of the payload.
abbrev pub PutsAsked : PortDesk → PortDesk → ℕ → ℕ → Result Request CallError → Count → Type 0
PutsAsked old new client tag (Ok request) count =
    TakesStep old new (steps.Put client tag request) count
    ⊎ IsRefusedStep old new calls.OutOfMemory count
PutsAsked old new client tag (Err error) count = IsRefusedStep old new error count

abbrev pub PutsBy : PortDesk → PortDesk → ℕ → ℕ → Asked → List ℕ → Count → Type 0
PutsBy old new client tag asked payload count = UnderTag (nat_lt tag slot_count)
    (PutsAsked old new client tag (request_asked asked payload) count)
    (IsRefusedStep old new calls.Tag count)

-- A reset, of one of the two kinds.
abbrev pub kind_asked : ℕ → Option ResetKind
kind_asked number = if number == 0 then Some Power
    else (if number == 1 then Some Hardware else None)

abbrev pub ResetsAs : PortDesk → PortDesk → ℕ → Option ResetKind → Count → Type 0
ResetsAs old new client (Some kind) count = TakesStep old new (steps.Reset client kind) count
ResetsAs old new client None count = IsRefusedStep old new calls.Number count

abbrev pub ResetsBy : PortDesk → PortDesk → ℕ → ℕ → Count → Type 0
ResetsBy old new client kind count = ResetsAs old new client (kind_asked kind) count

-- The port made a Take, told what was taken, and the desk keeps it; or it was refused as the rules say, and stayed.
pub record TakesAnswer (old new : PortDesk) (client tag : ℕ) (taken : Taken) : Type 0 where
  pub outcome : Result (ℕ × Answer) PortError
  pub told : taken ≡ told_take outcome
  pub agrees : MakesStep old.port new.port (steps.Take client tag) outcome
  pub answer : IfOk outcome (λ r. (o : Origin) (list : List Step) → LiveAgrees old.port o list
      → (r.0 ≡ 1 + length (trace o list))
      × (r.1 ≡ unwrap_or (answer (trace o list) tag) no_bytes))
  pub served : IfOk outcome (λ r. (o : Origin) (list : List Step) → LiveAgrees old.port o list
      → IsServedAnswer tcg o list tag r.1)
  pub kept : IfOk outcome (λ r. new.last ≡ r.1)
  pub refused : RefusesStep old.port (steps.Take client tag) outcome
  pub err : OnErr outcome (new ≡ old)

abbrev pub TakesUnder : PortDesk → PortDesk → ℕ → ℕ → Taken → Type 0
TakesUnder old new client tag taken = UnderTag (nat_lt tag slot_count)
    (TakesAnswer old new client tag taken)
    ((taken ≡ refused_take (code_of_call calls.Tag)) × (new ≡ old))

-- The engine made the step at a choice of those that are ready, and told its number, or 0 where none was; or there was no
-- memory, and the port stayed.
pub record TakesTurn (old new : PortDesk) (choice : ℕ) (count : Count) : Type 0 where
  pub outcome : Result (Option ℕ) PortError
  pub told : count ≡ told_turn outcome
  pub agrees : OnOk outcome ((o : Origin) (list : List Step) → LiveAgrees old.port o list
      → LiveAgrees new.port o (with_step (chosen choice (engine_may o list)) list))
  pub number : IfOk outcome (λ n. (o : Origin) (list : List Step) → LiveAgrees old.port o list
      → n ≡ option_map (λ _. 1 + length (trace o list)) (chosen choice (engine_may o list)))
  pub idle : (o : Origin) (list : List Step) → LiveAgrees old.port o list
      → engine_may o list ≡ [] → (outcome ≡ Ok None) × (new.port ≡ old.port)
  pub memory : IfErr outcome (λ e. (o : Origin) (list : List Step) → LiveAgrees old.port o list
      → e ≡ errors.OutOfMemory)
  pub err : OnErr outcome (new.port ≡ old.port)
  pub last : new.last ≡ old.last

-- The steps that the engine may do, written out.
abbrev pub ListsReady : PortDesk → List ReadyStep → List ReadyStep → Count → Type 0
ListsReady desk old new count = (o : Origin) (list : List Step) → LiveAgrees desk.port o list
    → IsWrittenList (map ready_numbers (engine_may o list)) old new count
