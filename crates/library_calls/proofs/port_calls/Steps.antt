-- What a call of the port promises is what the call from outside says: the tag is the one that was given.
use mathlib.Core.Bool.{true≢false}
use Rattle.std.proofs.Common.{◌≡◌, ◌+◌, ℕ, Bool, true, false, nat_lt, List, ◌∷◌, length, unwrap_or, Result, Ok, OnErr, subst, sym, inl}
use Rattle.library_calls.specs.declared.byte_calls.count.Count.{Count}
use Rattle.library_calls.specs.declared.byte_calls.error.CallError.{CallError}
use Rattle.library_calls.specs.declared.byte_calls.error.CallError.TheVariants as calls
use Rattle.fis.specs.Tags.{slot_count}
use Rattle.headline.specs.Transfers.{IsServedAnswer}
use Rattle.history.specs.Opening.{Origin}
use Rattle.history.specs.Tcg.{tcg}
use Rattle.port.specs.Live.{LiveAgrees, MakesStep, NumbersStep, RefusesStep}
use Rattle.port_history.specs.declared.error.PortError.{PortError}
use Rattle.port_history.specs.declared.request.Answer.{Answer}
use Rattle.port_history.specs.declared.request.Request.{Request}
use Rattle.port_history.specs.declared.step.Step.{Step}
use Rattle.port_history.specs.declared.step.Step.TheVariants as steps
use Rattle.port_history.specs.Requests.{no_bytes}
use Rattle.port_history.specs.Steps.{trace, answer}
use Rattle.library_calls.specs.declared.port_calls.desk.PortDesk.{PortDesk}
use Rattle.library_calls.specs.declared.port_calls.taken.Taken.{Taken}
use Rattle.library_calls.specs.Desk.{TakesStep, IsRefusedStep, UnderTag, StepsUnder, PutsAsked, TakesUnder}
use Rattle.library_calls.specs.PortCallsTold.{told_step, told_take}

on_tag : (b : Bool) (does other : Type 0) → b ≡ true → does → UnderTag b does other
on_tag true does other e d = d
on_tag false does other e d = absurd (true≢false (sym e))

took : (old new : PortDesk) (step : ℕ → Step) (given tag : ℕ) (count : Count) (outcome : Result ℕ PortError) → given ≡ tag → count ≡ told_step outcome
    → MakesStep old.port new.port (step given) outcome → NumbersStep old.port outcome → RefusesStep old.port (step given) outcome
    → OnErr outcome (new.port ≡ old.port) → new.last ≡ old.last → TakesStep old new (step tag) count
took old new step given tag count outcome e told agrees number refused err last = record {
  outcome = outcome;
  told = told;
  agrees = subst (λ (t : ℕ). MakesStep old.port new.port (step t) outcome) e agrees;
  number = number;
  refused = subst (λ (t : ℕ). RefusesStep old.port (step t) outcome) e refused;
  err = err;
  last = last;
}

pub stepped : (old new : PortDesk) (step : ℕ → Step) (given tag : ℕ) (count : Count) (outcome : Result ℕ PortError) → nat_lt tag slot_count ≡ true → given ≡ tag
    → count ≡ told_step outcome → MakesStep old.port new.port (step given) outcome → NumbersStep old.port outcome → RefusesStep old.port (step given) outcome
    → OnErr outcome (new.port ≡ old.port) → new.last ≡ old.last → StepsUnder old new step tag count
stepped old new step given tag count outcome low e told agrees number refused err last =
    on_tag _ _ _ low (took old new step given tag count outcome e told agrees number refused err last)

pub put : (old new : PortDesk) (client given tag : ℕ) (wanted : Result Request CallError) (request : Request) (count : Count) (outcome : Result ℕ PortError)
    → nat_lt tag slot_count ≡ true → given ≡ tag → wanted ≡ Ok request → count ≡ told_step outcome
    → MakesStep old.port new.port (steps.Put client given request) outcome → NumbersStep old.port outcome
    → RefusesStep old.port (steps.Put client given request) outcome → OnErr outcome (new.port ≡ old.port) → new.last ≡ old.last
    → UnderTag (nat_lt tag slot_count) (PutsAsked old new client tag wanted count) (IsRefusedStep old new calls.Tag count)
put old new client given tag wanted request count outcome low e is told agrees number refused err last =
    on_tag _ _ _ low (subst (λ (w : Result Request CallError). PutsAsked old new client tag w count) (sym is)
    (inl (took old new (λ (t : ℕ). steps.Put client t request) given tag count outcome e told agrees number refused err last)))

pub taken : (old new : PortDesk) (client given tag : ℕ) (told : Taken) (number : ℕ) (answered : Answer) → nat_lt tag slot_count ≡ true → given ≡ tag
    → told ≡ told_take (Ok (number, answered))
    → ((o : Origin) (list : List Step) → LiveAgrees old.port o list → LiveAgrees new.port o (steps.Take client given ∷ list))
    → ((o : Origin) (list : List Step) → LiveAgrees old.port o list
    → (number ≡ 1 + length (trace o list)) × (answered ≡ unwrap_or (answer (trace o list) given) no_bytes))
    → ((o : Origin) (list : List Step) → LiveAgrees old.port o list → IsServedAnswer tcg o list given answered)
    → RefusesStep {A = ℕ × Answer} old.port (steps.Take client given) (Ok (number, answered))
    → new.last ≡ answered → TakesUnder old new client tag told
taken old new client given tag told number answered low e is agrees gives served refused last = on_tag _ _ _ low (record {
  outcome = Ok (number, answered);
  told = is;
  agrees = subst (λ (t : ℕ). MakesStep {A = ℕ × Answer} {E = PortError} old.port new.port (steps.Take client t) (Ok (number, answered))) e agrees;
  answer = subst (λ (t : ℕ). (o : Origin) (list : List Step) → LiveAgrees old.port o list
      → (number ≡ 1 + length (trace o list)) × (answered ≡ unwrap_or (answer (trace o list) t) no_bytes)) e gives;
  served = subst (λ (t : ℕ). (o : Origin) (list : List Step) → LiveAgrees old.port o list → IsServedAnswer tcg o list t answered) e served;
  kept = last;
  refused = subst (λ (t : ℕ). RefusesStep {A = ℕ × Answer} old.port (steps.Take client t) (Ok (number, answered))) e refused;
  err = tt;
})
