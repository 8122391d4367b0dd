-- Whether an answer has come: what follows where it is told.
use Rattle.std.proofs.Common.{◌≡◌, ℕ, ◌≤◌, ◌==◌, ◌⊎◌, inl, inr, Bool, true, false, not, List, [], ◌∷◌, Option, Some, None, Ok, Err, refl, sym, ap, ◌∙◌, arith, eqb-true, if◌then◌else◌}
use Rattle.std.specs.Prelude.{IfOk, is_none}
use Rattle.port_history.specs.declared.error.PortError.{PortError}
use Rattle.port_history.specs.declared.error.PortError.TheVariants.{SlotBusy, NotAnswered, NotYours, Size, HistoryFull, OutOfMemory}
use Rattle.port_history.specs.declared.stages.Put.{Put}
use Rattle.port_history.specs.declared.stages.Stage.{Stage}
use Rattle.port_history.specs.declared.stages.Stage.TheVariants.{Free, Prepared, Issued, Accepted, Answered}
use Rattle.port_history.specs.declared.request.Answer.{Answer}
use Rattle.port_history.specs.declared.step.Step.TheVariants as steps
use Rattle.port_history.specs.Refusals.{refusal, first_refusal, IsRefusedBy}
use Rattle.port_history.specs.Stages.{put_at, is_free, is_answered, is_put_by}
use Rattle.port_history.specs.Steps.{Moment, stage}
use Rattle.locked_port.specs.declared.ticket.Ticket.{Ticket}
use Rattle.locked_port.specs.Awaits.{is_trace_full, IsWaitRefused, awaited, awaited_at, awaited_put, is_of_submit, is_of_wait, is_of_engine}
use Rattle.locked_port.specs.Counts.{Stands}
use Rattle.locked_port.proofs.Counts.{number_in}
use Rattle.history.specs.Opening.{Origin}
use Rattle.port_history.specs.declared.request.Request.{Request}
use Rattle.port_history.specs.declared.step.Step.{Step}
use Rattle.port_history.specs.Requests.{is_sized}
use Rattle.port_history.specs.Steps.{trace}
use Rattle.port.specs.Agreement.{PortAgrees}
use Rattle.port.specs.State.{PortState}
use Rattle.std.proofs.Math.Logic.{∥∥₁_elim}
use Rattle.std.specs.Coded.{coded_bool, Coded-set}

-- a reset is refused for nothing but a history that is full
pub full_is : (b : Bool) → not (is_none (if b then Some HistoryFull else None)) ≡ b
full_is true = refl
full_is false = refl

-- where an answer is told of, the ticket's number is that of its slot's Put
put_within : (client : ℕ) (ticket : Ticket) (answered : Bool) (put : Put) (n : ℕ) → put.number ≤ n → IfOk (awaited_put client ticket answered (Some put)) (λ _. ticket.number ≤ n)
put_within client ticket answered put n le = by (put.number == ticket.number) refl
  where
    mine : (c : Bool) → ticket.number ≤ n → IfOk (if c then Ok answered else Err NotYours) (λ _. ticket.number ≤ n)
    mine true h = h
    mine false h = tt

    by : (b : Bool) → (put.number == ticket.number) ≡ b → IfOk (if b then (if put.client == client then Ok answered else Err NotYours) else Err NotAnswered) (λ _. ticket.number ≤ n)
    by true e = let same = eqb-true put.number ticket.number e in mine (put.client == client) (omega arith)
    by false e = tt

stage_within : (client : ℕ) (ticket : Ticket) (s : Stage) (n : ℕ) → number_in s ≤ n → IfOk (awaited_put client ticket (is_answered s) (put_at s)) (λ _. ticket.number ≤ n)
stage_within client ticket Free n le = tt
stage_within client ticket (Prepared put) n le = put_within client ticket false put n le
stage_within client ticket (Issued put) n le = put_within client ticket false put n le
stage_within client ticket (Accepted put) n le = put_within client ticket false put n le
stage_within client ticket (Answered put) n le = put_within client ticket true put n le

pub within : (full : Bool) (client : ℕ) (ticket : Ticket) (s : Stage) (n : ℕ) → number_in s ≤ n → IfOk (awaited_at full client ticket s) (λ _. ticket.number ≤ n)
within true client ticket s n le = tt
within false client ticket s n le = stage_within client ticket s n le

-- an answer has come where it is answered, and the client's
both : (same mine answered : Bool) → (if same then (if mine then Ok answered else Err NotYours) else Err NotAnswered) ≡ Ok true → (answered ≡ true) × (mine ≡ true)
both true true true h = (refl, refl)
both true true false h = cc
both true false answered h = cc
both false mine answered h = cc

-- such an answer may be taken
pub may_take_at : (full : Bool) (client : ℕ) (ticket : Ticket) (s : Stage) → awaited_at full client ticket s ≡ Ok true
    → first_refusal ((full, HistoryFull) ∷ (not (is_answered s), NotAnswered) ∷ (not (is_put_by client (put_at s)), NotYours) ∷ []) ≡ None
may_take_at true client ticket s h = cc
may_take_at false client ticket Free h = cc
may_take_at false client ticket (Prepared put) h = let e = (both (put.number == ticket.number) (put.client == client) false h).0 in cc
may_take_at false client ticket (Issued put) h = let e = (both (put.number == ticket.number) (put.client == client) false h).0 in cc
may_take_at false client ticket (Accepted put) h = let e = (both (put.number == ticket.number) (put.client == client) false h).0 in cc
may_take_at false client ticket (Answered put) h = ap (λ (c : Bool). if not c then Some NotYours else None) (both (put.number == ticket.number) (put.client == client) true h).1

-- what a Take of it comes to: it is refused for memory alone
pub only_memory : (before : List Moment) (client : ℕ) (ticket : Ticket) (e : PortError) → awaited before client ticket ≡ Ok true
    → IsRefusedBy {A = ℕ × Answer} (refusal before (steps.Take client ticket.tag)) (Err e) → IsWaitRefused (awaited before client ticket) e
only_memory before client ticket e told (inl memory) = inl (memory.0, told)
only_memory before client ticket e told (inr refused) = let none = may_take_at (is_trace_full before) client ticket (stage before ticket.tag) told in cc

-- where a port stands, what each list says of an error it is
of_standing : (of : PortError → Bool) (e : PortError) (port : PortState) (total : ℕ) → Stands port total → ((o : Origin) (list : List Step) → PortAgrees port o list → of e ≡ true) → of e ≡ true
of_standing of e port total s says = ∥∥₁_elim s (Coded-set coded_bool _ _) (λ known. says known.origin known.list known.agrees)

abbrev is_of : (PortError → Bool) → Option PortError → Bool
is_of of None = true
is_of of (Some e) = of e

put_ends : (full free : Bool) → is_of (is_of_submit true) (first_refusal ((full, HistoryFull) ∷ (not true, Size) ∷ (not free, SlotBusy) ∷ [])) ≡ true
put_ends true free = refl
put_ends false true = refl
put_ends false false = refl

-- a Put of a request that has a size is refused for no other error
put_only : (before : List Moment) (client tag : ℕ) (request : Request) (e : PortError) → is_sized request ≡ true
    → IsRefusedBy {A = ℕ} (refusal before (steps.Put client tag request)) (Err e) → is_of_submit true e ≡ true
put_only before client tag request e sized (inl memory) = ap (is_of_submit true) memory.0
put_only before client tag request e sized (inr refused) =
    let full = is_trace_full before in
    let free = is_free (stage before tag) in
    let all : is_of (is_of_submit true) (first_refusal ((full, HistoryFull) ∷ (not (is_sized request), Size) ∷ (not free, SlotBusy) ∷ [])) ≡ true = rw sized (put_ends full free) in
    sym (ap (is_of (is_of_submit true)) refused) ∙ all

pub submit_ends : (client tag total : ℕ) (request : Request) (port : PortState) (e : PortError) → is_sized request ≡ true → Stands port total
    → ((o : Origin) (list : List Step) → PortAgrees port o list → IsRefusedBy {A = ℕ} (refusal (trace o list) (steps.Put client tag request)) (Err e)) → is_of_submit true e ≡ true
submit_ends client tag total request port e sized s says =
    of_standing (is_of_submit true) e port total s (λ o list h. put_only (trace o list) client tag request e sized (says o list h))

-- a Take of an answer that has come is refused for memory alone
memory_left : (before : List Moment) (client : ℕ) (ticket : Ticket) (e : PortError) → awaited before client ticket ≡ Ok true
    → IsRefusedBy {A = ℕ × Answer} (refusal before (steps.Take client ticket.tag)) (Err e) → e ≡ OutOfMemory
memory_left before client ticket e told refused =
    elim (only_memory before client ticket e told refused) [
      | inl memory ↦ memory.0
      | inr other ↦ absurd (let clash = sym told ∙ other in cc)
    ]

-- so a wait ends with no other error,
pub take_ends : (client total : ℕ) (ticket : Ticket) (answered : Bool) (port : PortState) (e : PortError) → Stands port total → answered ≡ true
    → ((o : Origin) (list : List Step) → PortAgrees port o list → Ok answered ≡ awaited (trace o list) client ticket)
    → ((o : Origin) (list : List Step) → PortAgrees port o list
    → IsRefusedBy {A = ℕ × Answer} (refusal (trace o list) (steps.Take client ticket.tag)) (Err e))
    → is_of_wait e ≡ true
take_ends client total ticket answered port e s there told refused =
    of_standing is_of_wait e port total s (λ o list h.
    ap is_of_wait (memory_left (trace o list) client ticket e (sym (told o list h) ∙ ap Ok there) (refused o list h)))

-- nor a turn of the engine
pub turn_ends : (total : ℕ) (port : PortState) (e : PortError) → Stands port total
    → ((o : Origin) (list : List Step) → PortAgrees port o list → e ≡ OutOfMemory) → is_of_engine e ≡ true
turn_ends total port e s says = of_standing is_of_engine e port total s (λ o list h. ap is_of_engine (says o list h))
