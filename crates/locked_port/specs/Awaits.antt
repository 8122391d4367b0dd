-- Whether the answer of a ticket has come.
use Rattle.std.specs.Prelude.{◌≡◌, ◌⊎◌, ◌==◌, ◌+◌, ℕ, Bool, true, false, not, nat_lt, List, length, unwrap_or, Option, Some, None, Result, Ok, Err, if◌then◌else◌}
use Rattle.port_history.specs.declared.error.PortError.{PortError}
use Rattle.port_history.specs.declared.error.PortError.TheVariants.{SlotBusy, NotAnswered, NotYours, Size, HistoryFull, OutOfMemory}
use Rattle.port_history.specs.declared.stages.Put.{Put}
use Rattle.port_history.specs.declared.stages.Stage.{Stage}
use Rattle.port_history.specs.Refusals.{most_steps}
use Rattle.port_history.specs.Requests.{no_bytes}
use Rattle.port_history.specs.Stages.{put_at, is_answered}
use Rattle.port_history.specs.Steps.{Moment, stage, answer}
use Rattle.locked_port.specs.declared.ticket.Receipt.{Receipt}
use Rattle.locked_port.specs.declared.ticket.Ticket.{Ticket}

-- The history has no room.
abbrev pub is_trace_full : List Moment → Bool
is_trace_full before = not (nat_lt (length before) most_steps)

-- Whether the slot's command is answered, where it is the very Put of the ticket, and the client's.
abbrev pub awaited_put : ℕ → Ticket → Bool → Option Put → Result Bool PortError
awaited_put client ticket answered None = Err NotAnswered
awaited_put client ticket answered (Some put) =
    if put.number == ticket.number
    then (if put.client == client then Ok answered else Err NotYours) else Err NotAnswered

abbrev pub awaited_at : Bool → ℕ → Ticket → Stage → Result Bool PortError
awaited_at full client ticket stage =
    if full then Err HistoryFull else awaited_put client ticket (is_answered stage) (put_at stage)

-- Whether its answer has come, after these steps, or why none is to come.
abbrev pub awaited : List Moment → ℕ → Ticket → Result Bool PortError
awaited before client ticket = awaited_at (is_trace_full before) client ticket
    (stage before ticket.tag)

-- A Take in answer to this is refused with its refusal, and for want of memory only where the answer
-- has come.
abbrev pub IsWaitRefused : Result Bool PortError → PortError → Type 0
IsWaitRefused awaits error = ((error ≡ OutOfMemory) × (awaits ≡ Ok true)) ⊎ (awaits ≡ Err error)

-- The receipt of a Take of the tag, made after these steps: its number is the next one, and the reply
-- what the tag is answered.
abbrev pub IsReceiptOfTake : List Moment → ℕ → Receipt → Type 0
IsReceiptOfTake before tag r =
    (r.number ≡ 1 + length before) × (r.reply ≡ unwrap_or (answer before tag) no_bytes)

-- The errors of a submit, by whether its request has a size that a port takes.
abbrev pub is_of_submit : Bool → PortError → Bool
is_of_submit sized Size = not sized
is_of_submit sized SlotBusy = sized
is_of_submit sized HistoryFull = sized
is_of_submit sized OutOfMemory = sized
is_of_submit sized _ = false

-- The errors of a wait for an answer.
abbrev pub is_of_wait : PortError → Bool
is_of_wait HistoryFull = true
is_of_wait NotAnswered = true
is_of_wait NotYours = true
is_of_wait OutOfMemory = true
is_of_wait _ = false

-- The errors of the engine.
abbrev pub is_of_engine : PortError → Bool
is_of_engine HistoryFull = true
is_of_engine OutOfMemory = true
is_of_engine _ = false
