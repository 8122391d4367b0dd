-- What a caller from outside is told of a step of a port.
use Rattle.std.specs.Prelude.{ℕ, List, [], length, Option, Some, None, Result, Ok, Err}
use Rattle.library_calls.specs.declared.byte_calls.count.Count.{Count}
use Rattle.library_calls.specs.declared.byte_calls.error.CallError.TheVariants as calls
use Rattle.library_calls.specs.Counts.{given_count}
use Rattle.library_calls.specs.Refusals.{done_code, code_of_call}
use Rattle.port_history.specs.declared.error.PortError.{PortError}
use Rattle.port_history.specs.declared.error.PortError.TheVariants.{SlotBusy, NotPrepared, Queue, NotIssued, NotAccepted, NotFailed, Failed, NotAnswered, NotYours, Size, HistoryFull, OutOfMemory}
use Rattle.port_history.specs.declared.request.Answer.{Answer}
use Rattle.port_history.specs.declared.request.Answer.TheVariants as answers
use Rattle.library_calls.specs.declared.port_calls.taken.Taken.{Taken}

-- The number of a refusal: 100 and its number among those of a port, and that of any call for want of memory.
abbrev pub code_of_port : PortError → ℕ
code_of_port SlotBusy = 101
code_of_port NotPrepared = 102
code_of_port Queue = 103
code_of_port NotIssued = 104
code_of_port NotAccepted = 105
code_of_port NotFailed = 106
code_of_port Failed = 107
code_of_port NotAnswered = 108
code_of_port NotYours = 109
code_of_port Size = 110
code_of_port HistoryFull = 111
code_of_port OutOfMemory = code_of_call calls.OutOfMemory

abbrev pub refused_step : PortError → Count
refused_step error = record { code = code_of_port error; number = 0 }

-- a step, and a turn: 0 where no step was ready
abbrev pub told_step : Result ℕ PortError → Count
told_step (Ok number) = given_count number
told_step (Err error) = refused_step error

abbrev pub told_turn : Result (Option ℕ) PortError → Count
told_turn (Ok (Some number)) = given_count number
told_turn (Ok None) = given_count 0
told_turn (Err error) = refused_step error

-- what a Take took
abbrev pub refused_take : ℕ → Taken
refused_take code = record {
  code = code;
  kind = 0;
  status = 0;
  error = 0;
  number = 0;
  length = 0;
}

abbrev pub given_answer : ℕ → Answer → Taken
given_answer number (answers.Done bytes) = record {
  code = done_code;
  kind = 0;
  status = 0;
  error = 0;
  number = number;
  length = length bytes;
}
given_answer number (answers.Failed status error) = record {
  code = done_code;
  kind = 1;
  status = status;
  error = error;
  number = number;
  length = 0;
}
given_answer number answers.Reset = record {
  code = done_code;
  kind = 2;
  status = 0;
  error = 0;
  number = number;
  length = 0;
}

abbrev pub told_take : Result (ℕ × Answer) PortError → Taken
told_take (Ok taken) = given_answer taken.0 taken.1
told_take (Err error) = refused_take (code_of_port error)

-- the bytes of an answer: none but of one that is done
abbrev pub answer_bytes : Answer → List ℕ
answer_bytes (answers.Done bytes) = bytes
answer_bytes (answers.Failed status error) = []
answer_bytes answers.Reset = []
