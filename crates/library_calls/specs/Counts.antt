-- A number that a call from outside is answered.
use Rattle.std.specs.Prelude.{ℕ}
use Rattle.library_calls.specs.declared.byte_calls.error.CallError.{CallError}
use Rattle.library_calls.specs.declared.byte_calls.count.Count.{Count}
use Rattle.library_calls.specs.Refusals.{code_of_call, done_code}

abbrev pub refused_count : CallError → Count
refused_count error = record { code = code_of_call error; number = 0 }

abbrev pub given_count : ℕ → Count
given_count number = record { code = done_code; number = number }
