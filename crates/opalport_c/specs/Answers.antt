-- What a drive answers, as numbers.
use Rattle.std.specs.Prelude.{false}
use Rattle.library_calls.specs.declared.byte_calls.error.CallError.{CallError}
use Rattle.library_calls.specs.Refusals.{code_of_call}
use Rattle.opalport_c.specs.declared.answer.Answer.{Answer}

abbrev pub refused_answer : CallError → Answer
refused_answer error = record {
  code = code_of_call error;
  status = 0;
  error = 0;
  held = false;
  denied = false;
  length = 0;
}
