-- How a queue has failed, as numbers (ACS-3, NCQ Command Error log).
use Rattle.std.specs.Prelude.{true, false, is_some, unwrap_or, Option, Some, None}
use Rattle.device_data.specs.declared.log_page.Failure.{Failure}
use Rattle.library_calls.specs.declared.byte_calls.error.CallError.{CallError}
use Rattle.opalport_c.specs.declared.failed.Failed.{Failed}
use Rattle.library_calls.specs.Refusals.{code_of_call, done_code}

abbrev pub no_failure : Failed
no_failure = record {
  code = done_code;
  failed = false;
  queued = false;
  tag = 0;
  error = 0;
  device = 0;
  count = 0;
  lba = 0;
}

abbrev pub refused_failure : CallError → Failed
refused_failure error = record no_failure { code = code_of_call error }

abbrev pub failure_numbers : Option Failure → Failed
failure_numbers None = no_failure
failure_numbers (Some failure) = record {
  code = done_code;
  failed = true;
  queued = is_some failure.tag;
  tag = unwrap_or failure.tag 0;
  error = failure.error;
  device = failure.device;
  count = failure.count;
  lba = failure.lba;
}
