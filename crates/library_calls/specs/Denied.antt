-- A denial, as numbers: the reason, and the fields that a denial of its kind has.
use Rattle.std.specs.Prelude.{ℕ, true, false, Option, Some, None}
use Rattle.sp_cells.specs.declared.names.Sp.{Sp}
use Rattle.sp_cells.specs.declared.names.Sp.TheVariants.{Admin, Locking}
use Rattle.sp_cells.specs.declared.names.Uid.{Uid}
use Rattle.sp_cells.specs.declared.names.Column.{Column}
use Rattle.audit.specs.declared.reason.AttemptFailure.{AttemptFailure}
use Rattle.audit.specs.declared.reason.AttemptFailure.TheVariants.{WrongPin, LockedOut, Disabled, Blocked, Unknown}
use Rattle.audit.specs.declared.reason.Why.{Why}
use Rattle.audit.specs.declared.reason.Why.TheVariants.{ReadLocked, WriteLocked, ReadShadow, WriteShadow, NoEntryHolds, NoAccessRow, AttemptFailed}
use Rattle.audit.specs.declared.reason.AuditLine.{AuditLine}
use Rattle.library_calls.specs.declared.byte_calls.error.CallError.{CallError}
use Rattle.library_calls.specs.Refusals.{done_code, code_of_call}
use Rattle.library_calls.specs.declared.denied.Denied.{Denied}

abbrev pub sp_number : Sp → ℕ
sp_number Admin = 1
sp_number Locking = 2

abbrev pub failure_number : AttemptFailure → ℕ
failure_number WrongPin = 7
failure_number LockedOut = 8
failure_number Disabled = 9
failure_number Blocked = 10
failure_number Unknown = 11

abbrev pub reason_number : Why → ℕ
reason_number (ReadLocked lba count range) = 1
reason_number (WriteLocked lba count range) = 2
reason_number (ReadShadow lba count) = 3
reason_number (WriteShadow lba count) = 4
reason_number (NoEntryHolds sp object method column need) = 5
reason_number (NoAccessRow sp object method) = 6
reason_number (AttemptFailed sp authority failure) = failure_number failure

abbrev pub no_denial : Denied
no_denial = record {
  code = done_code;
  client = 0;
  reason = 0;
  sp = 0;
  range = 0;
  has_column = false;
  count = 0;
  step = 0;
  lba = 0;
  object = 0;
  method = 0;
  column = 0;
}

abbrev pub refused_denied : CallError → Denied
refused_denied error = record no_denial { code = code_of_call error }

-- with the sectors of a transfer, and the range that denied it
abbrev pub of_transfer : Denied → ℕ → ℕ → ℕ → Denied
of_transfer told lba count range = record told { lba = lba; count = count; range = range }

-- with an object of a security provider, and the method
abbrev pub of_call : Denied → Sp → Uid → ℕ → Denied
of_call told sp object method =
    record told { sp = sp_number sp; object = object.0; method = method }

-- with the first column that is denied, where columns are named
abbrev pub of_column : Denied → Option Column → Denied
of_column told None = told
of_column told (Some column) = record told { has_column = true; column = column.0 }

abbrev pub of_reason : Denied → Why → Denied
of_reason told (ReadLocked lba count range) = of_transfer told lba count range
of_reason told (WriteLocked lba count range) = of_transfer told lba count range
of_reason told (ReadShadow lba count) = of_transfer told lba count 0
of_reason told (WriteShadow lba count) = of_transfer told lba count 0
of_reason told (NoEntryHolds sp object method column need) =
    of_column (of_call told sp object method.0) column
of_reason told (NoAccessRow sp object method) = of_call told sp object method.0
of_reason told (AttemptFailed sp authority failure) = of_call told sp authority 0

-- a denial of an act of this number, of a client
abbrev pub denied_numbers : ℕ → ℕ → Why → Denied
denied_numbers step client why =
    of_reason (record no_denial { step = step; client = client; reason = reason_number why }) why

-- a line of the audit log, where there is one
abbrev pub line_numbers : Option AuditLine → Denied
line_numbers None = no_denial
line_numbers (Some line) = denied_numbers line.step line.client line.why
