-- What a caller from outside is told of a denial.
use Rattle.std.specs.Prelude.{ℕ, List, [], Option, Some, None}
use Rattle.audit.specs.AuditText.{line_text}
use Rattle.audit.specs.declared.reason.Why.{Why}
use Rattle.drive.specs.declared.answer.Completed.{Completed}
use Rattle.library_calls.specs.declared.denied.Denied.{Denied}
use Rattle.library_calls.specs.Denied.{no_denial, denied_numbers}
use Rattle.opalport_c.specs.declared.drive_desk.DriveDesk.{DriveDesk}

-- the line of a denial, under the number of the act that was denied
abbrev pub denial_by : Option Completed → Option Why → ℕ → ℕ → List ℕ
denial_by (Some done) why step client = []
denial_by None None step client = []
denial_by None (Some why) step client =
    line_text (record { step = step; client = client; why = why })

abbrev pub denial_at : DriveDesk → ℕ → List ℕ
denial_at desk client = denial_by desk.done desk.answer.denied desk.answered client

-- the same as numbers
abbrev pub denied_numbers_by : Option Completed → Option Why → ℕ → ℕ → Denied
denied_numbers_by (Some done) why step client = no_denial
denied_numbers_by None None step client = no_denial
denied_numbers_by None (Some why) step client = denied_numbers step client why

abbrev pub denied_at : DriveDesk → ℕ → Denied
denied_at desk client = denied_numbers_by desk.done desk.answer.denied desk.answered client
