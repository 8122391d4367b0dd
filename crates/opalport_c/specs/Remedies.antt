-- What would lift a denial that a handle's object tells, by the rows in force: a line of text, or none.
use Rattle.std.specs.Prelude.{◌≡◌, ℕ, List, [], Option, Some, None, option_map}
use Rattle.audit.specs.declared.reason.Why.{Why}
use Rattle.audit.specs.declared.reason.AuditLine.{AuditLine}
use Rattle.drive.specs.declared.answer.Completed.{Completed}
use Rattle.drive.specs.State.{DriveState}
use Rattle.transactions.specs.Sights.{look_up, committed_sight}
use Rattle.reasons.specs.Remedies.{remedy_text}
use Rattle.port.specs.Live.{line_kept}
use Rattle.library_calls.specs.declared.byte_calls.count.Count.{Count}
use Rattle.library_calls.specs.declared.byte_calls.error.CallError.TheVariants.{NotOpen}
use Rattle.library_calls.specs.Copies.{IsWrittenOut}
use Rattle.opalport_c.specs.declared.object.Object.{Object}
use Rattle.opalport_c.specs.declared.object.Object.TheVariants.{Drive, Port, Hba}
use Rattle.opalport_c.specs.About.{drive_of}
use Rattle.opalport_c.specs.Calls.{ByHandle, WritesNone}

-- what denied the last command of a drive: nothing behind a completion
abbrev pub command_denier : Option Completed → Option Why → Option Why
command_denier (Some done) denied = None
command_denier None denied = denied

abbrev pub line_denier : Option AuditLine → Option Why
line_denier line = option_map (λ l. l.why) line

-- what denied a drive's last command, the step at a place of a port's audit log, or the command of a controller's last turn
abbrev pub denier_in : Object → ℕ → Option Why
denier_in (Drive desk) place = command_denier desk.done desk.answer.denied
denier_in (Port desk) place = line_denier (line_kept desk.port place)
denier_in (Hba desk) place = line_denier desk.denied

-- what would lift it, by the rows in force
abbrev pub remedy_for : DriveState → Option Why → List ℕ
remedy_for drive None = []
remedy_for drive (Some why) = remedy_text drive.tper.store.config.profile
    (look_up (committed_sight drive.tper.store)) why

abbrev pub remedy_in : Object → ℕ → List ℕ
remedy_in object place = remedy_for (drive_of object) (denier_in object place)

abbrev pub TellsRemedy : Option Object → Option Object → ℕ → List ℕ → List ℕ → Count → Type 0
TellsRemedy had has place into out count = ByHandle had has (WritesNone into out count NotOpen)
    (λ old new. IsWrittenOut (remedy_in old place) into out count × (new ≡ old))
