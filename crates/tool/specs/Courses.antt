-- What a line makes of the course of a script, on a drive or on a port.
use Rattle.std.specs.Prelude.{◌≡◌, ℕ, Bool, List, [], Result, Ok, Err}
use Rattle.history.specs.Opening.{Origin}
use Rattle.script_lines.specs.KnownSessions.{Known, learned, plain_line}
use Rattle.script_lines.specs.Texts.{last_of}
use Rattle.script_lines.specs.declared.named_lines.fault.CallFault.{CallFault}
use Rattle.script_lines.specs.declared.report.Report.{Report}
use Rattle.drive_scripts.specs.DriveCourses.{DriveCourse, DriveRunsOn, drive_course_step, drive_start}
use Rattle.drive_scripts.specs.Turns.{AdvanceOf, AdvancesBy}
use Rattle.port_scripts.specs.PortCourses.{PortCourse, DeskRunsOn, port_course_step, port_start}
use Rattle.tool.specs.Scripts.{ScriptLine}
use Rattle.tool.specs.declared.head.ScriptKind.{ScriptKind}
use Rattle.tool.specs.declared.head.ScriptKind.TheVariants as kinds
use Rattle.tool.specs.declared.named_phase.NamedPhase.{NamedPhase}
use Rattle.tool.specs.declared.phase.Phase.{Phase}
use Rattle.tool.specs.declared.phase.Phase.TheVariants as phases

-- what was done so far, on a drive or on a port; where lines may write calls by name, which sessions the clients know too
pub data Course : Type 0 where
  DriveScript : (course : DriveCourse) → Course
  NamedScript : (known : Known) → (course : DriveCourse) → Course
  PortScript : (course : PortCourse) → Course

-- nothing was done: whether reasons are told, and what the lines are
abbrev pub start : Bool → ScriptKind → Course
start explains kinds.Drive = DriveScript (drive_start explains)
start explains kinds.DriveWithNames = NamedScript [] (drive_start explains)
start explains kinds.Port = PortScript (port_start explains)

-- the course with what a line did, the lines that are printed, and the reasons that are told behind
-- them
abbrev pub Advance : Type 0
Advance = AdvanceOf Course

-- what a line makes of the course of a drive or of a port it makes of the course
abbrev pub advance_in : {C : Type 0} → (C → Course) → Result (AdvanceOf C) ℕ → Result Advance ℕ
advance_in on (Ok made) =
    Ok (record { course = on made.course; lines = made.lines; reasons = made.reasons })
advance_in on (Err status) = Err status

-- what a line without names makes of the course, and of what the clients know
abbrev pub learns_of : Known → List ℕ → List ℕ → Result (AdvanceOf DriveCourse) ℕ → Result Advance ℕ
learns_of known text last (Ok made) = Ok (record {
  course = NamedScript (learned known text (last_of last made.lines)) made.course;
  lines = made.lines;
  reasons = made.reasons;
})
learns_of known text last (Err status) = Err status

-- a line that writes a call by name does what the `call` line does that it stands for
abbrev pub named_step : Origin → Known → DriveCourse → List ℕ → ℕ → Result (List ℕ) CallFault
    → Result Advance ℕ
named_step o known course last number (Ok text) =
    learns_of known text last (drive_course_step o course last number text)
named_step o known course last number (Err fault) = Err 2

-- what a line makes of the course, or the status that it ends the run with
abbrev pub course_step : Origin → Course → List ℕ → ScriptLine → Result Advance ℕ
course_step o (DriveScript course) last line =
    advance_in DriveScript (drive_course_step o course last line.number line.text)
course_step o (NamedScript known course) last line =
    named_step o known course last line.number (plain_line known line.text)
course_step o (PortScript course) last line =
    advance_in PortScript (port_course_step o course last line.number line.text)

-- a drive is as its origin and the course leave it, and the clients know these sessions
abbrev pub NamedRunsOn : NamedPhase → Origin → Known → DriveCourse → Type 0
NamedRunsOn named o known course = DriveRunsOn named.drive o course × (named.known ≡ known)

-- what runs is as its origin and the course leave it
abbrev pub PhaseRunsOn : Phase → Origin → Course → Type 0
PhaseRunsOn (phases.Drive drive) o (DriveScript course) = DriveRunsOn drive o course
PhaseRunsOn (phases.Named named) o (NamedScript known course) = NamedRunsOn named o known course
PhaseRunsOn (phases.Port desk) o (PortScript course) = DeskRunsOn desk o course
PhaseRunsOn phase o course = ⊥

abbrev pub PhaseStands : Phase → Type 0
PhaseStands phase = (o : Origin) × (course : Course) × PhaseRunsOn phase o course

-- it has made the advance, and says so
abbrev pub Advances : Phase → Origin → Report → Report → Advance → Type 0
Advances new o before after made = AdvancesBy Course (PhaseRunsOn new o) before after made
