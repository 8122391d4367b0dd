-- What a line of a script leaves behind.
use Rattle.std.specs.Prelude.{ℕ, List, [], ◌∷◌}
use Rattle.history.specs.Opening.{Origin}
use Rattle.script_lines.specs.Texts.{last_of}
use Rattle.pictures.specs.Samples.{Sample, drive_sample, port_sample}
use Rattle.pictures.specs.declared.samples.frame.Frame.{Frame}
use Rattle.reasons.specs.Onsets.{bare_acts}
use Rattle.tool.specs.Courses.{Course, Advance, DriveScript, NamedScript, PortScript}
use Rattle.drive_scripts.specs.DriveCourses.{OnDrive, ExplainedDrive}
use Rattle.port_scripts.specs.PortActs.{bare_steps}
use Rattle.port_scripts.specs.PortCourses.{OnPort, ExplainedPort}
use Rattle.tool.specs.Outcomes.{printed_by}
use Rattle.tool.specs.Scripts.{ScriptLine}

-- what a look shows behind the acts on a drive, or the steps of a port
abbrev pub sample_on : Origin → Course → Sample
sample_on o (DriveScript (OnDrive acts)) = drive_sample o acts
sample_on o (DriveScript (ExplainedDrive past)) = drive_sample o (bare_acts past)
sample_on o (NamedScript known (OnDrive acts)) = drive_sample o acts
sample_on o (NamedScript known (ExplainedDrive past)) = drive_sample o (bare_acts past)
sample_on o (PortScript (OnPort list)) = port_sample o list
sample_on o (PortScript (ExplainedPort past)) = port_sample o (bare_steps past)

-- the frame of a line of this number and text, where this line was printed last
abbrev pub frame_by : Origin → Course → ℕ → List ℕ → List ℕ → Frame
frame_by o course number text last = record {
  number = number;
  line = text;
  last = last;
  sample = sample_on o course;
}

-- a line that prints nothing leaves none
abbrev pub frame_where : List ℕ → Frame → List Frame
frame_where [] frame = []
frame_where (byte ∷ bytes) frame = frame ∷ []

abbrev pub frame_behind : Origin → List ℕ → ScriptLine → Advance → List Frame
frame_behind o last line made =
    frame_where (printed_by made)
    (frame_by o made.course line.number line.text (last_of last made.lines))

-- nothing was done yet
abbrev pub opening_frame : Origin → Course → Frame
opening_frame o course = frame_by o course 0 [] []
