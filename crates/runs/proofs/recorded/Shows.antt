-- What a look at what runs shows.
use Rattle.std.proofs.Common.{◌≡◌, List}
use Rattle.history.specs.History.{Act}
use Rattle.history.specs.Opening.{Origin}
use Rattle.drive.specs.State.{Agrees}
use Rattle.reasons.specs.Onsets.{bare_acts}
use Rattle.pictures.specs.Samples.{Sample, drive_sample, port_sample}
use Rattle.port.specs.Live.{LiveAgrees}
use Rattle.port_history.specs.declared.step.Step.{Step}
use Rattle.port_scripts.specs.PortActs.{bare_steps}
use Rattle.port_scripts.specs.PortCourses.{OnPort, ExplainedPort}
use Rattle.port_scripts.specs.declared.port_desk.PortDesk.{PortDesk}
use Rattle.drive_scripts.specs.DriveCourses.{OnDrive, ExplainedDrive}
use Rattle.drive_scripts.specs.declared.drive_phase.DrivePhase.{DrivePhase}
use Rattle.tool.specs.Courses.{Course, DriveScript, NamedScript, PortScript, PhaseRunsOn}
use Rattle.tool.specs.declared.named_phase.NamedPhase.{NamedPhase}
use Rattle.tool.specs.declared.phase.Phase.TheVariants as phases
use Rattle.runs.specs.Frames.{sample_on}

pub drive-samples : (drive : DrivePhase) (o : Origin) (course : Course) (sample : Sample)
    → ((o : Origin) (acts : List Act) → Agrees drive.run.drive o acts → sample ≡ drive_sample o acts)
    → PhaseRunsOn (phases.Drive drive) o course → sample ≡ sample_on o course
drive-samples drive o (DriveScript (OnDrive acts)) sample shows runs = shows o acts runs.0.0
drive-samples drive o (DriveScript (ExplainedDrive past)) sample shows runs = shows o (bare_acts past) runs.0.0
drive-samples drive o (NamedScript known course) sample shows runs = absurd runs
drive-samples drive o (PortScript course) sample shows runs = absurd runs

pub named-samples : (named : NamedPhase) (o : Origin) (course : Course) (sample : Sample)
    → ((o : Origin) (acts : List Act) → Agrees named.drive.run.drive o acts → sample ≡ drive_sample o acts)
    → PhaseRunsOn (phases.Named named) o course → sample ≡ sample_on o course
named-samples named o (NamedScript known (OnDrive acts)) sample shows runs = shows o acts runs.0.0.0
named-samples named o (NamedScript known (ExplainedDrive past)) sample shows runs = shows o (bare_acts past) runs.0.0.0
named-samples named o (DriveScript course) sample shows runs = absurd runs
named-samples named o (PortScript course) sample shows runs = absurd runs

pub port-samples : (desk : PortDesk) (o : Origin) (course : Course) (sample : Sample)
    → ((o : Origin) (list : List Step) → LiveAgrees desk.phase.port o list → sample ≡ port_sample o list)
    → PhaseRunsOn (phases.Port desk) o course → sample ≡ sample_on o course
port-samples desk o (PortScript (OnPort list)) sample shows runs = shows o list runs.0.stands
port-samples desk o (PortScript (ExplainedPort past)) sample shows runs = shows o (bare_steps past) runs.2.runs.stands
port-samples desk o (DriveScript course) sample shows runs = absurd runs
port-samples desk o (NamedScript known course) sample shows runs = absurd runs
