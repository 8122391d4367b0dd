use Rattle.opalport_c.proofs.Handed.{refused_call}
use Rattle.opalport_c.proofs.drive_desk.DriveDesk.take_command.Goals as goal

pub returns-in-Err : goal.returns-in-Err
returns-in-Err c = refused_call _ _ _ _ c.in-Err.error _ c.refused.ensures c.in-Err.ensures.err c.in-Err.ensures.fault
