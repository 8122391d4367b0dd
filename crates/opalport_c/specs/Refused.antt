-- What stands for an error of the crates below.
use Rattle.sp_cells.specs.declared.error.SetError.{SetError}
use Rattle.sp_cells.specs.declared.error.SetError.TheVariants as sets
use Rattle.drive.specs.declared.error.DriveError.{DriveError}
use Rattle.drive.specs.declared.error.DriveError.TheVariants as drives
use Rattle.library_calls.specs.declared.byte_calls.error.CallError.{CallError}
use Rattle.library_calls.specs.declared.byte_calls.error.CallError.TheVariants.{OutOfMemory, NotHeld, NoRange, Overlap, Beyond}

abbrev pub set_refusal : SetError → CallError
set_refusal sets.OutOfMemory = OutOfMemory
set_refusal sets.Overlap = Overlap
set_refusal sets.Beyond = Beyond
set_refusal sets.NoCell = NoRange
set_refusal sets.WrongType = NoRange
set_refusal sets.Expr = NoRange

abbrev pub drive_refusal : DriveError → CallError
drive_refusal drives.NotHeld = NotHeld
drive_refusal drives.OutOfMemory = OutOfMemory
