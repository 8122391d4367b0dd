-- A drive that is saved as bytes, one that is loaded from them, and a controller over such a one.
use Rattle.std.specs.Prelude.{◌≡◌, ◌≢◌, ◌⊎◌, ℕ, List, [], ◌∷◌, Option, Some, None}
use Rattle.sp_cells.specs.Resets.{power_cycle}
use Rattle.history.specs.Opening.{Origin}
use Rattle.history.specs.History.{Act, Reset}
use Rattle.drive.specs.State.{DriveState, Agrees}
use Rattle.saved.specs.Saved.{IsSavedBy}
use Rattle.host_memory.specs.declared.width.AddressWidth.{AddressWidth}
use Rattle.hba.specs.History.{Opened, State, AgreesHba}
use Rattle.library_calls.specs.declared.hba_calls.desk.HbaDesk.{HbaDesk}
use Rattle.library_calls.specs.declared.byte_calls.count.Count.{Count}
use Rattle.library_calls.specs.declared.byte_calls.error.CallError.{CallError}
use Rattle.library_calls.specs.declared.byte_calls.error.CallError.TheVariants.{NotOpen, InUse, OutOfMemory, Malformed}
use Rattle.library_calls.specs.Copies.{IsCopied}
use Rattle.library_calls.specs.Refusals.{done_code, code_of_call}
use Rattle.opalport_c.specs.declared.drive_desk.DriveDesk.{DriveDesk}
use Rattle.opalport_c.specs.declared.object.Object.{Object}
use Rattle.opalport_c.specs.declared.object.Object.TheVariants.{Drive, Hba}
use Rattle.opalport_c.specs.About.{drive_of}
use Rattle.opalport_c.specs.Calls.{ByHandle, WritesNone}
use Rattle.opalport_c.specs.Desks.{IsNewDesk}

-- These bytes are what a power cycle leaves of the drive.
abbrev pub IsTextOf : DriveState → List ℕ → Type 0
IsTextOf drive text =
    (o : Origin) (acts : List Act) → Agrees drive o acts
    → IsSavedBy text o (Reset power_cycle ∷ acts)

-- want of memory, or what no bytes of this form say
abbrev pub IsFormFault : CallError → Type 0
IsFormFault error = (error ≡ OutOfMemory) ⊎ (error ≡ Malformed)

-- They were copied into a buffer, or it has no room for them, or there are none.
abbrev pub SavesTo : DriveState → List ℕ → List ℕ → Count → Type 0
SavesTo drive into out count =
    ((text : List ℕ) × IsTextOf drive text × IsCopied text into out count)
    ⊎ ((error : CallError) × IsFormFault error × WritesNone into out count error)

-- The drive of what the handle has, which is as before.
abbrev pub SavesByHandle : Option Object → Option Object → List ℕ → List ℕ → Count → Type 0
SavesByHandle had has into out count = ByHandle had has (WritesNone into out count NotOpen)
    (λ old new. SavesTo (drive_of old) into out count × (new ≡ old))

-- the drive that was saved as these bytes, which has answered nothing yet
abbrev pub IsLoadedDrive : List ℕ → Object → Type 0
IsLoadedDrive text object = (desk : DriveDesk) × (object ≡ Drive desk) × IsNewDesk desk
    × ((o : Origin) (acts : List Act) → IsSavedBy text o acts → Agrees desk.drive o acts)

-- a controller after its reset, over that drive, whose addresses have so many bits
abbrev pub IsHbaOfText : AddressWidth → List ℕ → State → Type 0
IsHbaOfText width text hba =
    (o : Opened) → o.width ≡ width → IsSavedBy text o.origin o.earlier → AgreesHba hba o []

abbrev pub IsLoadedHba : AddressWidth → List ℕ → Object → Type 0
IsLoadedHba width text object = (desk : HbaDesk) × (object ≡ Hba desk) × (desk.denied ≡ None)
    × IsHbaOfText width text desk.hba

-- A handle with nothing is given what is loaded, or nothing was done.
pub record Loads (had has : Option Object) (IsLoaded : Object → Type 0) (code : ℕ) : Type 0 where
  pub in_use : had ≢ None → (code ≡ code_of_call InUse) × (has ≡ had)
  pub loaded : code ≡ done_code → (object : Object) × (has ≡ Some object) × IsLoaded object
  pub refused : code ≢ done_code → has ≡ had
  pub why : had ≡ None → code ≢ done_code
      → (error : CallError) × (code ≡ code_of_call error) × IsFormFault error
