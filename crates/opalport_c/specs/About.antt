-- What a handle has, as numbers: the kind of the object, and what its drive is made with.
use Rattle.std.specs.Prelude.{◌≡◌, ℕ, Option}
use Rattle.basics.specs.declared.profile.Profile.{Profile}
use Rattle.basics.specs.declared.profile.Profile.TheVariants.{Base, Field, Opal}
use Rattle.sp_cells.specs.Config.{Config}
use Rattle.drive.specs.State.{DriveState}
use Rattle.library_calls.specs.declared.byte_calls.error.CallError.{CallError}
use Rattle.library_calls.specs.declared.byte_calls.error.CallError.TheVariants.{NotOpen}
use Rattle.library_calls.specs.Refusals.{done_code, code_of_call}
use Rattle.opalport_c.specs.declared.about.About.{About}
use Rattle.opalport_c.specs.declared.object.Object.{Object}
use Rattle.opalport_c.specs.declared.object.Object.TheVariants.{Drive, Port, Hba}
use Rattle.opalport_c.specs.Calls.{ByHandle}

abbrev pub kind_number : Object → ℕ
kind_number (Drive desk) = 1
kind_number (Port desk) = 2
kind_number (Hba desk) = 3

-- the drive of an object, or behind it
abbrev pub drive_of : Object → DriveState
drive_of (Drive desk) = desk.drive
drive_of (Port desk) = desk.port.bare.drive
drive_of (Hba desk) = desk.hba.drive

abbrev pub profile_number : Profile → ℕ
profile_number Base = 0
profile_number Field = 1
profile_number Opal = 2

abbrev pub refused_about : CallError → About
refused_about error = record {
  code = code_of_call error;
  kind = 0;
  profile = 0;
  sectors = 0;
  shadow = 0;
}

-- the numbers of a kind, and of what a drive is made with
abbrev pub about_numbers : ℕ → Config → About
about_numbers kind config = record {
  code = done_code;
  kind = kind;
  profile = profile_number config.profile;
  sectors = config.sectors;
  shadow = config.mbr_sectors;
}

abbrev pub about_of : Object → About
about_of object = about_numbers (kind_number object) (drive_of object).tper.store.config

-- What the handle has was told, and is as before.
abbrev pub TellsAbout : Option Object → Option Object → About → Type 0
TellsAbout had has about = ByHandle had has (about ≡ refused_about NotOpen)
    (λ old new. (about ≡ about_of old) × (new ≡ old))
