-- A look at a sector of the media: its bytes, whatever is locked or shadowed. It is no act, and all is as before.
use Rattle.std.specs.Prelude.{◌≡◌, ℕ, Bool, true, false, nat_lt, List, Option}
use Rattle.shadow_mbr.specs.Stored.{sector_at}
use Rattle.drive.specs.State.{DriveState}
use Rattle.library_calls.specs.declared.byte_calls.count.Count.{Count}
use Rattle.library_calls.specs.declared.byte_calls.error.CallError.TheVariants.{NotOpen, Number}
use Rattle.library_calls.specs.Copies.{IsCopied}
use Rattle.opalport_c.specs.declared.object.Object.{Object}
use Rattle.opalport_c.specs.About.{drive_of}
use Rattle.opalport_c.specs.Calls.{ByHandle, WritesNone}

-- of a sector that is there, and of one beyond the drive
abbrev pub LooksBy : Bool → DriveState → ℕ → List ℕ → List ℕ → Count → Type 0
LooksBy true drive lba into out count = IsCopied (sector_at drive.media lba) into out count
LooksBy false drive lba into out count = WritesNone into out count Number

abbrev pub LooksAt : DriveState → ℕ → List ℕ → List ℕ → Count → Type 0
LooksAt drive lba into out count =
    LooksBy (nat_lt lba drive.tper.store.config.sectors) drive lba into out count

abbrev pub LooksByHandle : Option Object → Option Object → ℕ → List ℕ → List ℕ → Count → Type 0
LooksByHandle had has lba into out count = ByHandle had has (WritesNone into out count NotOpen)
    (λ old new. LooksAt (drive_of old) lba into out count × (new ≡ old))
