-- What is wrong with bytes. The first that applies is told.
use Rattle.std.specs.Prelude.{◌≡◌, ℕ, nat_lt, List, length, Option, None, Some, option_map, Result, Ok, Err, if◌then◌else◌}
use Rattle.compacket.specs.declared.error.FrameError.{FrameError}
use Rattle.decoded.specs.declared.fault.DecodeFault.{DecodeFault}
use Rattle.decoded.specs.declared.fault.DecodeFault.TheVariants.{Cut, UnknownType, Reserved, Frame}
use Rattle.decoded.specs.Fields.{FieldRow, cut_field}

-- the bytes end within a field; they begin with the type of no FIS; a bit that a byte reserves is set; they are no frame
pub data BytesFault : Type 0 where
  cut_in : List ℕ → BytesFault
  unknown_type : ℕ → BytesFault
  reserved_in : ℕ → BytesFault
  no_frame : FrameError → BytesFault

-- what a fault of the code says
abbrev pub fault_said : DecodeFault → BytesFault
fault_said (Cut name) = cut_in name.now
fault_said (UnknownType kind) = unknown_type kind
fault_said (Reserved place) = reserved_in place
fault_said (Frame fault) = no_frame fault

-- a check that tells this fault, or passes where there is none
abbrev pub Checks : {T : Type 0} → Option BytesFault → Result T DecodeFault → Type 0
Checks fault (Ok _) = fault ≡ None
Checks fault (Err e) = fault ≡ Some (fault_said e)

-- the first of two
abbrev pub earlier : Option BytesFault → Option BytesFault → Option BytesFault
earlier None later = later
earlier (Some fault) later = Some fault

-- a field is cut off
abbrev pub fields_fault : List FieldRow → List ℕ → Option BytesFault
fields_fault rows bytes = option_map cut_in (cut_field rows (length bytes))

-- the bytes are fewer than a size, and so end within a part
abbrev pub size_fault : ℕ → List ℕ → List ℕ → Option BytesFault
size_fault size part bytes = if nat_lt (length bytes) size then Some (cut_in part) else None
