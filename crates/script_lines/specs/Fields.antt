-- Words of a line, by the fields that they stand for.
use Rattle.std.specs.Prelude.{ℕ, ◌*◌, Bool, ◌==◌, length, if◌then◌else◌, List, Option, Some, None, Result, Ok, Err, slice_index}
use Rattle.hex.specs.Hex.{decode_sized}
use Rattle.hex.specs.declared.error.FromHexError.{FromHexError}
use Rattle.script_lines.specs.Numbers.{number_up_to, largest}
use Rattle.script_lines.specs.Hexes.{bytes_up_to}
use Rattle.script_lines.specs.declared.fault.LineFault.{LineFault}
use Rattle.script_lines.specs.declared.fault.LineFault.TheVariants.{Missing, Wrong}
use Rattle.script_lines.specs.declared.field.Field.{Field}
use Rattle.script_lines.specs.declared.field.Field.TheVariants as fields

-- the most bytes of a call's tokens: those of the largest ComPacket less its three headers
abbrev pub most_call_bytes : ℕ
most_call_bytes = 65480

-- the most bytes of a ComPacket that is sent: the most blocks of a transfer, of 512 bytes each
abbrev pub most_send_bytes : ℕ
most_send_bytes = largest 16 * 512

-- the largest number that a field holds: a flag has 1 bit, a tag 5 (AHCI 1.3.1, 3.1.1), an address 48 (ACS-3), a security protocol 8 and its SP
-- Specific field 16 (ACS-3, TRUSTED SEND), a ComID 16 and the
-- number of a session 32 (TCG Core 2.01, 3.2.3); of hex text the most bytes
abbrev pub most_of : Field → ℕ
most_of fields.ReadLockEnabled = largest 1
most_of fields.WriteLockEnabled = largest 1
most_of fields.ReadLocked = largest 1
most_of fields.WriteLocked = largest 1
most_of fields.ResetKind = largest 1
most_of fields.Tag = largest 5
most_of fields.Range = largest 8
most_of fields.Byte = largest 8
most_of fields.DmaByte = largest 8
most_of fields.Count = largest 16
most_of fields.DmaCount = largest 16
most_of fields.ComId = largest 16
most_of fields.Blocks = largest 16
most_of fields.Protocol = largest 8
most_of fields.SpSpecific = largest 16
most_of fields.SecurityBlocks = largest 16
most_of fields.SecurityBytes = most_send_bytes
most_of fields.Client = largest 32
most_of fields.TperSession = largest 32
most_of fields.HostSession = largest 32
most_of fields.Address = largest 48
most_of fields.DmaAddress = largest 48
most_of fields.Start = largest 64
most_of fields.Length = largest 64
most_of fields.Tokens = most_call_bytes
most_of fields.ComPacket = most_send_bytes
most_of fields.Slot = largest 5
most_of fields.PutByte = largest 8
most_of fields.PutCount = largest 16
most_of fields.PutComId = largest 16
most_of fields.PutBlocks = largest 16
most_of fields.PutTperSession = largest 32
most_of fields.PutHostSession = largest 32
most_of fields.PutAddress = largest 48
most_of fields.PutTokens = most_call_bytes
most_of fields.PutComPacket = most_send_bytes
most_of fields.PutProtocol = largest 8
most_of fields.PutSpSpecific = largest 16
most_of fields.PutSecurityBlocks = largest 16
most_of fields.PutSecurityBytes = most_send_bytes

-- the value, or the fault where there is none
abbrev pub or_fault : {A : Type 0} → LineFault → Option A → Result A LineFault
or_fault fault None = Err fault
or_fault fault (Some value) = Ok value

-- what a word says, which is there
abbrev pub if_present : {A : Type 0} → Field → List ℕ → Result A LineFault → Result A LineFault
if_present field word says = if length word == 0 then Err (Missing field) else says

-- the second step, if the first gave a value
infixl 10 ◌>>=◌
abbrev pub ◌>>=◌ : {A B : Type 0} → Result A LineFault → (A → Result B LineFault)
    → Result B LineFault
Ok x >>= f = f x
Err e >>= f = Err e

-- a word as the number of a field
abbrev pub number_of_field : Field → List ℕ → Result ℕ LineFault
number_of_field field word =
    if_present field word (or_fault (Wrong field) (number_up_to (most_of field) word))

abbrev pub is_flag_set : Result ℕ LineFault → Result Bool LineFault
is_flag_set (Ok number) = Ok (number == 1)
is_flag_set (Err fault) = Err fault

abbrev pub flag_in : Field → List ℕ → Result Bool LineFault
flag_in field word = is_flag_set (number_of_field field word)

-- a byte written as two hex digits
abbrev pub byte_or_fault : Field → Result (List ℕ) FromHexError → Result ℕ LineFault
byte_or_fault field (Ok bytes) = Ok (slice_index bytes 0)
byte_or_fault field (Err error) = Err (Wrong field)

abbrev pub byte_of_field : Field → List ℕ → Result ℕ LineFault
byte_of_field field word = if_present field word (byte_or_fault field (decode_sized word 1))

-- bytes written in hex text, at most as many as the field holds
abbrev pub hex_in : Field → List ℕ → Result (List ℕ) LineFault
hex_in field word = if_present field word
    (or_fault (Wrong field) (bytes_up_to (most_of field) word))
