-- What is told of bytes, by what they are, and how the program ends on them.
use Rattle.std.specs.Prelude.{◌≡◌, ℕ, ◌==◌, Bool, not, ◌||◌, List, length, Option, None, Some, IfSome, Result, Ok, Err, codes, filter, if◌then◌else◌}
use Rattle.std.specs.Str.{bytes_eq}
use Rattle.std.specs.Io.KnownBytes.{Appends}
use Rattle.hex.specs.Hex.{decode_of}
use Rattle.hex.specs.declared.error.FromHexError.{FromHexError}
use Rattle.decoded.specs.declared.kind.Kind.{Kind}
use Rattle.decoded.specs.declared.kind.Kind.TheVariants.{Level0, ComPacket, Fis, Identify, LogDirectory, QueuedError, DataPage}
use Rattle.decoded.specs.Faults.{BytesFault}
use Rattle.decoded.specs.Features.{level0_fault, level0_lines}
use Rattle.decoded.specs.Carried.{com_packet_wrong, com_packet_lines}
use Rattle.decoded.specs.FisLayouts.{fis_fault, fis_lines}
use Rattle.decoded.specs.DeviceFields.{identify_fault, identify_lines, directory_fault, directory_lines, queued_error_fault, queued_error_lines, data_page_fault, data_page_lines}

-- what bytes are said to be
abbrev pub kind_called : List ℕ → Option Kind
kind_called name =
    if bytes_eq name (codes "level0") then Some Level0
    else (if bytes_eq name (codes "compacket") then Some ComPacket
    else (if bytes_eq name (codes "fis") then Some Fis
    else (if bytes_eq name (codes "identify") then Some Identify
    else (if bytes_eq name (codes "log00") then Some LogDirectory
    else (if bytes_eq name (codes "log10") then Some QueuedError
    else (if bytes_eq name (codes "log30") then Some DataPage else None))))))

abbrev pub kind_fault : Kind → List ℕ → Option BytesFault
kind_fault Level0 bytes = level0_fault bytes
kind_fault ComPacket bytes = com_packet_wrong bytes
kind_fault Fis bytes = fis_fault bytes
kind_fault Identify bytes = identify_fault bytes
kind_fault LogDirectory bytes = directory_fault bytes
kind_fault QueuedError bytes = queued_error_fault bytes
kind_fault DataPage bytes = data_page_fault bytes

abbrev pub kind_lines : Kind → List ℕ → List ℕ
kind_lines Level0 bytes = level0_lines bytes
kind_lines ComPacket bytes = com_packet_lines bytes
kind_lines Fis bytes = fis_lines bytes
kind_lines Identify bytes = identify_lines bytes
kind_lines LogDirectory bytes = directory_lines bytes
kind_lines QueuedError bytes = queued_error_lines bytes
kind_lines DataPage bytes = data_page_lines bytes

-- the lines of bytes that have no fault
abbrev pub lines_unless : Option BytesFault → List ℕ → Option (List ℕ)
lines_unless None lines = Some lines
lines_unless (Some fault) lines = None

abbrev pub decoded_lines : Kind → List ℕ → Option (List ℕ)
decoded_lines kind bytes = lines_unless (kind_fault kind bytes) (kind_lines kind bytes)

-- a blank, a tab, a line feed or a carriage return, which may stand anywhere in hex text
abbrev pub separates : ℕ → Bool
separates b = (b == 32) || ((b == 9) || ((b == 10) || (b == 13)))

abbrev pub without_separators : List ℕ → List ℕ
without_separators text = filter (λ b. not (separates b)) text

abbrev pub lines_of_read : Kind → Result (List ℕ) FromHexError → Option (List ℕ)
lines_of_read kind (Ok bytes) = decoded_lines kind bytes
lines_of_read kind (Err e) = None

-- the lines of what hex text writes
abbrev pub lines_of_hex : Kind → List ℕ → Option (List ℕ)
lines_of_hex kind text = lines_of_read kind (decode_of (without_separators text))

-- the lines are printed with status 0; where there are none, the status is 2, and nothing is printed
abbrev pub TextEnds : Option (List ℕ) → ℕ → Option (List ℕ) → Option (List ℕ) → Type 0
TextEnds None status old new = (status ≡ 2) × (new ≡ old)
TextEnds (Some lines) status old new = (status ≡ 0) × Appends old new lines

-- the word, or all of the input where the word is empty or left out
abbrev pub hex_given : List ℕ → Option (List ℕ) → Option (List ℕ)
hex_given hex input = if length hex == 0 then input else Some hex

abbrev pub KindEnds : Option Kind → Option (List ℕ) → ℕ → Option (List ℕ) → Option (List ℕ) → Type 0
KindEnds None given status old new = (status ≡ 2) × (new ≡ old)
KindEnds (Some kind) given status old new =
    IfSome given (λ text. TextEnds (lines_of_hex kind text) status old new)

-- how the program ends on the name of a kind, a word of hex, and its input
abbrev pub DecodeEnds : (name hex : List ℕ) → (input : Option (List ℕ)) → ℕ
    → Option (List ℕ) → Option (List ℕ) → Type 0
DecodeEnds name hex input status old new =
    KindEnds (kind_called name) (hex_given hex input) status old new
