-- The command in a slot (AHCI 1.3.1, 5.5.1), over any bytes.
use Rattle.std.specs.Prelude.{◌≡◌, ◌≤◌, ◌⊎◌, ℕ, ◌+◌, ◌==◌, ◌&&◌, nat_le, not, Bool, List, Option, Some, None, Result, Ok, Err, if◌then◌else◌}
use Rattle.std.specs.List.{list_all}
use Rattle.fis.specs.Types.{h2d_length}
use Rattle.slots.specs.declared.error.FetchError.{FetchError}
use Rattle.slots.specs.declared.error.FetchError.TheVariants.{BadLength, BadAddress, BadPrdt, BadFis}
use Rattle.slots.specs.declared.fetched.Fetched.{Fetched}
use Rattle.slots.specs.Layout.{header_size, command_table_size, buffer_size, memory_with, memory_part, header_place, table_place, buffer_place}
use Rattle.slots.specs.Header.{command_fis_words, header_bytes, entries_for, fis_words, is_write, entry_count, table_at, has_table}
use Rattle.slots.specs.Table.{table_bytes, is_command, is_sound, descriptors, bytes_of}

-- The memory with a command in a slot.
abbrev pub placed : List ℕ → ℕ → List ℕ → Bool → ℕ → List ℕ
placed memory tag command write len =
    memory_with (memory_with memory (header_place tag) (header_bytes write (entries_for len)
    (table_place tag)))
    (table_place tag) (table_bytes (buffer_place tag) command len)

-- How many bytes descriptors name, where each is sound: a slot moves no more than a buffer has.
abbrev pub transfer : List (List ℕ) → Option ℕ
transfer regions = if list_all is_sound regions
    && nat_le (bytes_of regions) buffer_size then Some (bytes_of regions) else None

-- The FIS in a table.
abbrev pub table_fis : List ℕ → ℕ → Option (List ℕ)
table_fis memory table =
    if is_command (memory_part memory table h2d_length) then Some
    (memory_part memory table h2d_length) else None

abbrev pub fis_fetched : Option (List ℕ) → Bool → ℕ → Result Fetched FetchError
fis_fetched None write len = Err BadFis
fis_fetched (Some bytes) write len = Ok (record { fis = bytes; write = write; len = len })

abbrev pub table_fetched : Option ℕ → Option (List ℕ) → Bool → Result Fetched FetchError
table_fetched None fis write = Err BadPrdt
table_fetched (Some len) fis write = fis_fetched fis write len

-- What a header names, the first fault first.
abbrev pub header_fetched : List ℕ → List ℕ → Result Fetched FetchError
header_fetched memory header =
    if not (fis_words header == command_fis_words) then Err BadLength
    else (if not (has_table header) then Err BadAddress
    else table_fetched (transfer (descriptors memory (table_at header) (entry_count header)))
    (table_fis memory (table_at header)) (is_write header))

-- What a slot holds.
abbrev pub fetched : List ℕ → ℕ → Result Fetched FetchError
fetched memory tag = header_fetched memory (memory_part memory (header_place tag) header_size)

-- A slot holds a command: its header and its table are as they are written.
pub record HoldsCommand (memory : List ℕ) (tag : ℕ) (command : List ℕ) (write : Bool)
    (len : ℕ) : Type 0 where
  pub header : memory_part memory (header_place tag) header_size
      ≡ header_bytes write (entries_for len) (table_place tag)
  pub table : memory_part memory (table_place tag) command_table_size ≡ table_bytes
      (buffer_place tag) command len

-- a part of so many bytes has none of the others
abbrev pub IsApartFromParts : ℕ → ℕ → ℕ → ℕ → Type 0
IsApartFromParts place n other m = (place + n ≤ other) ⊎ (other + m ≤ place)
