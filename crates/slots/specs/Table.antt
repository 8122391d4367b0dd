-- A command table (AHCI 1.3.1, 4.2.3): the command FIS, and behind it the physical region
-- descriptors (4.2.3.3).
use Rattle.std.specs.Prelude.{ℕ, ◌+◌, ◌-◌, ◌*◌, ◌%◌, ◌==◌, ◌&&◌, nat_le, Bool, List, ◌++◌, map, sum, slice_index, if◌then◌else◌}
use Rattle.std.specs.List.{range_with_len}
use Rattle.byteorder.specs.Endian.{little_bytes}
use Rattle.fis.specs.Types.{h2d_type}
use Rattle.slots.specs.Layout.{memory_size, command_table_size, descriptors_at, descriptor_size, memory_with, memory_part, zero_bytes}
use Rattle.slots.specs.Header.{little_endian_at}

-- The writing of a descriptor: the address and its upper half, a reserved word, and the count of
-- bytes less one, with I 0.
abbrev pub entry_bytes : ℕ → ℕ → List ℕ
entry_bytes address len =
    little_bytes 4 address ++ little_bytes 4 0 ++ little_bytes 4 0 ++ little_bytes 4 (len - 1)

-- The writing of a table: the FIS, the descriptor of the data where there are any, else zeros.
abbrev pub table_bytes : ℕ → List ℕ → ℕ → List ℕ
table_bytes buffer command len =
    if len == 0 then memory_with (zero_bytes command_table_size) 0 command
    else memory_with (memory_with (zero_bytes command_table_size) 0 command) descriptors_at
    (entry_bytes buffer len)

-- The bytes begin as those of a Register FIS to the device whose C bit is set.
abbrev pub is_command : List ℕ → Bool
is_command bytes = slice_index bytes 0 == h2d_type && nat_le 0x80 (slice_index bytes 1)

-- DBA and DBAU: where the data stand
abbrev pub address : List ℕ → ℕ
address entry = little_endian_at 4 entry 0

abbrev pub upper : List ℕ → ℕ
upper entry = little_endian_at 4 entry 4

-- how many bytes one descriptor can name
abbrev pub descriptor_range : ℕ
descriptor_range = 0x400000

-- DBC, bits 21 to 0: the count of bytes less one
abbrev pub byte_count_field : List ℕ → ℕ
byte_count_field entry = little_endian_at 4 entry 12 % descriptor_range + 1

-- The data stand at an even place, are an even count, and stand in the memory.
abbrev pub is_sound : List ℕ → Bool
is_sound entry =
    address entry % 2 == 0 && upper entry == 0 && byte_count_field entry % 2 == 0
    && nat_le (address entry + byte_count_field entry) memory_size

-- a descriptor of a table
abbrev pub entry_at : List ℕ → ℕ → ℕ → List ℕ
entry_at memory table k = memory_part memory
    (table + descriptors_at + descriptor_size * k) descriptor_size

-- the first n descriptors of a table, in order
abbrev pub descriptors : List ℕ → ℕ → ℕ → List (List ℕ)
descriptors memory table n = map (entry_at memory table) (range_with_len 0 n)

-- how many bytes descriptors name in all
abbrev pub bytes_of : List (List ℕ) → ℕ
bytes_of regions = sum (map byte_count_field regions)
