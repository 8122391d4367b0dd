-- A command header, the 32 bytes of a slot in the command list (AHCI 1.3.1, 4.2.2).
use Rattle.std.specs.Prelude.{ℕ, ◌+◌, ◌*◌, ◌/◌, ◌%◌, ◌==◌, ◌&&◌, nat_le, Bool, List, ◌++◌, drop, slice_index, if◌then◌else◌}
use Rattle.byteorder.specs.Endian.{little_number, little_bytes}
use Rattle.fis.specs.Bytes.{bit}
use Rattle.fis.specs.Types.{h2d_length}
use Rattle.slots.specs.Layout.{memory_size, descriptors_at, descriptor_size}

-- The number in so many bytes from a place on, the lowest first.
abbrev pub little_endian_at : ℕ → List ℕ → ℕ → ℕ
little_endian_at size bytes place = little_number size (drop place bytes)

-- how many words of four bytes a command FIS has
abbrev pub command_fis_words : ℕ
command_fis_words = h2d_length / 4

-- a table stands at a multiple of this (4.2.2, CTBA)
abbrev pub table_alignment : ℕ
table_alignment = 128

-- W, a bit of the header's first byte
abbrev pub write_bit : ℕ
write_bit = 64

-- The writing: the words of a command FIS, W where the data go to the device, so many entries,
-- the place of the command table, and zeros.
abbrev pub header_bytes : Bool → ℕ → ℕ → List ℕ
header_bytes write entry_count table =
    little_bytes 2 (command_fis_words + write_bit * bit write) ++ little_bytes 2 entry_count
    ++ little_bytes 4 0
    ++ little_bytes 4 table ++ little_bytes 4 0 ++ little_bytes 16 0

-- Data in one piece have one entry, no data have none.
abbrev pub entries_for : ℕ → ℕ
entries_for len = if len == 0 then 0 else 1

-- CFL: how many words the command FIS has
abbrev pub fis_words : List ℕ → ℕ
fis_words header = slice_index header 0 % 32

-- W
abbrev pub is_write : List ℕ → Bool
is_write header = slice_index header 0 / write_bit % 2 == 1

-- PRDTL: how many entries the table has
abbrev pub entry_count : List ℕ → ℕ
entry_count header = little_endian_at 2 header 2

-- CTBA and CTBAU: where the command table stands
abbrev pub table_at : List ℕ → ℕ
table_at header = little_endian_at 4 header 8

abbrev pub table_upper : List ℕ → ℕ
table_upper header = little_endian_at 4 header 12

-- The table stands at a multiple of the alignment and in the memory, its entries included.
abbrev pub has_table : List ℕ → Bool
has_table header =
    table_at header % table_alignment == 0 && table_upper header == 0
    && nat_le (table_at header + descriptors_at + descriptor_size * entry_count header) memory_size
