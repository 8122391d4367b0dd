-- The memory that a host shares with a port (AHCI 1.3.1, 4.2). Where its parts stand is the host's
-- choice; sizes, and the offsets among received FISes, are those of the standard.
use Rattle.std.specs.Prelude.{ℕ, ◌+◌, ◌*◌, List, ◌++◌, length, take, drop, replicate, slice_range}
use Rattle.fis.specs.Tags.{slot_count}
use Rattle.fis.specs.Types.{h2d_length, d2h_length, set_device_bits_length, dma_setup_length, pio_setup_length}
use Rattle.fis.specs.declared.any.Fis.{Fis}
use Rattle.fis.specs.declared.any.Fis.TheVariants as fises

-- The command list stands at 0, and has a header for each slot (4.2.2).
abbrev pub header_size : ℕ
header_size = 32

-- where the received FISes stand, and how many bytes there are for them (4.2.1)
abbrev pub received_at : ℕ
received_at = 0x400

abbrev pub received_size : ℕ
received_size = 0x100

-- where the command tables stand, and how many bytes each has
abbrev pub tables_at : ℕ
tables_at = 0x800

abbrev pub command_table_size : ℕ
command_table_size = 0x100

-- In a table the descriptors of the data stand at an offset of their own (4.2.3).
abbrev pub descriptors_at : ℕ
descriptors_at = 0x80

abbrev pub descriptor_size : ℕ
descriptor_size = 16

-- where the data stand, and how many bytes each slot has of them
abbrev pub buffers_at : ℕ
buffers_at = 0x10000

abbrev pub buffer_size : ℕ
buffer_size = 0x20000

-- How many bytes there are in all: the buffers stand last.
abbrev pub memory_size : ℕ
memory_size = buffers_at + slot_count * buffer_size

abbrev pub header_place : ℕ → ℕ
header_place tag = header_size * tag

abbrev pub table_place : ℕ → ℕ
table_place tag = tables_at + command_table_size * tag

abbrev pub buffer_place : ℕ → ℕ
buffer_place tag = buffers_at + buffer_size * tag

-- The place of each type among the received FISes (4.2.1). What is no FIS of a device stands last.
abbrev pub received_place : Fis → ℕ
received_place (fises.DmaSetup f) = received_at
received_place (fises.PioSetup f) = received_at + 0x20
received_place (fises.D2h f) = received_at + 0x40
received_place (fises.SetDeviceBits f) = received_at + 0x58
received_place (fises.H2d f) = received_at + 0x60

-- so many bytes from a place on
abbrev pub memory_part : List ℕ → ℕ → ℕ → List ℕ
memory_part memory at len = slice_range memory at (at + len)

-- The memory with bytes laid from a place on, and all else as it was.
abbrev pub memory_with : List ℕ → ℕ → List ℕ → List ℕ
memory_with memory at bytes = take at memory ++ bytes ++ drop (at + length bytes) memory

unfoldable pub zero_bytes : ℕ → List ℕ
zero_bytes n = replicate n 0

-- How many bytes a FIS has.
abbrev pub fis_length : Fis → ℕ
fis_length (fises.DmaSetup f) = dma_setup_length
fis_length (fises.PioSetup f) = pio_setup_length
fis_length (fises.D2h f) = d2h_length
fis_length (fises.SetDeviceBits f) = set_device_bits_length
fis_length (fises.H2d f) = h2d_length
