-- Frame information structures (Serial ATA, "FIS types"): what stands where, the lowest byte of a number first. Bits that a
-- type reserves are 0; in a host's register FIS they may have any value.
use Rattle.std.specs.Prelude.{ℕ, ◌==◌, bit_and, List, [], ◌∷◌, ◌++◌, slice_index, Option, None, Some, option_map, codes, if◌then◌else◌}
use Rattle.fis.specs.Types.{h2d_type, h2d_length, d2h_type, d2h_length, set_device_bits_type, set_device_bits_length, dma_setup_type, dma_setup_length, pio_setup_type, pio_setup_length}
use Rattle.decoded.specs.declared.field.Form.TheVariants.{Decimal, Hex, Flag, Low}
use Rattle.decoded.specs.declared.fis_fields.Layout.{Layout}
use Rattle.decoded.specs.Fields.{FieldRow, field, rows_of, little_endian, field_line, row_lines}
use Rattle.decoded.specs.Faults.{BytesFault, unknown_type, reserved_in, earlier, fields_fault, size_fault}

-- the sector, of which the upper half stands behind Device
abbrev pub lba_places : List ℕ
lba_places = 10 ∷ 9 ∷ 8 ∷ 6 ∷ 5 ∷ 4 ∷ []

-- Register - Host to Device
unfoldable pub host_fields : List FieldRow
host_fields =
    field (codes "FISType") (little_endian 0 1) Hex
    ∷ field (codes "C") (little_endian 1 1) (Flag 0x80)
    ∷ field (codes "PMPort") (little_endian 1 1) (Low 0x0f)
    ∷ field (codes "Command") (little_endian 2 1) Hex
    ∷ field (codes "Features") (11 ∷ 3 ∷ []) Hex
    ∷ field (codes "LBA") lba_places Decimal
    ∷ field (codes "Device") (little_endian 7 1) Hex
    ∷ field (codes "Count") (little_endian 12 2) Decimal
    ∷ field (codes "ICC") (little_endian 14 1) Hex
    ∷ field (codes "Control") (little_endian 15 1) Hex
    ∷ field (codes "Auxiliary") (little_endian 16 4) Hex
    ∷ []

-- Register - Device to Host
unfoldable pub device_fields : List FieldRow
device_fields =
    field (codes "FISType") (little_endian 0 1) Hex
    ∷ field (codes "I") (little_endian 1 1) (Flag 0x40)
    ∷ field (codes "PMPort") (little_endian 1 1) (Low 0x0f)
    ∷ field (codes "Status") (little_endian 2 1) Hex
    ∷ field (codes "Error") (little_endian 3 1) Hex
    ∷ field (codes "LBA") lba_places Decimal
    ∷ field (codes "Device") (little_endian 7 1) Hex
    ∷ field (codes "Count") (little_endian 12 2) Decimal
    ∷ []

-- Set Device Bits
unfoldable pub device_bits_fields : List FieldRow
device_bits_fields =
    field (codes "FISType") (little_endian 0 1) Hex
    ∷ field (codes "N") (little_endian 1 1) (Flag 0x80)
    ∷ field (codes "I") (little_endian 1 1) (Flag 0x40)
    ∷ field (codes "PMPort") (little_endian 1 1) (Low 0x0f)
    ∷ field (codes "Status") (little_endian 2 1) Hex
    ∷ field (codes "Error") (little_endian 3 1) Hex
    ∷ field (codes "SActive") (little_endian 4 4) Hex
    ∷ []

-- DMA Setup
unfoldable pub dma_fields : List FieldRow
dma_fields =
    field (codes "FISType") (little_endian 0 1) Hex
    ∷ field (codes "A") (little_endian 1 1) (Flag 0x80)
    ∷ field (codes "I") (little_endian 1 1) (Flag 0x40)
    ∷ field (codes "D") (little_endian 1 1) (Flag 0x20)
    ∷ field (codes "PMPort") (little_endian 1 1) (Low 0x0f)
    ∷ field (codes "DMABufferIdentifierLow") (little_endian 4 4) Decimal
    ∷ field (codes "DMABufferIdentifierHigh") (little_endian 8 4) Decimal
    ∷ field (codes "DMABufferOffset") (little_endian 16 4) Decimal
    ∷ field (codes "DMATransferCount") (little_endian 20 4) Decimal
    ∷ []

-- PIO Setup
unfoldable pub pio_fields : List FieldRow
pio_fields =
    field (codes "FISType") (little_endian 0 1) Hex
    ∷ field (codes "I") (little_endian 1 1) (Flag 0x40)
    ∷ field (codes "D") (little_endian 1 1) (Flag 0x20)
    ∷ field (codes "PMPort") (little_endian 1 1) (Low 0x0f)
    ∷ field (codes "Status") (little_endian 2 1) Hex
    ∷ field (codes "Error") (little_endian 3 1) Hex
    ∷ field (codes "LBA") lba_places Decimal
    ∷ field (codes "Device") (little_endian 7 1) Hex
    ∷ field (codes "Count") (little_endian 12 2) Decimal
    ∷ field (codes "E_Status") (little_endian 15 1) Hex
    ∷ field (codes "TransferCount") (little_endian 16 2) Decimal
    ∷ []

-- the bits that a type reserves: of each byte a mask
unfoldable pub device_reserved : List (ℕ × ℕ)
device_reserved =
    (1, 0xb0) ∷ (11, 255) ∷ (14, 255) ∷ (15, 255) ∷ (16, 255) ∷ (17, 255) ∷ (18, 255) ∷ (19, 255)
    ∷ []

unfoldable pub device_bits_reserved : List (ℕ × ℕ)
device_bits_reserved = (1, 0x30) ∷ (2, 0x88) ∷ []

unfoldable pub dma_reserved : List (ℕ × ℕ)
dma_reserved =
    (1, 0x10) ∷ (2, 255) ∷ (3, 255) ∷ (12, 255) ∷ (13, 255) ∷ (14, 255) ∷ (15, 255) ∷ (24, 255)
    ∷ (25, 255) ∷ (26, 255) ∷ (27, 255) ∷ []

unfoldable pub pio_reserved : List (ℕ × ℕ)
pio_reserved = (1, 0x90) ∷ (11, 255) ∷ (14, 255) ∷ (18, 255) ∷ (19, 255) ∷ []

-- a type of FIS: its name, how many bytes it has, its fields, and what it reserves
pub record FisLayout : Type 0 where
  pub name : List ℕ
  pub size : ℕ
  pub fields : List FieldRow
  pub reserved : List (ℕ × ℕ)

abbrev pub laid_out : List ℕ → ℕ → List FieldRow → List (ℕ × ℕ) → FisLayout
laid_out name size fields reserved =
    record { name = name; size = size; fields = fields; reserved = reserved }

-- a layout of the code
abbrev pub layout_said : Layout → FisLayout
layout_said layout =
    laid_out layout.name.now layout.size (rows_of layout.fields.now) layout.reserved.now

-- the layout of a type, by the first byte
abbrev pub layout_of : ℕ → Option FisLayout
layout_of kind =
    if kind == h2d_type
    then Some (laid_out (codes "RegisterHostToDevice") h2d_length host_fields []) else
    if kind == d2h_type
    then Some (laid_out (codes "RegisterDeviceToHost") d2h_length device_fields
    device_reserved) else
    if kind == set_device_bits_type
    then Some (laid_out (codes "SetDeviceBits") set_device_bits_length device_bits_fields
    device_bits_reserved) else
    if kind == dma_setup_type
    then Some (laid_out (codes "DMASetup") dma_setup_length dma_fields dma_reserved) else
    if kind == pio_setup_type
    then Some (laid_out (codes "PIOSetup") pio_setup_length pio_fields pio_reserved) else
    None

-- the first byte in which a reserved bit is set
abbrev pub reserved_place : List (ℕ × ℕ) → List ℕ → Option ℕ
reserved_place [] bytes = None
reserved_place (r ∷ rs) bytes =
    if bit_and (slice_index bytes r.0) r.1 == 0 then reserved_place rs bytes else Some r.0

abbrev pub reserved_fault : List (ℕ × ℕ) → List ℕ → Option BytesFault
reserved_fault reserved bytes = option_map reserved_in (reserved_place reserved bytes)

abbrev pub layout_fault : FisLayout → List ℕ → Option BytesFault
layout_fault layout bytes =
    earlier (fields_fault layout.fields bytes)
    (earlier (size_fault layout.size (codes "Reserved") bytes)
    (reserved_fault layout.reserved bytes))

abbrev pub fault_of_layout : Option FisLayout → List ℕ → Option BytesFault
fault_of_layout None bytes = Some (unknown_type (slice_index bytes 0))
fault_of_layout (Some layout) bytes = layout_fault layout bytes

abbrev pub fis_fault : List ℕ → Option BytesFault
fis_fault bytes =
    earlier (size_fault 1 (codes "FISType") bytes)
    (fault_of_layout (layout_of (slice_index bytes 0)) bytes)

abbrev pub lines_of_layout : Option FisLayout → List ℕ → List ℕ
lines_of_layout None bytes = []
lines_of_layout (Some layout) bytes =
    field_line (codes "FIS") layout.name ++ row_lines layout.fields bytes

-- bytes behind the FIS are not looked at
abbrev pub fis_lines : List ℕ → List ℕ
fis_lines bytes = lines_of_layout (layout_of (slice_index bytes 0)) bytes
