-- The types of FIS (Serial ATA, "FIS types"): the first byte of each, and how many bytes it has.
use Rattle.std.specs.Prelude.{ℕ}

-- Register - Host to Device
abbrev pub h2d_type : ℕ
h2d_type = 0x27

abbrev pub h2d_length : ℕ
h2d_length = 20

-- Register - Device to Host
abbrev pub d2h_type : ℕ
d2h_type = 0x34

abbrev pub d2h_length : ℕ
d2h_length = 20

-- Set Device Bits
abbrev pub set_device_bits_type : ℕ
set_device_bits_type = 0xa1

abbrev pub set_device_bits_length : ℕ
set_device_bits_length = 8

-- DMA Setup
abbrev pub dma_setup_type : ℕ
dma_setup_type = 0x41

abbrev pub dma_setup_length : ℕ
dma_setup_length = 28

-- PIO Setup
abbrev pub pio_setup_type : ℕ
pio_setup_type = 0x5f

abbrev pub pio_setup_length : ℕ
pio_setup_length = 20
