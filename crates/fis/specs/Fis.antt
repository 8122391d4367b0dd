-- A FIS of any type, in bytes (Serial ATA, "FIS types").
use Rattle.std.specs.Prelude.{◌≡◌, ℕ, ◌<◌, ◌==◌, false, List, length, slice_index, Option, Some, None, unwrap_or, if◌then◌else◌}
use Rattle.fis.specs.declared.any.Fis.{Fis}
use Rattle.fis.specs.declared.any.Fis.TheVariants as fises
use Rattle.fis.specs.Types.{h2d_type, h2d_length, d2h_type, d2h_length, set_device_bits_type, set_device_bits_length, dma_setup_type, dma_setup_length, pio_setup_type, pio_setup_length}
use Rattle.fis.specs.H2d.{IsH2d, IsH2dSpelling}
use Rattle.fis.specs.D2h.{IsD2h}
use Rattle.fis.specs.SetDeviceBits.{IsSetDeviceBits}
use Rattle.fis.specs.DmaSetup.{IsDmaSetup}
use Rattle.fis.specs.PioSetup.{IsPioSetup}

-- The bytes begin with a writing of the FIS.
abbrev pub IsWriting : List ℕ → Fis → Type 0
IsWriting bytes (fises.H2d f) = IsH2d bytes f
IsWriting bytes (fises.D2h f) = IsD2h bytes f
IsWriting bytes (fises.SetDeviceBits f) = IsSetDeviceBits bytes f
IsWriting bytes (fises.DmaSetup f) = IsDmaSetup bytes f
IsWriting bytes (fises.PioSetup f) = IsPioSetup bytes f

-- The bytes are the writer's spelling, and nothing behind it.
abbrev pub IsSpelling : List ℕ → Fis → Type 0
IsSpelling bytes (fises.H2d f) = IsH2dSpelling bytes f × (length bytes ≡ h2d_length)
IsSpelling bytes (fises.D2h f) = IsD2h bytes f × (length bytes ≡ d2h_length)
IsSpelling bytes (fises.SetDeviceBits f) =
    IsSetDeviceBits bytes f × (length bytes ≡ set_device_bits_length)
IsSpelling bytes (fises.DmaSetup f) = IsDmaSetup bytes f × (length bytes ≡ dma_setup_length)
IsSpelling bytes (fises.PioSetup f) = IsPioSetup bytes f × (length bytes ≡ pio_setup_length)

-- A register FIS to the host with zeros in all its fields.
abbrev pub blank_register_fis : Fis
blank_register_fis = fises.D2h (record {
  interrupt = false;
  port = 0;
  status = 0;
  error = 0;
  lba = 0;
  device = 0;
  count = 0;
})

-- How many bytes a FIS has, by its first.
abbrev pub length_of : ℕ → Option ℕ
length_of kind =
    if kind == h2d_type then Some h2d_length
    else (if kind == d2h_type then Some d2h_length
    else (if kind == set_device_bits_type then Some set_device_bits_length
    else (if kind == dma_setup_type then Some dma_setup_length
    else (if kind == pio_setup_type then Some pio_setup_length else None))))

-- The first byte names no type.
abbrev pub IsUnknown : List ℕ → Type 0
IsUnknown bytes = (0 < length bytes) × (length_of (slice_index bytes 0) ≡ None)

-- How many bytes are wanted: one where there is none, and then what the type has.
abbrev pub least_length : List ℕ → ℕ
least_length bytes = if length bytes == 0 then 1 else unwrap_or (length_of (slice_index bytes 0)) 0
