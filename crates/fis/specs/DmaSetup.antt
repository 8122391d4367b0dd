-- A DMA Setup FIS in bytes (Serial ATA, "DMA Setup - Device to Host").
use Rattle.std.specs.Prelude.{◌≡◌, ℕ, ◌+◌, ◌*◌, ◌<◌, ◌≤◌, List, [], ◌∷◌, length, slice_index}
use Rattle.fis.specs.Bytes.{bit, number_4, AreClear}
use Rattle.fis.specs.Types.{dma_setup_type, dma_setup_length}
use Rattle.fis.specs.declared.dma_setup.DmaSetup.{DmaSetup}

-- the three flags, at their bits of the second byte
abbrev pub flags_of : DmaSetup → ℕ
flags_of f = 128 * bit f.auto_activate + 64 * bit f.interrupt + 32 * bit f.to_host

-- The bytes begin with a writing of the FIS.
pub record IsDmaSetup (bytes : List ℕ) (f : DmaSetup) : Type 0 where
  pub long : dma_setup_length ≤ length bytes
  pub kind : slice_index bytes 0 ≡ dma_setup_type
  pub flags : slice_index bytes 1 ≡ flags_of f + f.port
  pub port_fits : f.port < 16
  pub buffer_low : number_4 bytes 4 5 6 7 ≡ f.buffer_low
  pub buffer_high : number_4 bytes 8 9 10 11 ≡ f.buffer_high
  pub offset : number_4 bytes 16 17 18 19 ≡ f.offset
  pub count : number_4 bytes 20 21 22 23 ≡ f.count
  pub reserved : AreClear bytes (2 ∷ 3 ∷ 12 ∷ 13 ∷ 14 ∷ 15 ∷ 24 ∷ 25 ∷ 26 ∷ 27 ∷ [])
