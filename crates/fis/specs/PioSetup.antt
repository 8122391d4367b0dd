-- A PIO Setup FIS in bytes (Serial ATA, "PIO Setup - Device to Host").
use Rattle.std.specs.Prelude.{◌≡◌, ℕ, ◌+◌, ◌*◌, ◌<◌, ◌≤◌, List, [], ◌∷◌, length, slice_index}
use Rattle.fis.specs.Bytes.{bit, number_2, number_6, AreClear}
use Rattle.fis.specs.Types.{pio_setup_type, pio_setup_length}
use Rattle.fis.specs.declared.pio_setup.PioSetup.{PioSetup}

-- The bytes begin with a writing of the FIS.
pub record IsPioSetup (bytes : List ℕ) (f : PioSetup) : Type 0 where
  pub long : pio_setup_length ≤ length bytes
  pub kind : slice_index bytes 0 ≡ pio_setup_type
  pub flags : slice_index bytes 1 ≡ 64 * bit f.interrupt + 32 * bit f.to_host + f.port
  pub port_fits : f.port < 16
  pub status : slice_index bytes 2 ≡ f.status
  pub error : slice_index bytes 3 ≡ f.error
  pub lba : number_6 bytes 4 5 6 8 9 10 ≡ f.lba
  pub device : slice_index bytes 7 ≡ f.device
  pub count : number_2 bytes 12 13 ≡ f.count
  pub end_status : slice_index bytes 15 ≡ f.end_status
  pub transfer_count : number_2 bytes 16 17 ≡ f.transfer_count
  pub reserved : AreClear bytes (11 ∷ 14 ∷ 18 ∷ 19 ∷ [])
