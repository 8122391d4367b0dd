-- A Register FIS from the device to the host, in bytes (Serial ATA, "Register - Device to Host").
use Rattle.std.specs.Prelude.{◌≡◌, ℕ, ◌+◌, ◌*◌, ◌<◌, ◌≤◌, List, [], ◌∷◌, length, slice_index}
use Rattle.fis.specs.Bytes.{bit, number_2, number_6, AreClear}
use Rattle.fis.specs.Types.{d2h_type, d2h_length}
use Rattle.fis.specs.declared.d2h.RegD2h.{RegD2h}

-- The bytes begin with a writing of the FIS.
pub record IsD2h (bytes : List ℕ) (f : RegD2h) : Type 0 where
  pub long : d2h_length ≤ length bytes
  pub kind : slice_index bytes 0 ≡ d2h_type
  pub flags : slice_index bytes 1 ≡ 64 * bit f.interrupt + f.port
  pub port_fits : f.port < 16
  pub status : slice_index bytes 2 ≡ f.status
  pub error : slice_index bytes 3 ≡ f.error
  pub lba : number_6 bytes 4 5 6 8 9 10 ≡ f.lba
  pub device : slice_index bytes 7 ≡ f.device
  pub count : number_2 bytes 12 13 ≡ f.count
  pub reserved : AreClear bytes (11 ∷ 14 ∷ 15 ∷ 16 ∷ 17 ∷ 18 ∷ 19 ∷ [])
