-- A Set Device Bits FIS in bytes (Serial ATA, "Set Device Bits - Device to Host").
use Rattle.std.specs.Prelude.{◌≡◌, ℕ, ◌+◌, ◌*◌, ◌<◌, ◌≤◌, List, length, slice_index}
use Rattle.fis.specs.Bytes.{bit, number_4, IsStatusBits}
use Rattle.fis.specs.Types.{set_device_bits_type, set_device_bits_length}
use Rattle.fis.specs.declared.set_device_bits.SetDeviceBits.{SetDeviceBits}

-- The bytes begin with a writing of the FIS.
pub record IsSetDeviceBits (bytes : List ℕ) (f : SetDeviceBits) : Type 0 where
  pub long : set_device_bits_length ≤ length bytes
  pub kind : slice_index bytes 0 ≡ set_device_bits_type
  pub flags : slice_index bytes 1 ≡ 128 * bit f.notification + 64 * bit f.interrupt + f.port
  pub port_fits : f.port < 16
  pub status : slice_index bytes 2 ≡ f.status
  pub status_fits : IsStatusBits f.status
  pub error : slice_index bytes 3 ≡ f.error
  pub active : number_4 bytes 4 5 6 7 ≡ f.active
