-- A Register FIS from the host to the device, in bytes (Serial ATA, "Register - Host to Device").
use Rattle.std.specs.Prelude.{◌≡◌, ℕ, ◌+◌, ◌*◌, ◌/◌, ◌%◌, ◌≤◌, nat_le, List, [], ◌∷◌, length, slice_index}
use Rattle.fis.specs.Bytes.{bit, number_2, number_6, AreClear}
use Rattle.fis.specs.Types.{h2d_type, h2d_length}
use Rattle.fis.specs.declared.h2d.RegH2d.{RegH2d}

-- The bytes begin with a writing of the FIS. Bits 6 to 4 of byte 1 and bytes 16 to 19 may have any value.
pub record IsH2d (bytes : List ℕ) (f : RegH2d) : Type 0 where
  pub long : h2d_length ≤ length bytes
  pub kind : slice_index bytes 0 ≡ h2d_type
  pub is_command : slice_index bytes 1 / 128 ≡ bit f.is_command
  pub port : slice_index bytes 1 % 16 ≡ f.port
  pub command : slice_index bytes 2 ≡ f.command
  pub feature : number_2 bytes 3 11 ≡ f.feature
  pub lba : number_6 bytes 4 5 6 8 9 10 ≡ f.lba
  pub device : slice_index bytes 7 ≡ f.device
  pub count : number_2 bytes 12 13 ≡ f.count
  pub icc : slice_index bytes 14 ≡ f.icc
  pub control : slice_index bytes 15 ≡ f.control

-- The writer's spelling: zeros where any value may stand.
pub record IsH2dSpelling (bytes : List ℕ) (f : RegH2d) : Type 0 where
  pub writing : IsH2d bytes f
  pub flags : slice_index bytes 1 ≡ 128 * bit f.is_command + f.port
  pub auxiliary : AreClear bytes (16 ∷ 17 ∷ 18 ∷ 19 ∷ [])

-- What a reader gives, as a function of the bytes.
abbrev pub h2d_at : List ℕ → RegH2d
h2d_at bytes = record {
  is_command = nat_le 128 (slice_index bytes 1);
  port = slice_index bytes 1 % 16;
  command = slice_index bytes 2;
  feature = number_2 bytes 3 11;
  lba = number_6 bytes 4 5 6 8 9 10;
  device = slice_index bytes 7;
  count = number_2 bytes 12 13;
  icc = slice_index bytes 14;
  control = slice_index bytes 15;
}
