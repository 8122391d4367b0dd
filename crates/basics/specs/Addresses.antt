-- The addresses of sectors (ACS-3, chapter 4: 48-bit addresses).
use Rattle.std.specs.Prelude.{◌^◌, ℕ}

-- every address is below this, and a drive has at most as many sectors
abbrev pub address_limit : ℕ
address_limit = 2 ^ 48
