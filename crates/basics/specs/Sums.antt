-- Checksums (ACS-3: the last byte of a data structure makes the sum of all a multiple of 256).
use Rattle.std.specs.Prelude.{◌+◌, ℕ, List, [], ◌∷◌}

-- the sum of bytes
abbrev pub byte_sum : List ℕ → ℕ
byte_sum [] = 0
byte_sum (b ∷ bs) = b + byte_sum bs
