-- The random bytes that a drive gives (Core 2.01, section 5.6.4.1; the bytes are this drive's: they are no randomness, so that what a
-- script prints is the same each time).
use Rattle.std.specs.Prelude.{ℕ, zero, suc, ◌+◌, ◌*◌, ◌/◌, ◌%◌, ◌^◌, List, [], ◌∷◌, ◌++◌}

-- at most so many in one call (Opal SSC 2.01, section 4.2.6)
abbrev pub most_random_bytes : ℕ
most_random_bytes = 32

-- what each byte's number adds
abbrev pub random_step : ℕ
random_step = 0x9e3779b97f4a7c15

-- the byte of a place in the row of a seed
abbrev pub random_byte : ℕ → ℕ → ℕ
random_byte seed place = (seed + (place + 1) * random_step) % 2 ^ 64 / 2 ^ 56

-- so many, where others were given before
abbrev pub random_bytes : (seed drawn count : ℕ) → List ℕ
random_bytes seed drawn zero = []
random_bytes seed drawn (suc n) = random_bytes seed drawn n ++ random_byte seed (drawn + n) ∷ []
