-- Numbers of many bytes.
use Rattle.std.proofs.Common.{◌≡◌, ℕ, ◌+◌, ◌*◌, ◌^◌, ◌<◌, ◌≤◌, false, List, [], ◌∷◌, length, arith}
use Rattle.std.proofs.lemmas.Bool.{le-ltb}
use Rattle.std.specs.Prelude.{nat_lt}
use Rattle.tcg_tokens.specs.Lexeme.{number_from}

pub number_from-grows : (n : ℕ) (bs : List ℕ) → n ≤ number_from n bs
number_from-grows n [] = omega arith
number_from-grows n (b ∷ bs) = omega (arith, number_from-grows (256 * n + b) bs)

-- one more byte behind a number of 2 ^ 56 and above passes 64 bits
pub too_big : (n : ℕ) (bs : List ℕ) → 0 < length bs → 2 ^ 56 ≤ n → nat_lt (number_from n bs) (2 ^ 64) ≡ false
too_big n [] h le = absurd (omega arith)
too_big n (b ∷ bs) h le = le-ltb _ _ (omega (arith, number_from-grows (256 * n + b) bs))
