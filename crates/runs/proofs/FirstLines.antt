-- The first line of a text in which no line ends.
use Rattle.std.proofs.Common.{◌≡◌, ℕ, suc, Bool, true, false, ◌==◌, ◌||◌, List, [], ◌∷◌, cond, length, refl, ap}
use Rattle.std.proofs.lemmas.Bool.{false≢true}
use Rattle.std.specs.Io.BufRead.{take_through}
use Rattle.tool.specs.Scripts.{has_line}

-- it is all of it
pub all-of : (xs : List ℕ) → false ≡ has_line xs → length xs ≡ length (take_through 10 xs)
all-of [] none = refl
all-of (x ∷ xs) none = at (x == 10) none (all-of xs)
  where
    at : (t : Bool) → false ≡ (t || has_line xs) → (false ≡ has_line xs → length xs ≡ length (take_through 10 xs))
        → suc (length xs) ≡ length (cond t (x ∷ []) (x ∷ take_through 10 xs))
    at true ends later = absurd (false≢true ends)
    at false ends later = ap suc (later ends)
