-- When words are the same.
use Rattle.std.proofs.Common.{◌≡◌, ℕ, ◌<◌, true, List, length, get_or, sym}
use Rattle.std.specs.Str.{bytes_eq}
use Rattle.std.proofs.lemmas.Grind.{same_number_lists}
use Rattle.std.proofs.lemmas.Slice.Eq.{bytes_eq-Decides}

-- as many bytes, and the same at each place
pub same : (xs ys : List ℕ) → length xs ≡ length ys
    → ((k : ℕ) → k < length xs → get_or xs k 0 ≡ get_or ys k 0) → true ≡ bytes_eq xs ys
same xs ys e each = sym ((bytes_eq-Decides xs ys).1 (same_number_lists xs ys e each))
