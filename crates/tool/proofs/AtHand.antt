-- A whole line in front of what a reader has left.
use Rattle.std.proofs.Common.{◌≡◌, ℕ, ◌≤◌, Bool, true, false, ◌==◌, ◌||◌, List, [], ◌∷◌, ◌++◌, cond, length, take, drop, refl, sym, ap, ◌∙◌, Option, Some, None, IfSome, is_some, rules, zero, suc, ◌<◌, ◌+◌, slice_index, arith}
use Rattle.std.proofs.lemmas.Bool.{false≢true}
use Rattle.memchr.specs.Find.{IsFirstByte, is_byte}
use Rattle.std.specs.Io.BufRead.{take_through, drop_through, DropsConsumable}
use Rattle.std.specs.Io.KnownBytes.{prepend_known}
use Rattle.tool.specs.Scripts.{has_line}

-- the first line of a text that begins with a whole line
takes-at : (xs ys : List ℕ) → has_line xs ≡ true → take_through 10 (xs ++ ys) ≡ take (length (take_through 10 xs)) xs
takes-at [] ys has = search rules
takes-at (x ∷ xs) ys has = at (x == 10) (takes-at xs ys) has
  where
    at : (t : Bool) → (has_line xs ≡ true → take_through 10 (xs ++ ys) ≡ take (length (take_through 10 xs)) xs)
        → (t || has_line xs) ≡ true
        → cond t (x ∷ []) (x ∷ take_through 10 (xs ++ ys)) ≡ take (length (cond t (x ∷ []) (x ∷ take_through 10 xs))) (x ∷ xs)
    at true later has = refl
    at false later has = ap (λ l. x ∷ l) (later has)

-- what stands behind it
leaves-at : (xs ys : List ℕ) → has_line xs ≡ true → drop_through 10 (xs ++ ys) ≡ drop (length (take_through 10 xs)) (xs ++ ys)
leaves-at [] ys has = search rules
leaves-at (x ∷ xs) ys has = at (x == 10) (leaves-at xs ys) has
  where
    at : (t : Bool) → (has_line xs ≡ true → drop_through 10 (xs ++ ys) ≡ drop (length (take_through 10 xs)) (xs ++ ys))
        → (t || has_line xs) ≡ true
        → cond t (xs ++ ys) (drop_through 10 (xs ++ ys)) ≡ drop (length (cond t (x ∷ []) (x ∷ take_through 10 xs))) (x ∷ xs ++ ys)
    at true later has = refl
    at false later has = later has

-- a line that stands whole in the buffer is taken from what the reader has left
pub taken : (is_none : Bool) (buffer : List ℕ) (inner new : Option (List ℕ)) (size : ℕ) (old line : List ℕ)
    → has_line buffer ≡ true → size ≡ length (take_through 10 buffer) → size ≤ length buffer
    → line ≡ old ++ take size buffer
    → DropsConsumable (cond is_none None (prepend_known buffer inner)) new (Some (length buffer)) size
    → IfSome (cond is_none None (prepend_known buffer inner))
    (λ text. (line ≡ old ++ take_through 10 text) × (new ≡ Some (drop_through 10 text)))
taken true buffer inner new size old line has is within said drops = tt
taken false buffer None new size old line has is within said drops = tt
taken false buffer (Some ys) new size old line has is within said drops = (
  said ∙ ap (λ n. old ++ take n buffer) is ∙ ap (λ l. old ++ l) (sym (takes-at buffer ys has)),
  drops within ∙ ap (λ n. Some (drop n (buffer ++ ys))) is ∙ ap Some (sym (leaves-at buffer ys has)),
)

-- where a line feed is first found, the line has one byte more
pub ends-at : (xs : List ℕ) (k : ℕ) → k < length xs → (slice_index xs k == 10) ≡ true
    → ((j : ℕ) → 0 ≤ j → j < k → ¬ ((slice_index xs j == 10) ≡ true))
    → (true ≡ has_line xs) × (k + 1 ≡ length (take_through 10 xs))
ends-at [] k within is before = absurd (omega (arith, within))
ends-at (x ∷ xs) zero within is before = at (x == 10) is
  where
    at : (t : Bool) → t ≡ true → (true ≡ (t || has_line xs)) × (1 ≡ length (cond t (x ∷ []) (x ∷ take_through 10 xs)))
    at true e = (refl, refl)
    at false e = absurd (false≢true e)
ends-at (x ∷ xs) (suc k) within is before =
    at (x == 10) (before 0 (omega arith) (omega arith))
    (ends-at xs k (omega (arith, within)) is (λ j low high. before (suc j) (omega arith) (omega (arith, high))))
  where
    at : (t : Bool) → ¬ (t ≡ true) → (true ≡ has_line xs) × (k + 1 ≡ length (take_through 10 xs))
        → (true ≡ (t || has_line xs)) × (suc k + 1 ≡ length (cond t (x ∷ []) (x ∷ take_through 10 xs)))
    at true none later = absurd (none refl)
    at false none later = (later.0, omega (arith, later.1))

-- where none is found, no line ends
pub none-ends : (xs : List ℕ) → ((j : ℕ) → 0 ≤ j → j < length xs → ¬ ((slice_index xs j == 10) ≡ true)) → false ≡ has_line xs
none-ends [] nowhere = refl
none-ends (x ∷ xs) nowhere =
    at (x == 10) (nowhere 0 (omega arith) (omega arith))
    (none-ends xs (λ j low high. nowhere (suc j) (omega arith) (omega (arith, high))))
  where
    at : (t : Bool) → ¬ (t ≡ true) → false ≡ has_line xs → false ≡ (t || has_line xs)
    at true none later = absurd (none refl)
    at false none later = later

-- what a search for the line feed tells
pub found-at : (xs : List ℕ) (found : Option ℕ) → IsFirstByte (is_byte 10) xs found
    → (is_some found ≡ has_line xs) × IfSome found (λ k. (k + 1 ≡ length (take_through 10 xs)) × (k + 1 ≤ length xs))
found-at xs None h = (none-ends xs h, tt)
found-at xs (Some k) h =
    let parts = ends-at xs k h.0.high h.1 h.0.before in
    (parts.0, (parts.1, omega (arith, h.0.high)))
