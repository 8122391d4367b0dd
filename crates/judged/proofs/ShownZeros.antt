-- Blank sectors that were shown to hold zeros, as the model's do: nothing must be said otherwise.
use Rattle.std.proofs.Common.{◌≡◌, ◌∙◌, ◌⊎◌, inl, inr, ℕ, zero, suc, ◌+◌, ◌==◌, Bool, true, false, not, cond, List, [], ◌∷◌, ◌++◌, length, take, drop, filter, fold, nat_lt, Option, None, Some, bytes_eq, refl, sym, ap, subst, take-append-drop}
use Rattle.std.proofs.lemmas.List.{drop-drop}
use Rattle.std.proofs.lemmas.Slice.Eq.{bytes_eq-Decides}
use Rattle.std.specs.Prelude.{⊤}
use Rattle.basics.specs.Addresses.{address_limit}
use Rattle.judged.specs.Shown.{only_looks, is_changed_by, kept_behind, digits_place, sector_digits, zero_digits, is_blank_at, blank_place_by, blank_place, put_over, with_digits, shown_wanted, shown_lines, sectors_shown, sector_shown, shown_from, newly_shown}
use Rattle.judged.specs.declared.shown.ShownSector.{ShownSector}
use Rattle.judged.proofs.SameLines.{both}

abbrev pub AreZeros : List ShownSector → Type 0
AreZeros [] = ⊤
AreZeros (shown ∷ more) = (shown.digits ≡ zero_digits) × AreZeros more

-- zeros where zeros stand
put-same : (place : ℕ) (line : List ℕ) → sector_digits place line ≡ zero_digits → put_over place zero_digits line ≡ line
put-same place line is =
    ap (λ digits. take place line ++ (digits ++ drop (place + 8) line)) (sym is)
    ∙ ap (λ rest. take place line ++ (sector_digits place line ++ rest)) (sym (drop-drop 8 place line))
    ∙ ap (λ rest. take place line ++ rest) (take-append-drop 8 (drop place line))
    ∙ take-append-drop place line

blank-zeros : (wanted other : List ℕ) (place : ℕ) → is_blank_at wanted other place ≡ true → sector_digits place wanted ≡ zero_digits
blank-zeros wanted other place blank =
    (bytes_eq-Decides (sector_digits place wanted) zero_digits).0 ((both (bytes_eq (sector_digits place wanted) zero_digits) (bytes_eq (sector_digits place other) zero_digits) blank).0)

at-place : (wanted other : List ℕ) (place : Option ℕ) → with_digits zero_digits wanted (blank_place_by wanted other place) ≡ wanted
at-place wanted other None = refl
at-place wanted other (Some place) = at (is_blank_at wanted other place) refl
  where
    at : (t : Bool) → is_blank_at wanted other place ≡ t → with_digits zero_digits wanted (cond t (Some place) None) ≡ wanted
    at true is = put-same place wanted (blank-zeros wanted other place is)
    at false is = refl

shown-zero : (first : ℕ) (wanted other : List ℕ) (shown : ShownSector) → shown.digits ≡ zero_digits
    → with_digits shown.digits wanted (blank_place first wanted other shown) ≡ wanted
shown-zero first wanted other shown is =
    ap (λ digits. with_digits digits wanted (blank_place first wanted other shown)) is ∙ at-place wanted other (digits_place first shown.sector)

all-zeros : (first : ℕ) (wanted other line : List ℕ) (shown : List ShownSector) → AreZeros shown → line ≡ wanted
    → fold (λ l (sector : ShownSector). with_digits sector.digits l (blank_place first wanted other sector)) line shown ≡ wanted
all-zeros first wanted other line [] zeros is = is
all-zeros first wanted other line (shown ∷ more) zeros is =
    all-zeros first wanted other (with_digits shown.digits line (blank_place first wanted other shown)) more zeros.1
    (ap (λ l. with_digits shown.digits l (blank_place first wanted other shown)) is ∙ shown-zero first wanted other shown zeros.0)

wanted-zeros : (shown : List ShownSector) (first : Option ℕ) (wanted other : List ℕ) → AreZeros shown → shown_wanted shown first wanted other ≡ wanted
wanted-zeros shown None wanted other zeros = refl
wanted-zeros shown (Some first) wanted other zeros = all-zeros first wanted other wanted shown zeros refl

-- what must be said is what the model says
pub lines-zeros : (shown : List ShownSector) (first : Option ℕ) (other : List ℕ) (lines : List (List ℕ)) → AreZeros shown
    → shown_lines shown first other lines ≡ lines
lines-zeros shown first other [] zeros = refl
lines-zeros shown first other (wanted ∷ lines) zeros = ap (λ line. line ∷ lines) (wanted-zeros shown first wanted other zeros)

-- what is kept, and what is added
filter-zeros : (p : ShownSector → Bool) (shown : List ShownSector) → AreZeros shown → AreZeros (filter p shown)
filter-zeros p [] zeros = tt
filter-zeros p (sector ∷ more) zeros = at (p sector) (filter-zeros p more zeros.1)
  where
    at : (t : Bool) → AreZeros (filter p more) → AreZeros (cond t (sector ∷ filter p more) (filter p more))
    at true rest = (zeros.0, rest)
    at false rest = rest

pub kept-zeros : (line : List ℕ) (shown : List ShownSector) → AreZeros shown → AreZeros (kept_behind line shown)
kept-zeros line shown zeros = at (only_looks line)
  where
    at : (t : Bool) → AreZeros (cond t shown (filter (λ sector. not (is_changed_by line sector)) shown))
    at true = zeros
    at false = filter-zeros (λ sector. not (is_changed_by line sector)) shown zeros

pub more-zeros : (shown more : List ShownSector) → AreZeros shown → AreZeros more → AreZeros (shown ++ more)
more-zeros [] more zeros those = those
more-zeros (sector ∷ shown) more zeros those = (zeros.0, more-zeros shown more zeros.1 those)

sector-zeros : (number sector place : ℕ) (wanted other : List ℕ)
    → AreZeros (sector_shown number sector (sector_digits place wanted) (is_blank_at wanted other place))
sector-zeros number sector place wanted other = at (is_blank_at wanted other place) refl
  where
    eight : (t : Bool) → sector_digits place wanted ≡ zero_digits
        → AreZeros (cond t (record { sector = sector; digits = sector_digits place wanted; line = number } ∷ []) [])
    eight true is = (is, tt)
    eight false is = tt

    at : (t : Bool) → is_blank_at wanted other place ≡ t → AreZeros (sector_shown number sector (sector_digits place wanted) t)
    at true is = eight (length (sector_digits place wanted) == 8) (blank-zeros wanted other place is)
    at false is = tt

from-zeros : (left number sector place : ℕ) (wanted other : List ℕ) → AreZeros (shown_from left number sector place wanted wanted other)
from-zeros zero number sector place wanted other = tt
from-zeros (suc left) number sector place wanted other =
    more-zeros (sector_shown number sector (sector_digits place wanted) (is_blank_at wanted other place))
    (shown_from left number (suc sector) (9 + place) wanted wanted other)
    (sector-zeros number sector place wanted other) (from-zeros left number (suc sector) (9 + place) wanted other)

-- an answer that is the model's shows zeros, and none shows nothing
pub newly-zeros : (number first : ℕ) (heard wanted other : List ℕ) → (heard ≡ []) ⊎ (heard ≡ wanted)
    → AreZeros (newly_shown number first heard wanted other)
newly-zeros number first heard wanted other (inl none) =
    subst (λ (h : List ℕ). AreZeros (newly_shown number first h wanted other)) (sym none) (at (nat_lt first address_limit))
  where
    at : (t : Bool) → AreZeros (cond t (shown_from (sectors_shown []) number first 3 [] wanted other) [])
    at true = tt
    at false = tt
newly-zeros number first heard wanted other (inr same) =
    subst (λ (h : List ℕ). AreZeros (newly_shown number first h wanted other)) (sym same) (at (nat_lt first address_limit))
  where
    at : (t : Bool) → AreZeros (cond t (shown_from (sectors_shown wanted) number first 3 wanted wanted other) [])
    at true = from-zeros (sectors_shown wanted) number first 3 wanted other
    at false = tt
