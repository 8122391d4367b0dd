-- Cells that are given as those of a drive.
use Rattle.std.proofs.Common.{◌≡◌, ◌&&◌, ◌||◌, ◌≤◌, ◌<◌, ◌+◌, ℕ, zero, suc, Bool, true, false, List, [], ◌∷◌, ◌++◌, map, take, length, get_or, refl, sym, ◌∙◌, ap, arith}
use Rattle.std.specs.Prelude.{nat_lt}
use Rattle.std.proofs.lemmas.Bool.{cases_lt}
use Rattle.std.proofs.lemmas.Bool.Decides.{nat_tests}
use Rattle.std.proofs.Common.{inl, inr}
use Rattle.std.proofs.lemmas.List.{take_more, map-append, take_all}
use Rattle.sp_cells.specs.declared.names.Uid.{Uid}
use Rattle.sp_cells.specs.declared.names.Column.{Column}
use Rattle.sp_cells.specs.declared.names.TheConstants.{RANGES}
use Rattle.sp_cells.specs.declared.cells.Cell.{Cell}
use Rattle.sp_cells.specs.Flat.{LookUp}
use Rattle.sp_cells.specs.Ranges.{AreApart, ranges_meet}
use Rattle.sp_tables.specs.Items.{Item, item_of, with_item}
use Rattle.sp_tables.specs.Faults.{any_to}
use Rattle.sp_cells.specs.Config.{Config}
use Rattle.sp_tables.specs.Contents.{cells_look_up}
use Rattle.sp_tables.specs.Undo.{RangesApart}
use Rattle.sp_tables.specs.Given.{with_placed, look_of, meets_later, any_meet, given_contents}
use Rattle.sp_tables.proofs.ChangeLemmas.{any_to-none}
use Rattle.sp_tables.proofs.KeepLemmas.{apart-contents}

-- one more cell put into its place
placed-append : (is xs : List Item) (i : Item) → with_placed is (xs ++ i ∷ []) ≡ with_item (with_placed is xs) i.object i.column i.value
placed-append is [] i = refl
placed-append is (x ∷ xs) i = placed-append (with_item is x.object x.column x.value) xs i

pub placed_more : (is : List Item) (items : List (Uid × Column × Cell)) (i : ℕ) (p : Uid × Column × Cell) (now new : List Item) → i < length items → p ≡ get_or items i p → now ≡ with_placed is (map item_of (take i items)) → new ≡ with_item now p.0 p.1 p.2 → new ≡ with_placed is (map item_of (take (i + 1) items))
placed_more is items i p now new lt at had made =
    let more : take (i + 1) items ≡ take i items ++ p ∷ [] = take_more items i p lt ∙ ap (λ x. take i items ++ x ∷ []) (sym at) in
    let split : map item_of (take (i + 1) items) ≡ map item_of (take i items) ++ item_of p ∷ [] = ap (map item_of) more ∙ map-append item_of (take i items) (p ∷ []) in
    made
    ∙ ap (λ (q : List Item). with_item q p.0 p.1 p.2) had
    ∙ sym (placed-append is (map item_of (take i items)) (item_of p))
    ∙ ap (with_placed is) (sym split)

-- no two ranges meet where the test says so
later_meets : (i j : ℕ) (b : Bool) → i < j → (nat_lt i j && b) ≡ false → b ≡ false
later_meets i j b lt h = grind (arith, nat_tests)

none_meet : (look : LookUp) → any_meet look ≡ false → AreApart look
none_meet look none = record {
  separate = λ i j low lt high.
      later_meets i j (ranges_meet look i j) lt
      (any_to-none RANGES (λ j. nat_lt i j && ranges_meet look i j) j
      (any_to-none RANGES (λ i. meets_later look i) i none low (omega arith)) (omega arith) high);
}

-- and where it does not, two meet
any_to-never : (n : ℕ) (p : ℕ → Bool) → ((j : ℕ) → 1 ≤ j → j ≤ n → p j ≡ false) → any_to n p ≡ false
unfolding any_to
any_to-never zero p never = refl
any_to-never (suc n) p never = ap (λ b. b || p (suc n)) (any_to-never n p (λ j low high. never j low (omega arith))) ∙ never (suc n) (omega arith) (omega arith)

and_false : (b : Bool) → (b && false) ≡ false
and_false true = refl
and_false false = refl

not_later : (i j : ℕ) (b : Bool) → (i < j → b ≡ false) → (nat_lt i j && b) ≡ false
not_later i j b h = elim (cases_lt i j) [
  | inl lt ↦ ap (λ c. nat_lt i j && c) (h lt) ∙ and_false (nat_lt i j)
  | inr le ↦ grind (arith, nat_tests)
]

apart_none : (look : LookUp) → AreApart look → any_meet look ≡ false
apart_none look apart =
    any_to-never RANGES (λ i. meets_later look i)
    (λ i low high.
    any_to-never RANGES (λ j. nat_lt i j && ranges_meet look i j)
    (λ j first last. not_later i j (ranges_meet look i j) (λ lt. apart.separate i j low lt last)))

pub some_meet : (is : List Item) → any_meet (look_of is) ≡ true → RangesApart is → ⊥
some_meet is some apart = let no : true ≡ false = sym some ∙ apart_none (look_of is) apart in cc

-- the contents of lists whose ranges are apart
pub apart_given : (config : Config) (admin locking : List Item) → any_meet (look_of locking) ≡ false → AreApart (cells_look_up (given_contents config admin locking))
apart_given config admin locking none = apart-contents (given_contents config admin locking) (none_meet (look_of locking) none)

pub range_apart : (is : List Item) → any_meet (look_of is) ≡ false → RangesApart is
range_apart is none = none_meet (look_of is) none

-- what stands in the list says what was listed
abbrev item_back : Item → Uid × Column × Cell
item_back i = (i.object, i.column, i.value)

all_back : (xs : List (Uid × Column × Cell)) → map item_back (map item_of xs) ≡ xs
all_back [] = refl
all_back (x ∷ xs) = ap (λ (q : List (Uid × Column × Cell)). x ∷ q) (all_back xs)

pub same_items : (xs ys : List (Uid × Column × Cell)) → map item_of xs ≡ map item_of ys → xs ≡ ys
same_items xs ys same = sym (all_back xs) ∙ ap (map item_back) same ∙ all_back ys

-- lists that are the same so far
pub same_more : {A : Type 0} (xs ys : List A) (i : ℕ) (x y : A) → i < length xs → length xs ≡ length ys → x ≡ get_or xs i x → y ≡ get_or ys i y → x ≡ y → take i xs ≡ take i ys → take (i + 1) xs ≡ take (i + 1) ys
same_more xs ys i x y lt long at it same so_far =
    take_more xs i x lt
    ∙ ap (λ z. take i xs ++ z ∷ []) (sym at ∙ same ∙ it)
    ∙ ap (λ zs. zs ++ get_or ys i y ∷ []) so_far
    ∙ sym (take_more ys i y (omega (arith, long)))

pub same_all : {A : Type 0} (xs ys : List A) (i : ℕ) → length xs ≤ i → length xs ≡ length ys → take i xs ≡ take i ys → xs ≡ ys
same_all xs ys i all long so_far = sym (take_all i xs all) ∙ so_far ∙ take_all i ys (omega (arith, long))
