-- A look-up in the places of all groups is one in the group of the sector.
use Rattle.std.proofs.Common.{◌≡◌, ℕ, suc, ◌+◌, ◌-◌, ◌*◌, ◌/◌, ◌%◌, ◌<◌, ◌≤◌, Bool, List, [], ◌∷◌, ◌++◌, length, take, get_or, set, replicate, ◌≢◌, refl, ap, sym, ◌∙◌, arith, inl, inr, nat_cmp, Option, Some, None}
use Rattle.std.specs.declared.cmp.Ordering.TheVariants.{Less, Equal, Greater}
use Rattle.std.specs.Cmp.{nat_cmp_is}
use Rattle.std.proofs.lemmas.Bool.{cases_lt, cases_eq, cases_Bool}
use Rattle.std.proofs.lemmas.List.{get_or-take, get_or_past, get_or-replicate, length-take, get_or-set_same, get_or-set_other}
use Rattle.std.proofs.lemmas.Bool.Decides.{nat_tests}
use Rattle.std.specs.Prelude.{if◌then◌else◌, ◌==◌, IfSome, option_map, unwrap_or}
use Rattle.std.specs.List.{AllByRecursion}
use Rattle.std.specs.List.Sorted.{IsStrictlySortedBy}
use Rattle.std.specs.BTreeMap.{is_at}
use Rattle.std.specs.Map.{lookup, keys_of}
use Rattle.shadow_mbr.specs.Places.{placed_from, placed_in, place_at, group_in, group_after, in_group, no_places}
use Rattle.shadow_mbr.proofs.Numbers.{at_less, at_same, at_more}

-- a look-up in one list behind another
second : {X : Type 0} (test : ℕ → Bool) (a b : List (ℕ × X)) → lookup test a ≡ None → lookup test (a ++ b) ≡ lookup test b
second test [] b none = refl
second test (e ∷ a) b none =
    elim (cases_Bool (test e.0)) [
      | inl is ↦ let none_here = rw is at none in cc
      | inr not ↦ let none_there = rw not at none in rw not (second test a b none_there)
    ]

first : {X : Type 0} (test : ℕ → Bool) (a b : List (ℕ × X)) → lookup test b ≡ None → lookup test (a ++ b) ≡ lookup test a
first test [] b none = none
first test (e ∷ a) b none =
    elim (cases_Bool (test e.0)) [
      | inl is ↦ rw is refl
      | inr not ↦ rw not (first test a b none)
    ]

-- in one group
before : (s from : ℕ) (os : List (Option ℕ)) → s < from → place_at (placed_from from os) s ≡ None
unfolding placed_from
before s from [] lt = refl
before s from (None ∷ os) lt = before s (from + 1) os (omega arith)
before s from (Some p ∷ os) lt = rw (at_less s from lt) (before s (from + 1) os (omega arith))

inside : (s from : ℕ) (os : List (Option ℕ)) → from ≤ s → place_at (placed_from from os) s ≡ get_or os (s - from) None
unfolding placed_from
inside s from [] le = sym (get_or_past [] (s - from) None (omega arith))
inside s from (None ∷ os) le =
    elim (cases_lt from s) [
      | inl lt ↦ let e : s - from ≡ suc (s - (from + 1)) = omega arith in rw e (inside s (from + 1) os (omega arith))
      | inr ge ↦ let e : s - from ≡ 0 = omega arith in rw e (before s (from + 1) os (omega arith))
    ]
inside s from (Some p ∷ os) le =
    elim (cases_lt from s) [
      | inl lt ↦ let e : s - from ≡ suc (s - (from + 1)) = omega arith in rw (e, at_more s from lt) (inside s (from + 1) os (omega arith))
      | inr ge ↦ let e : s - from ≡ 0 = omega arith in let same : from ≡ s = omega arith in rw (e, same, at_same s) refl
    ]

-- the groups rise
abbrev pub AreRising : ℕ → List (ℕ × List (Option ℕ)) → Type 0
AreRising next [] = Unit {0}
AreRising next (g ∷ rest) = (next ≤ g.0) × AreRising (g.0 + 1) rest

none_before : (next s : ℕ) (gs : List (ℕ × List (Option ℕ))) → AreRising next gs → s < 16 * next → place_at (placed_in gs) s ≡ None
unfolding placed_in
none_before next s [] rising lt = refl
none_before next s (g ∷ gs) rising lt =
    second (is_at (nat_cmp s)) (placed_from (16 * g.0) (take 16 g.1)) (placed_in gs) (before s (16 * g.0) (take 16 g.1) (omega (arith, rising.0)))
    ∙ none_before (g.0 + 1) s gs rising.1 (omega (arith, rising.0))

absent : (next k : ℕ) (gs : List (ℕ × List (Option ℕ))) → AreRising next gs → k < next → lookup (is_at (nat_cmp k)) gs ≡ None
absent next k [] rising lt = refl
absent next k (g ∷ gs) rising lt = rw (at_less k g.0 (omega (arith, rising.0))) (absent (g.0 + 1) k gs rising.1 (omega (arith, rising.0)))

own : (s n : ℕ) (g : List (Option ℕ)) → s / 16 ≡ n → place_at (placed_from (16 * n) (take 16 g)) s ≡ get_or g (s % 16) None
own s n g is =
    let e : s - 16 * n ≡ s % 16 = omega arith in
    inside s (16 * n) (take 16 g) (omega arith) ∙ rw e (get_or-take 16 g (s % 16) None (omega arith))

foreign : (s n : ℕ) (g : List (Option ℕ)) → n < s / 16 → place_at (placed_from (16 * n) (take 16 g)) s ≡ None
foreign s n g lt =
    inside s (16 * n) (take 16 g) (omega arith) ∙ get_or_past (take 16 g) (s - 16 * n) None (omega (arith, length-take 16 g))

pub place_rising : (next s : ℕ) (gs : List (ℕ × List (Option ℕ))) → AreRising next gs → place_at (placed_in gs) s ≡ in_group (lookup (is_at (nat_cmp (s / 16))) gs) (s % 16)
unfolding placed_in
place_rising next s [] rising = refl
place_rising next s (g ∷ gs) rising =
    elim (cases_lt g.0 (s / 16)) [
      | inl lt ↦
          second (is_at (nat_cmp s)) (placed_from (16 * g.0) (take 16 g.1)) (placed_in gs) (foreign s g.0 g.1 lt)
          ∙ rw (at_more (s / 16) g.0 lt) (place_rising (g.0 + 1) s gs rising.1)
      | inr le ↦ elim (cases_lt (s / 16) g.0) [
        | inl lt ↦
            none_before g.0 s (g ∷ gs) (omega arith, rising.1) (omega arith)
            ∙ rw (at_less (s / 16) g.0 lt, absent (g.0 + 1) (s / 16) gs rising.1 (omega arith)) refl
        | inr ge ↦
            let same : s / 16 ≡ g.0 = omega arith in
            first (is_at (nat_cmp s)) (placed_from (16 * g.0) (take 16 g.1)) (placed_in gs) (none_before (g.0 + 1) s gs rising.1 (omega arith))
            ∙ own s g.0 g.1 same ∙ rw (same, at_same g.0) refl
      ]
    ]

pub less_than : (j k : ℕ) → nat_cmp j k ≡ Less → j + 1 ≤ k
less_than j k h =
    elim (cases_lt j k) [
      | inl lt ↦ omega arith
      | inr le ↦ elim (cases_lt k j) [
        | inl lt ↦ let c = nat_cmp_is j k Greater lt in let e = c ∙ h in cc
        | inr ge ↦ let same : j ≡ k = omega arith in let c = nat_cmp_is j k Equal same in let e = c ∙ h in cc
      ]
    ]

pub above : (j : ℕ) (ks : List ℕ) → AllByRecursion (λ y. nat_cmp j y ≡ Less) ks → AllByRecursion (λ k. j + 1 ≤ k) ks
above j [] h = tt
above j (k ∷ ks) h = (less_than j k h.0, above j ks h.1)

from_zero : (ks : List ℕ) → AllByRecursion (λ k. 0 ≤ k) ks
from_zero [] = tt
from_zero (k ∷ ks) = (omega arith, from_zero ks)

-- sorted keys are rising groups
rises : (next : ℕ) (gs : List (ℕ × List (Option ℕ))) → AllByRecursion (λ k. next ≤ k) (keys_of gs) → IsStrictlySortedBy nat_cmp (keys_of gs) → AreRising next gs
unfolding IsStrictlySortedBy
rises next [] low sorted = tt
rises next (g ∷ gs) low sorted = (low.0, rises (g.0 + 1) gs (above g.0 (keys_of gs) sorted.0) sorted.1)

pub place_in_group : (gs : List (ℕ × List (Option ℕ))) → IsStrictlySortedBy nat_cmp (keys_of gs) → (s : ℕ) → place_at (placed_in gs) s ≡ in_group (lookup (is_at (nat_cmp (s / 16))) gs) (s % 16)
place_in_group gs sorted s = place_rising 0 s gs (rises 0 gs (from_zero (keys_of gs)) sorted)

-- the places are sorted
abbrev pub AreFrom : ℕ → ℕ → List (ℕ × ℕ) → Type 0
AreFrom low high es = AllByRecursion (λ k. (low ≤ k) × (k < high)) (keys_of es)

bounded : (from : ℕ) (os : List (Option ℕ)) (low high : ℕ) → low ≤ from → from + length os ≤ high → AreFrom low high (placed_from from os)
unfolding placed_from
bounded from [] low high a b = tt
bounded from (None ∷ os) low high a b = bounded (from + 1) os low high (omega arith) (omega arith)
bounded from (Some p ∷ os) low high a b = ((a, omega arith), bounded (from + 1) os low high (omega arith) (omega arith))

higher : (low high lower : ℕ) (es : List (ℕ × ℕ)) → lower ≤ low → AreFrom low high es → AllByRecursion (λ k. lower ≤ k) (keys_of es)
higher low high lower [] le all = tt
higher low high lower (e ∷ es) le all = (omega (arith, all.0.0), higher low high lower es le all.1)

pub behind : (k lower : ℕ) (ks : List ℕ) → k < lower → AllByRecursion (λ y. lower ≤ y) ks → AllByRecursion (λ y. nat_cmp k y ≡ Less) ks
behind k lower [] lt all = tt
behind k lower (y ∷ ks) lt all = (sym (nat_cmp_is k y Less (omega (arith, all.0))), behind k lower ks lt all.1)

sorted_from : (from : ℕ) (os : List (Option ℕ)) → IsStrictlySortedBy nat_cmp (keys_of (placed_from from os))
unfolding placed_from IsStrictlySortedBy
sorted_from from [] = tt
sorted_from from (None ∷ os) = sorted_from (from + 1) os
sorted_from from (Some p ∷ os) = (
  behind from (from + 1) (keys_of (placed_from (from + 1) os)) (omega arith) (higher (from + 1) (from + 1 + length os) (from + 1) (placed_from (from + 1) os) (omega arith) (bounded (from + 1) os (from + 1) (from + 1 + length os) (omega arith) (omega arith))),
  sorted_from (from + 1) os,
)

all_both : (P : ℕ → Type 0) (a b : List (ℕ × ℕ)) → AllByRecursion P (keys_of a) → AllByRecursion P (keys_of b) → AllByRecursion P (keys_of (a ++ b))
all_both P [] b x y = y
all_both P (e ∷ a) b x y = (x.0, all_both P a b x.1 y)

sorted_both : (low high : ℕ) (a b : List (ℕ × ℕ)) → AreFrom low high a → AllByRecursion (λ k. high ≤ k) (keys_of b) → IsStrictlySortedBy nat_cmp (keys_of a) → IsStrictlySortedBy nat_cmp (keys_of b) → IsStrictlySortedBy nat_cmp (keys_of (a ++ b))
unfolding IsStrictlySortedBy
sorted_both low high [] b within from sa sb = sb
sorted_both low high (e ∷ a) b within from sa sb = (
  all_both (λ y. nat_cmp e.0 y ≡ Less) a b sa.0 (behind e.0 high (keys_of b) within.0.1 from),
  sorted_both low high a b within.1 from sa.1 sb,
)

lower_all : (a b : ℕ) (ks : List ℕ) → b ≤ a → AllByRecursion (λ k. a ≤ k) ks → AllByRecursion (λ k. b ≤ k) ks
lower_all a b [] le all = tt
lower_all a b (k ∷ ks) le all = (omega (arith, all.0), lower_all a b ks le all.1)

from_group : (next : ℕ) (gs : List (ℕ × List (Option ℕ))) → AreRising next gs → AllByRecursion (λ k. 16 * next ≤ k) (keys_of (placed_in gs))
unfolding placed_in
from_group next [] rising = tt
from_group next (g ∷ gs) rising =
    all_both (λ k. 16 * next ≤ k) (placed_from (16 * g.0) (take 16 g.1)) (placed_in gs)
    (higher (16 * g.0) (16 * g.0 + length (take 16 g.1)) (16 * next) (placed_from (16 * g.0) (take 16 g.1)) (omega (arith, rising.0)) (bounded (16 * g.0) (take 16 g.1) (16 * g.0) (16 * g.0 + length (take 16 g.1)) (omega arith) (omega arith)))
    (lower_all (16 * (g.0 + 1)) (16 * next) (keys_of (placed_in gs)) (omega (arith, rising.0)) (from_group (g.0 + 1) gs rising.1))

sorted_rising : (next : ℕ) (gs : List (ℕ × List (Option ℕ))) → AreRising next gs → IsStrictlySortedBy nat_cmp (keys_of (placed_in gs))
unfolding placed_in IsStrictlySortedBy
sorted_rising next [] rising = tt
sorted_rising next (g ∷ gs) rising =
    sorted_both (16 * g.0) (16 * (g.0 + 1)) (placed_from (16 * g.0) (take 16 g.1)) (placed_in gs)
    (bounded (16 * g.0) (take 16 g.1) (16 * g.0) (16 * (g.0 + 1)) (omega arith) (omega (arith, length-take 16 g.1)))
    (from_group (g.0 + 1) gs rising.1) (sorted_from (16 * g.0) (take 16 g.1)) (sorted_rising (g.0 + 1) gs rising.1)

pub sorted_in : (gs : List (ℕ × List (Option ℕ))) → IsStrictlySortedBy nat_cmp (keys_of gs) → IsStrictlySortedBy nat_cmp (keys_of (placed_in gs))
sorted_in gs sorted = sorted_rising 0 gs (rises 0 gs (from_zero (keys_of gs)) sorted)

pub none_placed : (gs : List (ℕ × List (Option ℕ))) → gs ≡ [] → placed_in gs ≡ []
unfolding placed_in
none_placed gs none = rw none refl

chosen : {A : Type 0} (s t : ℕ) (a b : A) → s ≡ t → (if s == t then a else b) ≡ a
chosen s t a b same = grind (arith, nat_tests)

other : {A : Type 0} (s t : ℕ) (a b : A) → s ≢ t → (if s == t then a else b) ≡ b
other s t a b apart = grind (arith, nat_tests)

-- Another place in the group of a sector.
pub put_in_group : (gs hs : List (ℕ × List (Option ℕ))) (sector : ℕ) (old new : List (Option ℕ)) (place : Option ℕ) → IsStrictlySortedBy nat_cmp (keys_of gs) → IsStrictlySortedBy nat_cmp (keys_of hs) → new ≡ set old (sector % 16) place → sector % 16 < length old → ((j : ℕ) → in_group (group_in gs (sector / 16)) j ≡ get_or old j None) → ((k : ℕ) → group_in hs k ≡ group_after (sector / 16) (Some new) (group_in gs k) k) → (s : ℕ) → place_at (placed_in hs) s ≡ (if s == sector then place else place_at (placed_in gs) s)
put_in_group gs hs sector old new place sorted_gs sorted_hs put within was looks s =
    place_in_group hs sorted_hs s
    ∙ elim (cases_eq (s / 16) (sector / 16)) [
      | inl same ↦
          ap (λ (g : Option (List (Option ℕ))). in_group g (s % 16)) (looks (s / 16) ∙ chosen (s / 16) (sector / 16) (Some new) _ same)
          ∙ rw put
          (elim (cases_eq (s % 16) (sector % 16)) [
            | inl here ↦ rw here (get_or-set_same old (sector % 16) place None within) ∙ sym (chosen s sector place (place_at (placed_in gs) s) (omega arith))
            | inr there ↦
                get_or-set_other old (sector % 16) (s % 16) place None there
                ∙ sym (was (s % 16)) ∙ rw (sym same) refl ∙ sym (place_in_group gs sorted_gs s)
                ∙ sym (other s sector place (place_at (placed_in gs) s) (λ e. there (ap (λ n. n % 16) e)))
          ])
      | inr apart ↦
          ap (λ (g : Option (List (Option ℕ))). in_group g (s % 16)) (looks (s / 16) ∙ other (s / 16) (sector / 16) (Some new) _ apart)
          ∙ sym (place_in_group gs sorted_gs s)
          ∙ sym (other s sector place (place_at (placed_in gs) s) (λ e. apart (ap (λ n. n / 16) e)))
    ]

none_in : (j : ℕ) → None ≡ get_or no_places j None
unfolding no_places
none_in j = elim (cases_lt j 16) [
  | inl below ↦ sym (get_or-replicate 16 j None None below)
  | inr past ↦ sym (get_or_past (replicate 16 None) j None past)
]

-- A group that is absent has no place.
pub was_there : (o : Option (List (Option ℕ))) (j : ℕ) → in_group o j ≡ get_or (unwrap_or o no_places) j None
was_there None j = none_in j
was_there (Some g) j = refl

-- A sector whose group is absent has no place.
none_left : (gs : List (ℕ × List (Option ℕ))) (sector : ℕ) → IsStrictlySortedBy nat_cmp (keys_of gs) → group_in gs (sector / 16) ≡ None → (s : ℕ) → place_at (placed_in gs) s ≡ (if s == sector then None else place_at (placed_in gs) s)
none_left gs sector sorted absent s =
    elim (cases_eq s sector) [
      | inl same ↦
          ap (place_at (placed_in gs)) same ∙ place_in_group gs sorted sector
          ∙ ap (λ (g : Option (List (Option ℕ))). in_group g (sector % 16)) absent
          ∙ sym (chosen s sector None (place_at (placed_in gs) s) same)
      | inr apart ↦ sym (other s sector None (place_at (placed_in gs) s) apart)
    ]

-- A sector is taken from its group, if there is one.
pub taken_from_group : (gs hs : List (ℕ × List (Option ℕ))) (sector : ℕ) → IsStrictlySortedBy nat_cmp (keys_of gs) → IsStrictlySortedBy nat_cmp (keys_of hs) → (o : Option (List (Option ℕ))) → group_in gs (sector / 16) ≡ o → IfSome o (λ g. length g ≡ 16) → ((k : ℕ) → group_in hs k ≡ group_after (sector / 16) (option_map (λ g. set g (sector % 16) None) o) (group_in gs k) k) → (s : ℕ) → place_at (placed_in hs) s ≡ (if s == sector then None else place_at (placed_in gs) s)
taken_from_group gs hs sector sorted_gs sorted_hs None is long looks s =
    let same : (k : ℕ) → group_in hs k ≡ group_in gs k =
    λ k. elim (cases_eq k (sector / 16)) [
      | inl here ↦ looks k ∙ chosen k (sector / 16) None (group_in gs k) here ∙ sym (ap (group_in gs) here ∙ is)
      | inr apart ↦ looks k ∙ other k (sector / 16) None (group_in gs k) apart
    ] in
    place_in_group hs sorted_hs s
    ∙ ap (λ (g : Option (List (Option ℕ))). in_group g (s % 16)) (same (s / 16))
    ∙ sym (place_in_group gs sorted_gs s)
    ∙ none_left gs sector sorted_gs is s
taken_from_group gs hs sector sorted_gs sorted_hs (Some g) is long looks s =
    put_in_group gs hs sector g (set g (sector % 16) None) None sorted_gs sorted_hs refl (omega (arith, long))
    (λ j. ap (λ (o : Option (List (Option ℕ))). in_group o j) is) looks s
