-- Which member of a family an object is, and which number makes a name.
use Rattle.std.proofs.Common.{◌≡◌, ℕ, zero, suc, ◌+◌, ◌-◌, ◌<◌, ◌≤◌, ◌==◌, ◌&&◌, Bool, true, false, nat_le, nat_lt, List, add-one, refl, arith, Some, None, option_map, if◌then◌else◌, inl, inr}
use Rattle.std.specs.Str.{bytes_eq}
use Rattle.std.proofs.lemmas.Bool.{cases_Bool}
use Rattle.std.proofs.lemmas.Bool.Decides.{nat_tests}
use Rattle.sp_cells.specs.declared.names.TheConstants.{RANGES}
use Rattle.sp_cells.specs.declared.names.Uid.{Uid}
use Rattle.sp_cells.specs.Numbers.{number_behind, member_number_from}
use Rattle.tcg_calls.specs.Objects.{name_in, object_in, members, of_numbers, of_ranges, number_between, range_between, number_making}

-- a family whose members follow one another behind a base
abbrev IsBehind : ℕ → (ℕ → Uid) → Type 0
IsBehind base object = (n : ℕ) → (object (suc n)).0 ≡ base + suc n

abbrev is_within : (first count n : ℕ) → Bool
is_within first count n = nat_lt first n && nat_le n (first + count)

behind : (base : ℕ) (object : ℕ → Uid) (text : ℕ → List ℕ) → IsBehind base object → (count from : ℕ) (u : Uid)
    → name_in (members object text (suc from) count) u ≡ (if is_within (base + from) count u.0 then Some (text (u.0 - base)) else None)
behind base object text is zero from u = let out : is_within (base + from) zero u.0 ≡ false = grind (arith, nat_tests) in rw out refl
behind base object text is (suc k) from u =
    let first : (object (suc from)).0 ≡ base + suc from = is from in
    let rest = behind base object text is k (suc from) u in
    elim (cases_Bool ((object (suc from)).0 == u.0)) [
      | inl same ↦
          let there : base + suc from ≡ u.0 = grind (arith, nat_tests, first, same) in
          let within : is_within (base + from) (suc k) u.0 ≡ true = grind (arith, nat_tests, there) in
          let number : u.0 - base ≡ suc from = omega (arith, there) in
          rw (same, within, number) refl
      | inr other ↦
          let apart : base + suc from ≡ u.0 → ⊥ = grind (arith, nat_tests, first, other) in
          let same : is_within (base + suc from) k u.0 ≡ is_within (base + from) (suc k) u.0 = grind (arith, nat_tests, apart) in
          rw (other, rest, same) refl
    ]

pub of_ranges-name : (base : ℕ) (object : ℕ → Uid) (before after : List ℕ) → IsBehind base object → (u : Uid)
    → ((object 0).0 ≡ u.0 → number_behind base RANGES u ≡ None)
    → name_in (of_ranges object before after) u ≡ option_map (range_between before after) (member_number_from (object 0).0 base RANGES u)
unfolding of_ranges
of_ranges-name base object before after is u apart =
    let rest = behind base object (range_between before after) is RANGES 0 u in
    elim (cases_Bool ((object 0).0 == u.0)) [
      | inl same ↦ let again : (u.0 == (object 0).0) ≡ true = grind (arith, nat_tests, same) in rw (same, again) refl
      | inr other ↦ let again : (u.0 == (object 0).0) ≡ false = grind (arith, nat_tests, other) in rw (other, again, rest) (numbered u base)
    ] where
      numbered : (u : Uid) (base : ℕ)
          → (if is_within (base + 0) RANGES u.0 then Some (range_between before after (u.0 - base)) else None)
          ≡ option_map (range_between before after) (number_behind base RANGES u)
      numbered u base = grind (arith, nat_tests)

pub of_numbers-name : (base : ℕ) (object : ℕ → Uid) (before after : List ℕ) (count : ℕ) → IsBehind base object → (u : Uid)
    → name_in (of_numbers object before after count) u ≡ option_map (number_between before after) (number_behind base count u)
unfolding of_numbers
of_numbers-name base object before after count is u = rw (behind base object (number_between before after) is count 0 u) (numbered u base) where
  numbered : (u : Uid) (base : ℕ)
      → (if is_within (base + 0) count u.0 then Some (number_between before after (u.0 - base)) else None)
      ≡ option_map (number_between before after) (number_behind base count u)
  numbered u base = grind (arith, nat_tests)

-- no member of a family is at or before its base
pub before_all : (base first_of_all : ℕ) (u : Uid) → first_of_all ≤ base → first_of_all ≡ u.0 → number_behind base RANGES u ≡ None
before_all base first_of_all u below is = grind (arith, nat_tests, below, is)

members-object : (object : ℕ → Uid) (text : ℕ → List ℕ) (count from : ℕ) (name : List ℕ)
    → object_in (members object text from count) name ≡ option_map object (number_making text from count name)
unfolding number_making
members-object object text zero from name = refl
members-object object text (suc k) from name =
    let rest = members-object object text k (suc from) name in
    elim (cases_Bool (bytes_eq (text from) name)) [
      | inl same ↦ rw same refl
      | inr other ↦ rw (other, rest) refl
    ]

pub of_numbers-object : (object : ℕ → Uid) (before after : List ℕ) (count : ℕ) (name : List ℕ)
    → object_in (of_numbers object before after count) name ≡ option_map object (number_making (number_between before after) 1 count name)
unfolding of_numbers
of_numbers-object object before after count name = members-object object (number_between before after) count 1 name

pub of_ranges-object : (object : ℕ → Uid) (before after : List ℕ) (name : List ℕ)
    → object_in (of_ranges object before after) name ≡ option_map object (number_making (range_between before after) 0 (RANGES + 1) name)
unfolding of_ranges
of_ranges-object object before after name = members-object object (range_between before after) (RANGES + 1) 0 name

pub not_yet : (text : ℕ → List ℕ) (from end : ℕ) (name : List ℕ) → from < end → bytes_eq (text from) name ≡ false
    → number_making text from (end - from) name ≡ number_making text (from + 1) (end - (from + 1)) name
unfolding number_making
not_yet text from end name below other =
    let count : end - from ≡ suc (end - (from + 1)) = omega (arith, below) in rw (count, other, add-one) refl

pub found : (text : ℕ → List ℕ) (from end : ℕ) (name : List ℕ) → from < end → bytes_eq (text from) name ≡ true
    → number_making text from (end - from) name ≡ Some from
unfolding number_making
found text from end name below same =
    let count : end - from ≡ suc (end - (from + 1)) = omega (arith, below) in rw (count, same) refl

pub ended : (text : ℕ → List ℕ) (from end : ℕ) (name : List ℕ) → end ≤ from → number_making text from (end - from) name ≡ None
unfolding number_making
ended text from end name over = let none : end - from ≡ 0 = omega (arith, over) in rw none refl
