-- The groups that have a number, by their indexes.
use Rattle.std.proofs.Common.{◌≡◌, ℕ, ◌+◌, ◌-◌, ◌≤◌, List, [], ◌∷◌, ◌++◌, length, set, cond, refl, ap, sym, ◌∙◌, arith, inl, inr, ◌⊎◌, Bool, nat_cmp, Option, Some, None}
use Rattle.std.specs.Prelude.{if◌then◌else◌, ◌==◌, option_map}
use Rattle.std.specs.List.Sorted.{IsStrictlySortedBy}
use Rattle.std.specs.BTreeMap.{is_at}
use Rattle.std.specs.Map.{keys_of}
use Rattle.std.proofs.lemmas.Bool.{cases_eq}
use Rattle.std.proofs.lemmas.Map.Made.{lookup-map_values, keys_of-map_values}
use Rattle.std.proofs.lemmas.List.{get_or-set_same, get_or-set_other, get_or_append_left, get_or-append_right, get_or_past, length-append, length-set}
use Rattle.shadow_mbr.specs.Places.{placed_from, place_at, group_at, group_in, group_after, groups_of, no_places, AreGrouped}
use Rattle.shadow_mbr.specs.Erasure.{blocks_erased}
use Rattle.shadow_mbr.proofs.Numbers.{at_same, at_other}
use Rattle.shadow_mbr.proofs.Blocks.{chosen, other}

pub group_by_index : (indexes : List (ℕ × ℕ)) (groups : List (List (Option ℕ))) (n : ℕ) → group_in (groups_of indexes groups) n ≡ option_map (group_at groups) (place_at indexes n)
group_by_index indexes groups n = lookup-map_values (group_at groups) (is_at (nat_cmp n)) indexes

pub sorted_groups : (indexes : List (ℕ × ℕ)) (groups : List (List (Option ℕ))) → IsStrictlySortedBy nat_cmp (keys_of indexes) → IsStrictlySortedBy nat_cmp (keys_of (groups_of indexes groups))
sorted_groups indexes groups sorted = rw (keys_of-map_values (group_at groups) indexes) sorted

pub none_grouped : (indexes : List (ℕ × ℕ)) (groups : List (List (Option ℕ))) → indexes ≡ [] → AreGrouped indexes groups
unfolding IsStrictlySortedBy
none_grouped indexes groups none = rw none (record {
  sorted = tt;
  below = λ n i is. let no = is in cc;
  apart = λ n m i is it. let no = is in cc;
})

-- One group is another one.
one_of : (indexes : List (ℕ × ℕ)) (groups : List (List (Option ℕ))) (number i : ℕ) (v : List (Option ℕ)) → AreGrouped indexes groups → place_at indexes number ≡ Some i → (n : ℕ) (o : Option ℕ) → place_at indexes n ≡ o → option_map (group_at (set groups i v)) o ≡ group_after number (Some v) (option_map (group_at groups) o) n
one_of indexes groups number i v own there n None is =
    sym (other n number (Some v) None (λ e. let none : place_at indexes number ≡ None = ap (place_at indexes) (sym e) ∙ is in let no : Some i ≡ None = sym there ∙ none in cc))
one_of indexes groups number i v own there n (Some q) is =
    elim (cases_eq n number) [
      | inl same ↦
          let found : Some q ≡ Some i = sym is ∙ ap (place_at indexes) same ∙ there in
          let here : q ≡ i = cc in
          rw here (ap (λ (g : List (Option ℕ)). Some g) (get_or-set_same groups i v [] (own.below number i there)))
          ∙ sym (chosen n number (Some v) (Some (group_at groups q)) same)
      | inr apart ↦
          ap (λ (g : List (Option ℕ)). Some g) (get_or-set_other groups i q v [] (λ e. apart (own.apart n number i (is ∙ ap (λ n. Some n) e) there)))
          ∙ sym (other n number (Some v) (Some (group_at groups q)) apart)
    ]

pub one_group : (indexes : List (ℕ × ℕ)) (groups : List (List (Option ℕ))) (number i : ℕ) (v : List (Option ℕ)) → AreGrouped indexes groups → place_at indexes number ≡ Some i → (n : ℕ) → group_in (groups_of indexes (set groups i v)) n ≡ group_after number (Some v) (group_in (groups_of indexes groups) n) n
one_group indexes groups number i v own there n =
    rw (group_by_index indexes (set groups i v) n, group_by_index indexes groups n) (one_of indexes groups number i v own there n (place_at indexes n) refl)

pub own_one : (indexes : List (ℕ × ℕ)) (groups : List (List (Option ℕ))) (i : ℕ) (v : List (Option ℕ)) → AreGrouped indexes groups → AreGrouped indexes (set groups i v)
own_one indexes groups i v own = record {
  sorted = own.sorted;
  below = λ n q is. rw (length-set groups i v) (own.below n q is);
  apart = own.apart;
}

-- One group more.
pub by_number : {A : Type 0} (number n : ℕ) (a b : A) → cond (is_at (nat_cmp number) n) a b ≡ (if n == number then a else b)
by_number number n a b = elim (cases_eq n number) [
  | inl same ↦ rw (same, at_same number) (sym (chosen number number a b refl))
  | inr apart ↦ rw (at_other number n apart) (sym (other n number a b apart))
]

same_before : (indexes : List (ℕ × ℕ)) (groups : List (List (Option ℕ))) (g : List (Option ℕ)) (n : ℕ) → AreGrouped indexes groups → (o : Option ℕ) → place_at indexes n ≡ o → option_map (group_at (groups ++ g ∷ [])) o ≡ option_map (group_at groups) o
same_before indexes groups g n own None is = refl
same_before indexes groups g n own (Some q) is = ap (λ (g : List (Option ℕ)). Some g) (get_or_append_left groups (g ∷ []) [] q (own.below n q is))

pub new_group : (old new : List (ℕ × ℕ)) (groups : List (List (Option ℕ))) (number i : ℕ) (g : List (Option ℕ)) → AreGrouped old groups → i ≡ length groups → ((n : ℕ) → place_at new n ≡ cond (is_at (nat_cmp number) n) (Some i) (place_at old n)) → (n : ℕ) → group_in (groups_of new (groups ++ g ∷ [])) n ≡ group_after number (Some g) (group_in (groups_of old groups) n) n
new_group old new groups number i g own end looks n =
    rw (group_by_index new (groups ++ g ∷ []) n, group_by_index old groups n)
    (ap (option_map (group_at (groups ++ g ∷ []))) (looks n ∙ by_number number n (Some i) (place_at old n))
    ∙ elim (cases_eq n number) [
      | inl same ↦
          let zero : i - length groups ≡ 0 = omega arith in
          let last : group_at (groups ++ g ∷ []) i ≡ g = get_or-append_right groups (g ∷ []) (length groups) i [] refl (omega arith) ∙ rw zero refl in
          ap (option_map (group_at (groups ++ g ∷ []))) (chosen n number (Some i) (place_at old n) same)
          ∙ ap (λ (g : List (Option ℕ)). Some g) last
          ∙ sym (chosen n number (Some g) (option_map (group_at groups) (place_at old n)) same)
      | inr apart ↦
          ap (option_map (group_at (groups ++ g ∷ []))) (other n number (Some i) (place_at old n) apart)
          ∙ same_before old groups g n own (place_at old n) refl
          ∙ sym (other n number (Some g) (option_map (group_at groups) (place_at old n)) apart)
    ])

found_index : (old new : List (ℕ × ℕ)) (number i n q : ℕ) → ((n : ℕ) → place_at new n ≡ cond (is_at (nat_cmp number) n) (Some i) (place_at old n)) → place_at new n ≡ Some q → ((n ≡ number) × (q ≡ i)) ⊎ (place_at old n ≡ Some q)
found_index old new number i n q looks is = elim (cases_eq n number) [
  | inl same ↦
      let found : Some i ≡ Some q = sym (looks n ∙ by_number number n (Some i) (place_at old n) ∙ chosen n number (Some i) (place_at old n) same) ∙ is in
      let here : q ≡ i = cc in
      inl (same, here)
  | inr apart ↦ inr (sym (looks n ∙ by_number number n (Some i) (place_at old n) ∙ other n number (Some i) (place_at old n) apart) ∙ is)
]

pub own_new : (old new : List (ℕ × ℕ)) (groups : List (List (Option ℕ))) (number i : ℕ) (g : List (Option ℕ)) → AreGrouped old groups → i ≡ length groups → IsStrictlySortedBy nat_cmp (keys_of new) → ((n : ℕ) → place_at new n ≡ cond (is_at (nat_cmp number) n) (Some i) (place_at old n)) → AreGrouped new (groups ++ g ∷ [])
own_new old new groups number i g own end sorted looks =
    let size : length (groups ++ g ∷ []) ≡ length groups + 1 = length-append groups (g ∷ []) in
    record {
      sorted = sorted;
      below = λ n q is. elim (found_index old new number i n q looks is) [
        | inl it ↦ omega (arith, size, it.1)
        | inr was ↦ let lt = own.below n q was in omega (arith, size)
      ];
      apart = λ n m q is it. elim (found_index old new number i n q looks is) [
        | inl a ↦ elim (found_index old new number i m q looks it) [
          | inl b ↦ a.0 ∙ sym b.0
          | inr b ↦ let lt = own.below m q b in absurd (omega (arith, a.1))
        ]
        | inr a ↦ elim (found_index old new number i m q looks it) [
          | inl b ↦ let lt = own.below n q a in absurd (omega (arith, b.1))
          | inr b ↦ own.apart n m q a b
        ]
      ];
    }

pub past_all : (p : ℕ → Bool) (first at : ℕ) (groups : List (List (Option ℕ))) (blocks : List (List ℕ)) → length groups ≤ at → blocks ≡ blocks_erased p (placed_from first (group_at groups at)) blocks
unfolding placed_from blocks_erased
past_all p first at groups blocks past = rw (get_or_past groups at [] past) refl

pub none_past : (at : ℕ) (groups : List (List (Option ℕ))) → length groups ≤ at → length (group_at groups at) ≤ 16
none_past at groups past = rw (get_or_past groups at [] past) (omega arith)

pub found_group : (indexes : List (ℕ × ℕ)) (groups : List (List (Option ℕ))) (n i : ℕ) → place_at indexes n ≡ Some i → group_in (groups_of indexes groups) n ≡ Some (group_at groups i)
found_group indexes groups n i is = group_by_index indexes groups n ∙ ap (option_map (group_at groups)) is

pub no_group : (indexes : List (ℕ × ℕ)) (groups : List (List (Option ℕ))) (n : ℕ) → place_at indexes n ≡ None → group_in (groups_of indexes groups) n ≡ None
no_group indexes groups n is = group_by_index indexes groups n ∙ ap (option_map (group_at groups)) is

pub none_changed : (indexes : List (ℕ × ℕ)) (groups : List (List (Option ℕ))) (number n : ℕ) → group_in (groups_of indexes groups) number ≡ None → group_in (groups_of indexes groups) n ≡ group_after number None (group_in (groups_of indexes groups) n) n
none_changed indexes groups number n absent = elim (cases_eq n number) [
  | inl same ↦ ap (group_in (groups_of indexes groups)) same ∙ absent ∙ sym (chosen n number None (group_in (groups_of indexes groups) n) same)
  | inr apart ↦ sym (other n number None (group_in (groups_of indexes groups) n) apart)
]

pub long_none : length no_places ≡ 16
unfolding no_places
long_none = refl
