-- The sectors that are kept, by the places of their blocks.
use Rattle.std.proofs.Common.{◌≡◌, ℕ, ◌+◌, ◌-◌, ◌<◌, ◌≤◌, ◌≢◌, ◌⊎◌, Bool, true, false, ◌||◌, List, [], ◌∷◌, ◌++◌, length, take, drop, get_or, set, replicate, refl, ap, sym, ◌∙◌, arith, inl, inr, nat_cmp, nat_eq, Option, Some, None}
use Rattle.std.specs.Prelude.{if◌then◌else◌, ◌==◌}
use Rattle.std.specs.List.{list_any, AllByRecursion}
use Rattle.std.specs.List.Sorted.{IsStrictlySortedBy}
use Rattle.std.specs.BTreeMap.{is_at}
use Rattle.std.specs.Map.{keys_of}
use Rattle.std.specs.Option.{option_map}
use Rattle.std.specs.Prelude.{is_some, unwrap_or, IfSome}
use Rattle.std.proofs.lemmas.Bool.{cases_lt, cases_eq, cases_Bool}
use Rattle.std.proofs.lemmas.Bool.Decides.{nat_tests}
use Rattle.std.proofs.lemmas.Map.Made.{lookup-map_values, keys_of-map_values}
use Rattle.std.specs.declared.cmp.Ordering.TheVariants.{Less}
use Rattle.std.proofs.lemmas.List.{get_or-set_same, get_or-set_other, get_or_append_left, get_or-append_right, get_or-replicate, get_or-take, length-append, length-replicate, length-take-le, take_all}
use Rattle.std.proofs.lemmas.List.Folds.{list_any_more, list_any-append}
use Rattle.std.proofs.lemmas.List.{take-append-drop}
use Rattle.shadow_mbr.specs.Stored.{block_in, zeros}
use Rattle.shadow_mbr.proofs.Numbers.{at_less, at_same, at_other}
use Rattle.shadow_mbr.proofs.Zeros.{length_zeros}
use Rattle.shadow_mbr.proofs.Groups.{less_than, above, behind}
use Rattle.shadow_mbr.specs.Places.{place_at, block_at, blocks_of, AreOwn, AddsPlaces}

pub block_in-blocks_of : (places : List (ℕ × ℕ)) (blocks : List (List ℕ)) (s : ℕ) → block_in (blocks_of places blocks) s ≡ option_map (block_at blocks) (place_at places s)
block_in-blocks_of places blocks s = lookup-map_values (block_at blocks) (is_at (nat_cmp s)) places

pub sorted_blocks : (places : List (ℕ × ℕ)) (blocks : List (List ℕ)) → IsStrictlySortedBy nat_cmp (keys_of places) → IsStrictlySortedBy nat_cmp (keys_of (blocks_of places blocks))
sorted_blocks places blocks sorted = rw (keys_of-map_values (block_at blocks) places) sorted

pub chosen : {A : Type 0} (s t : ℕ) (a b : A) → s ≡ t → (if s == t then a else b) ≡ a
chosen s t a b same = grind (arith, nat_tests)

pub other : {A : Type 0} (s t : ℕ) (a b : A) → s ≢ t → (if s == t then a else b) ≡ b
other s t a b apart = grind (arith, nat_tests)

-- One block is another one: only the sector that stands there changes.
one_of : (places : List (ℕ × ℕ)) (blocks : List (List ℕ)) (sector p : ℕ) (v : List ℕ) → AreOwn places blocks → place_at places sector ≡ Some p → (s : ℕ) (o : Option ℕ) → place_at places s ≡ o → option_map (block_at (set blocks p v)) o ≡ (if s == sector then Some v else option_map (block_at blocks) o)
one_of places blocks sector p v own there s None is =
    sym (other s sector (Some v) None (λ e. let none : place_at places sector ≡ None = ap (place_at places) (sym e) ∙ is in let no : Some p ≡ None = sym there ∙ none in cc))
one_of places blocks sector p v own there s (Some q) is =
    elim (cases_eq s sector) [
      | inl same ↦
          let found : Some q ≡ Some p = sym is ∙ ap (place_at places) same ∙ there in
          let here : q ≡ p = cc in
          rw here (ap (λ b. Some b) (get_or-set_same blocks p v zeros (own.below sector p there)))
          ∙ sym (chosen s sector (Some v) (Some (block_at blocks q)) same)
      | inr apart ↦
          ap (λ b. Some b) (get_or-set_other blocks p q v zeros (λ e. apart (own.apart s sector p (is ∙ ap (λ n. Some n) e) there)))
          ∙ sym (other s sector (Some v) (Some (block_at blocks q)) apart)
    ]

pub one_block : (places : List (ℕ × ℕ)) (blocks : List (List ℕ)) (sector p : ℕ) (v : List ℕ) → AreOwn places blocks → place_at places sector ≡ Some p → (s : ℕ) → block_in (blocks_of places (set blocks p v)) s ≡ (if s == sector then Some v else block_in (blocks_of places blocks) s)
one_block places blocks sector p v own there s =
    rw (block_in-blocks_of places (set blocks p v) s, block_in-blocks_of places blocks s) (one_of places blocks sector p v own there s (place_at places s) refl)

pub found_block : (places : List (ℕ × ℕ)) (blocks : List (List ℕ)) (s p : ℕ) → place_at places s ≡ Some p → block_in (blocks_of places blocks) s ≡ Some (block_at blocks p)
found_block places blocks s p is = block_in-blocks_of places blocks s ∙ ap (option_map (block_at blocks)) is

pub no_block : (places : List (ℕ × ℕ)) (blocks : List (List ℕ)) (s : ℕ) → place_at places s ≡ None → block_in (blocks_of places blocks) s ≡ None
no_block places blocks s is = block_in-blocks_of places blocks s ∙ ap (option_map (block_at blocks)) is

-- Places that say the same are the same.
none_above : (k : ℕ) (es : List (ℕ × ℕ)) → AllByRecursion (λ y. nat_cmp k y ≡ Less) (keys_of es) → place_at es k ≡ None
none_above k [] above = refl
none_above k (e ∷ es) above = rw (at_less k e.0 (omega (arith, less_than k e.0 above.0))) (none_above k es above.1)

below_all : (k : ℕ) (e : ℕ × ℕ) (es : List (ℕ × ℕ)) → k < e.0 → IsStrictlySortedBy nat_cmp (keys_of (e ∷ es)) → place_at (e ∷ es) k ≡ None
unfolding IsStrictlySortedBy
below_all k e es lt sorted = rw (at_less k e.0 lt) (none_above k es (behind k (e.0 + 1) (keys_of es) (omega arith) (above e.0 (keys_of es) sorted.0)))

pub head_is : (e : ℕ × ℕ) (es : List (ℕ × ℕ)) → place_at (e ∷ es) e.0 ≡ Some e.1
head_is e es = rw (at_same e.0) refl

pub tail_is : (k : ℕ) (e : ℕ × ℕ) (es : List (ℕ × ℕ)) → k ≢ e.0 → place_at (e ∷ es) k ≡ place_at es k
tail_is k e es apart = rw (at_other k e.0 (λ same. apart (sym same))) refl

pub same_places : (a b : List (ℕ × ℕ)) → IsStrictlySortedBy nat_cmp (keys_of a) → IsStrictlySortedBy nat_cmp (keys_of b) → ((s : ℕ) → place_at a s ≡ place_at b s) → a ≡ b
unfolding IsStrictlySortedBy
same_places [] [] sorted_a sorted_b same = refl
same_places [] (f ∷ fs) sorted_a sorted_b same = let no = same f.0 ∙ head_is f fs in cc
same_places (e ∷ es) [] sorted_a sorted_b same = let no = sym (same e.0) ∙ head_is e es in cc
same_places (e ∷ es) (f ∷ fs) sorted_a sorted_b same =
    elim (cases_lt e.0 f.0) [
      | inl lt ↦ let no : None ≡ Some e.1 = sym (below_all e.0 f fs lt sorted_b) ∙ sym (same e.0) ∙ head_is e es in cc
      | inr le ↦ elim (cases_lt f.0 e.0) [
        | inl lt ↦ let no : None ≡ Some f.1 = sym (below_all f.0 e es lt sorted_a) ∙ same f.0 ∙ head_is f fs in cc
        | inr ge ↦
            let key : e.0 ≡ f.0 = omega arith in
            let found : Some e.1 ≡ Some f.1 = sym (head_is e es) ∙ same e.0 ∙ ap (place_at (f ∷ fs)) key ∙ head_is f fs in
            let value : e.1 ≡ f.1 = cc in
            let rest : es ≡ fs =
            same_places es fs sorted_a.1 sorted_b.1
            (λ s. elim (cases_eq s e.0) [
              | inl here ↦ rw here (none_above e.0 es sorted_a.0 ∙ sym (rw key (none_above f.0 fs sorted_b.0)))
              | inr there ↦ sym (tail_is s e es there) ∙ same s ∙ tail_is s f fs (λ h. there (h ∙ sym key))
            ]) in
            ap (λ (es : List (ℕ × ℕ)). e ∷ es) rest ∙ ap (λ (h : ℕ × ℕ). h ∷ fs) (ap (λ (n : ℕ). let p : ℕ × ℕ = (n, e.1) in p) key ∙ ap (λ (n : ℕ). let p : ℕ × ℕ = (f.0, n) in p) value)
      ]
    ]

-- What is among the first is among all.
pub any_of_first : (p : ℕ → Bool) (i : ℕ) (xs : List ℕ) → list_any p (take i xs) ≡ true → list_any p xs ≡ true
any_of_first p i xs is =
    sym (ap (list_any p) (take-append-drop i xs)) ∙ list_any-append p (take i xs) (drop i xs) ∙ rw is refl

not_last : (s x : ℕ) (b : Bool) → s ≢ x → (b || nat_eq s x) ≡ true → b ≡ true
not_last s x b apart is = grind (arith, nat_tests)

neither : (s x : ℕ) (b : Bool) → (b || nat_eq s x) ≡ false → (b ≡ false) × (s ≢ x)
neither s x true is = let e = is in cc
neither s x false is = (refl, λ e. let t : nat_eq s x ≡ true = grind (arith, nat_tests) in let f = sym t ∙ is in cc)

-- One more sector has its place.
pub one_more : (old now new : List (ℕ × ℕ)) (sectors : List ℕ) (from i : ℕ) → i < length sectors → AddsPlaces old now (take i sectors) from → ((s : ℕ) → place_at new s ≡ (if s == get_or sectors i 0 then Some (from + i) else place_at now s)) → AddsPlaces old new (take (i + 1) sectors) from
one_more old now new sectors from i below so_far set_one =
    let had : length (take i sectors) ≡ i = length-take-le i sectors (omega arith) in
    let has : length (take (i + 1) sectors) ≡ i + 1 = length-take-le (i + 1) sectors (omega arith) in
    record {
      each = λ s listed.
          elim (cases_eq s (get_or sectors i 0)) [
            | inl same ↦
                (i, omega (arith, has), get_or-take (i + 1) sectors i 0 (omega arith) ∙ sym same, set_one s ∙ chosen s (get_or sectors i 0) (Some (from + i)) (place_at now s) same)
            | inr apart ↦
                let before : list_any (nat_eq s) (take i sectors) ≡ true = not_last s (get_or sectors i 0) (list_any (nat_eq s) (take i sectors)) apart (sym (list_any_more (nat_eq s) sectors i 0 below) ∙ listed) in
                let it = so_far.each s before in
                let lt : it.0 < i = omega (arith, had, it.1) in (
                  it.0,
                  omega (arith, has),
                  get_or-take (i + 1) sectors it.0 0 (omega arith) ∙ sym (get_or-take i sectors it.0 0 lt) ∙ it.2,
                  set_one s ∙ other s (get_or sectors i 0) (Some (from + i)) (place_at now s) apart ∙ it.3,
                )
          ];
      stays = λ s listed.
          let none = neither s (get_or sectors i 0) (list_any (nat_eq s) (take i sectors)) (sym (list_any_more (nat_eq s) sectors i 0 below) ∙ listed) in
          set_one s ∙ other s (get_or sectors i 0) (Some (from + i)) (place_at now s) none.1 ∙ so_far.stays s none.0;
    }

-- What was given a place and lost it is as before.
pub taken_back : (old now new : List (ℕ × ℕ)) (sectors : List ℕ) (from i : ℕ) → IsStrictlySortedBy nat_cmp (keys_of old) → IsStrictlySortedBy nat_cmp (keys_of new) → ((s : ℕ) → list_any (nat_eq s) sectors ≡ true → place_at old s ≡ None) → AddsPlaces old now (take i sectors) from → ((s : ℕ) → place_at new s ≡ (if list_any (nat_eq s) (take i sectors) then None else place_at now s)) → new ≡ old
taken_back old now new sectors from i sorted_old sorted_new fresh adds removed =
    same_places new old sorted_new sorted_old
    (λ s. elim (cases_Bool (list_any (nat_eq s) (take i sectors))) [
      | inl is ↦ removed s ∙ rw is (sym (fresh s (any_of_first (nat_eq s) i sectors is)))
      | inr not ↦ removed s ∙ rw not (adds.stays s not)
    ])

fresh_block : (blocks : List (List ℕ)) (n i : ℕ) → i < n → block_at (blocks ++ replicate n zeros) (length blocks + i) ≡ zeros
fresh_block blocks n i below =
    let e : length blocks + i - length blocks ≡ i = omega arith in
    get_or-append_right blocks (replicate n zeros) (length blocks) (length blocks + i) zeros refl (omega arith) ∙ rw e (get_or-replicate n i zeros zeros below)

kept_block : (old : List (ℕ × ℕ)) (blocks : List (List ℕ)) (n s : ℕ) → AreOwn old blocks → (o : Option ℕ) → place_at old s ≡ o → option_map (block_at (blocks ++ replicate n zeros)) o ≡ option_map (block_at blocks) o
kept_block old blocks n s own None is = refl
kept_block old blocks n s own (Some p) is = ap (λ b. Some b) (get_or_append_left blocks (replicate n zeros) zeros p (own.below s p is))

whole_more : (old : List (ℕ × ℕ)) (blocks : List (List ℕ)) (n : ℕ) → AreOwn old blocks → (p : ℕ) → p < length blocks + n → length (block_at (blocks ++ replicate n zeros) p) ≡ 512
whole_more old blocks n own p lt =
    elim (cases_lt p (length blocks)) [
      | inl before ↦ rw (get_or_append_left blocks (replicate n zeros) zeros p before) (own.whole p before)
      | inr after ↦
          let i : ℕ = p - length blocks in
          let at : p ≡ length blocks + i = omega arith in
          rw (at, fresh_block blocks n i (omega arith)) length_zeros
    ]

no_place_of : (o : Option ℕ) (blocks : List (List ℕ)) → option_map (block_at blocks) o ≡ None → o ≡ None
no_place_of None blocks is = refl
no_place_of (Some p) blocks is = let no = is in cc

pub no_place : (places : List (ℕ × ℕ)) (blocks : List (List ℕ)) (s : ℕ) → block_in (blocks_of places blocks) s ≡ None → place_at places s ≡ None
no_place places blocks s is = no_place_of (place_at places s) blocks (sym (block_in-blocks_of places blocks s) ∙ is)

-- where a place is, that was there or was added
found_old : (old new : List (ℕ × ℕ)) (blocks : List (List ℕ)) (sectors : List ℕ) → AreOwn old blocks → AddsPlaces old new sectors (length blocks) → (s p : ℕ) → place_at new s ≡ Some p → ((place_at old s ≡ Some p) × (p < length blocks)) ⊎ ((length blocks ≤ p) × (p < length blocks + length sectors) × (get_or sectors (p - length blocks) 0 ≡ s))
found_old old new blocks sectors own adds s p is =
    elim (cases_Bool (list_any (nat_eq s) sectors)) [
      | inl listed ↦
          let it = adds.each s listed in
          let found : Some p ≡ Some (length blocks + it.0) = sym is ∙ it.3 in
          let at : p ≡ length blocks + it.0 = cc in
          let back : p - length blocks ≡ it.0 = omega arith in
          inr (omega arith, omega (arith, it.1), rw back it.2)
      | inr not ↦ let there = sym (adds.stays s not) ∙ is in inl (there, own.below s p there)
    ]

below_more : (old new : List (ℕ × ℕ)) (blocks : List (List ℕ)) (sectors : List ℕ) → AreOwn old blocks → AddsPlaces old new sectors (length blocks) → (s p : ℕ) → place_at new s ≡ Some p → p < length blocks + length sectors
below_more old new blocks sectors own adds s p is =
    elim (found_old old new blocks sectors own adds s p is) [ inl h ↦ omega (arith, h.1) | inr h ↦ h.1 ]

apart_more : (old new : List (ℕ × ℕ)) (blocks : List (List ℕ)) (sectors : List ℕ) → AreOwn old blocks → AddsPlaces old new sectors (length blocks) → (s t p : ℕ) → place_at new s ≡ Some p → place_at new t ≡ Some p → s ≡ t
apart_more old new blocks sectors own adds s t p is it =
    elim (found_old old new blocks sectors own adds s p is) [
      | inl h ↦ elim (found_old old new blocks sectors own adds t p it) [
        | inl k ↦ own.apart s t p h.0 k.0
        | inr k ↦ absurd (omega (arith, h.1, k.0))
      ]
      | inr h ↦ elim (found_old old new blocks sectors own adds t p it) [
        | inl k ↦ absurd (omega (arith, k.1, h.0))
        | inr k ↦ sym h.2 ∙ k.2
      ]
    ]

-- The blocks of the sectors that were added are zeros, and those before are as they were.
pub added_block : (old new : List (ℕ × ℕ)) (blocks : List (List ℕ)) (sectors : List ℕ) (s : ℕ) → AreOwn old blocks → AddsPlaces old new sectors (length blocks) → block_in (blocks_of new (blocks ++ replicate (length sectors) zeros)) s ≡ (if list_any (nat_eq s) sectors then Some zeros else block_in (blocks_of old blocks) s)
added_block old new blocks sectors s own adds =
    elim (cases_Bool (list_any (nat_eq s) sectors)) [
      | inl is ↦
          let it = adds.each s is in
          found_block new (blocks ++ replicate (length sectors) zeros) s (length blocks + it.0) it.3
          ∙ rw is (ap (λ b. Some b) (fresh_block blocks (length sectors) it.0 it.1))
      | inr not ↦
          let here : block_in (blocks_of new (blocks ++ replicate (length sectors) zeros)) s ≡ block_in (blocks_of old blocks) s =
          block_in-blocks_of new (blocks ++ replicate (length sectors) zeros) s
          ∙ rw (adds.stays s not) (kept_block old blocks (length sectors) s own (place_at old s) refl)
          ∙ sym (block_in-blocks_of old blocks s) in
          rw not here
    ]

pub own_more : (old new : List (ℕ × ℕ)) (blocks : List (List ℕ)) (sectors : List ℕ) → IsStrictlySortedBy nat_cmp (keys_of new) → AreOwn old blocks → AddsPlaces old new sectors (length blocks) → AreOwn new (blocks ++ replicate (length sectors) zeros)
own_more old new blocks sectors sorted own adds =
    let size : length (blocks ++ replicate (length sectors) zeros) ≡ length blocks + length sectors = length-append blocks (replicate (length sectors) zeros) ∙ ap (λ n. length blocks + n) (length-replicate (length sectors) zeros) in
    record {
      below = λ s p is. rw size (below_more old new blocks sectors own adds s p is);
      apart = λ s t p is it. apart_more old new blocks sectors own adds s t p is it;
      whole = λ p lt. whole_more old blocks (length sectors) own p (rw size at lt);
      sorted = sorted;
    }

pub put_keeps : (places : List (ℕ × ℕ)) (blocks : List (List ℕ)) (sector p : ℕ) (v : List ℕ) → AreOwn places blocks → place_at places sector ≡ Some p → (s : ℕ) → is_some (block_in (blocks_of places (set blocks p v)) s) ≡ is_some (block_in (blocks_of places blocks) s)
put_keeps places blocks sector p v own there s =
    elim (cases_eq s sector) [
      | inl same ↦ rw (one_block places blocks sector p v own there s, chosen s sector (Some v) (block_in (blocks_of places blocks) s) same, same, found_block places blocks sector p there) refl
      | inr apart ↦ rw (one_block places blocks sector p v own there s, other s sector (Some v) (block_in (blocks_of places blocks) s) apart) refl
    ]

pub put_bytes : (places : List (ℕ × ℕ)) (blocks : List (List ℕ)) (sector p from : ℕ) (bytes : List ℕ) → AreOwn places blocks → place_at places sector ≡ Some p → (s : ℕ) → unwrap_or (block_in (blocks_of places (set blocks p (take from (block_at blocks p) ++ bytes ++ drop (from + length bytes) (block_at blocks p)))) s) zeros ≡ (if s == sector then take from (unwrap_or (block_in (blocks_of places blocks) s) zeros) ++ bytes ++ drop (from + length bytes) (unwrap_or (block_in (blocks_of places blocks) s) zeros) else unwrap_or (block_in (blocks_of places blocks) s) zeros)
put_bytes places blocks sector p from bytes own there s =
    let v : List ℕ = take from (block_at blocks p) ++ bytes ++ drop (from + length bytes) (block_at blocks p) in
    let b : List ℕ = unwrap_or (block_in (blocks_of places blocks) s) zeros in
    elim (cases_eq s sector) [
      | inl same ↦
          let here : b ≡ block_at blocks p = rw (same, found_block places blocks sector p there) refl in
          rw (one_block places blocks sector p v own there s, chosen s sector (Some v) (block_in (blocks_of places blocks) s) same)
          (rw (sym here) (sym (chosen s sector (take from b ++ bytes ++ drop (from + length bytes) b) b same)))
      | inr apart ↦
          rw (one_block places blocks sector p v own there s, other s sector (Some v) (block_in (blocks_of places blocks) s) apart)
          (sym (other s sector (take from b ++ bytes ++ drop (from + length bytes) b) b apart))
    ]

pub grown : (blocks new : List (List ℕ)) (n m : ℕ) → n ≡ length blocks → new ≡ take (n + m) blocks ++ replicate (n + m - n) zeros → new ≡ blocks ++ replicate m zeros
grown blocks new n m size is =
    let rest : n + m - n ≡ m = omega arith in
    is ∙ rw (rest, take_all (n + m) blocks (omega arith)) refl

pub own_none : (places : List (ℕ × ℕ)) (blocks : List (List ℕ)) → places ≡ [] → blocks ≡ [] → AreOwn places blocks
unfolding IsStrictlySortedBy
own_none places blocks none empty = rw (none, empty) (record {
  sorted = tt;
  below = λ s p is. let no = is in cc;
  apart = λ s t p is it. let no = is in cc;
  whole = λ p lt. absurd (omega arith);
})

pub has_block : (places : List (ℕ × ℕ)) (blocks : List (List ℕ)) (s : ℕ) (o : Option ℕ) → AreOwn places blocks → o ≡ place_at places s → IfSome o (λ p. p < length blocks)
has_block places blocks s None own is = tt
has_block places blocks s (Some p) own is = own.below s p (sym is)

pub its_block : (places : List (ℕ × ℕ)) (blocks : List (List ℕ)) (s : ℕ) (o : Option ℕ) → o ≡ place_at places s → unwrap_or (option_map (block_at blocks) o) zeros ≡ unwrap_or (block_in (blocks_of places blocks) s) zeros
its_block places blocks s o is = rw (is, block_in-blocks_of places blocks s) refl

whole_of : (places : List (ℕ × ℕ)) (blocks : List (List ℕ)) (s : ℕ) → AreOwn places blocks → (o : Option ℕ) → place_at places s ≡ o → length (unwrap_or (option_map (block_at blocks) o) zeros) ≡ 512
whole_of places blocks s own None is = length_zeros
whole_of places blocks s own (Some p) is = own.whole p (own.below s p is)

pub whole_block : (places : List (ℕ × ℕ)) (blocks : List (List ℕ)) (s : ℕ) → AreOwn places blocks → length (unwrap_or (block_in (blocks_of places blocks) s) zeros) ≡ 512
whole_block places blocks s own = rw (block_in-blocks_of places blocks s) (whole_of places blocks s own (place_at places s) refl)

still : (o : Option ℕ) (blocks : List (List ℕ)) → is_some (option_map (block_at blocks) o) ≡ is_some o
still None blocks = refl
still (Some p) blocks = refl

-- A sector has no block where it has no place.
pub same_none : (places : List (ℕ × ℕ)) (blocks : List (List ℕ)) (s : ℕ) (o : Option ℕ) → o ≡ place_at places s → is_some (block_in (blocks_of places blocks) s) ≡ is_some o
same_none places blocks s o is = rw (is, block_in-blocks_of places blocks s) (still (place_at places s) blocks)
