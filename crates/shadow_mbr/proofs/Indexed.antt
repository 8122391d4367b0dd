-- The numbers that stand beside the tree of all.
use Rattle.std.proofs.Common.{◌≡◌, ℕ, ◌<◌, ◌≢◌, List, [], ◌++◌, length, set, get_or, replicate, cond, Bool, Option, Some, None, nat_cmp, ap, sym, ◌∙◌, arith, inl, inr}
use Rattle.std.specs.Prelude.{unwrap_or}
use Rattle.std.specs.BTreeMap.{is_at}
use Rattle.std.proofs.lemmas.Bool.{cases_lt, cases_eq}
use Rattle.std.proofs.lemmas.List.{get_or-replicate, get_or_past, get_or-set_same, get_or-set_other, length-replicate, length-set}
use Rattle.shadow_mbr.specs.Places.{place_at, AreIndexed}
use Rattle.shadow_mbr.proofs.Numbers.{at_same, at_other}

pub none_indexed : (indexes : List (ℕ × ℕ)) → AreIndexed indexes []
none_indexed indexes i number index is =
    let nothing : Option (ℕ × ℕ) = None in
    let no : nothing ≡ Some (number, index) = sym (get_or_past [] i nothing (omega arith)) ∙ is in
    absurd cc

all_same : (n i : ℕ) → (let nothing : Option (ℕ × ℕ) = None in get_or (replicate n nothing) i nothing ≡ nothing)
all_same n i =
    let nothing : Option (ℕ × ℕ) = None in
    elim (cases_lt i n) [
      | inl below ↦ get_or-replicate n i nothing nothing below
      | inr past ↦ get_or_past (replicate n nothing) i nothing (omega (arith, length-replicate n nothing))
    ]

-- Places without a number are none.
pub places_made : (old new : List (Option (ℕ × ℕ))) (n : ℕ) → old ≡ [] → new ≡ old ++ replicate n None → (i : ℕ) → get_or new i None ≡ get_or old i None
places_made old new n none made i = rw (made, none) (all_same n i ∙ sym (get_or_past [] i None (omega arith)))

-- One number more, in its place.
pub more_indexed : (old new : List (ℕ × ℕ)) (was recent : List (Option (ℕ × ℕ))) (number index at : ℕ) → AreIndexed old was → ((i : ℕ) → get_or recent i None ≡ get_or was i None) → place_at old number ≡ None → ((n : ℕ) → place_at new n ≡ cond (is_at (nat_cmp number) n) (Some index) (place_at old n)) → AreIndexed new (set recent at (Some (number, index)))
more_indexed old new was recent number index at own same_as absent looks i n x is =
    let entry : Option (ℕ × ℕ) = Some (number, index) in
    elim (cases_eq i at) [
      | inl same ↦ elim (cases_lt at (length recent)) [
        | inl within ↦
            let found : entry ≡ Some (n, x) = sym (ap (λ (j : ℕ). get_or (set recent at entry) j None) same ∙ get_or-set_same recent at entry None within) ∙ is in
            let its : number ≡ n = ap (λ (o : Option (ℕ × ℕ)). (unwrap_or o (0, 0)).0) found in
            let there : index ≡ x = ap (λ (o : Option (ℕ × ℕ)). (unwrap_or o (0, 0)).1) found in
            looks n
            ∙ ap (λ (m : ℕ). cond (is_at (nat_cmp m) n) (Some index) (place_at old n)) its
            ∙ ap (λ (b : Bool). cond b (Some index) (place_at old n)) (at_same n)
            ∙ ap (λ (m : ℕ). Some m) there
        | inr past ↦
            let nothing : Option (ℕ × ℕ) = None in
            let no : nothing ≡ Some (n, x) = sym (get_or_past (set recent at entry) i nothing (omega (arith, length-set recent at entry))) ∙ is in
            absurd cc
      ]
      | inr apart ↦
          let found : place_at old n ≡ Some x = own i n x (sym (same_as i) ∙ sym (get_or-set_other recent at i entry None apart) ∙ is) in
          let other : n ≢ number = λ e. let no : None ≡ Some x = sym absent ∙ ap (place_at old) (sym e) ∙ found in cc in
          looks n ∙ ap (λ (b : Bool). cond b (Some index) (place_at old n)) (at_other number n other) ∙ found
    ]
