-- The blocks after those of the sectors that are erased were made zeros.
use Rattle.std.proofs.Common.{◌≡◌, ℕ, ◌+◌, ◌<◌, ◌≤◌, ◌≢◌, Bool, true, false, List, [], ◌∷◌, ◌++◌, length, take, drop, get_or, set, ◌*◌, refl, ap, sym, ◌∙◌, arith, inl, inr, nat_cmp, Option, Some, None}
use Rattle.std.specs.Prelude.{if◌then◌else◌, unwrap_or, option_map}
use Rattle.std.specs.List.{AllByRecursion}
use Rattle.std.specs.List.Sorted.{IsStrictlySortedBy}
use Rattle.std.specs.Map.{keys_of}
use Rattle.std.specs.declared.cmp.Ordering.TheVariants.{Less}
use Rattle.std.proofs.lemmas.Bool.{cases_lt, cases_eq, cases_Bool}
use Rattle.std.proofs.lemmas.List.{get_or-set_same, get_or-set_other, get_or_past, set_past, length-set, drop_more, drop_all, take_all}
use Rattle.shadow_mbr.specs.Stored.{block_in, zeros}
use Rattle.shadow_mbr.specs.Places.{placed_from, placed_in, place_at, block_at, blocks_of, AreOwn}
use Rattle.shadow_mbr.specs.Erasure.{block_erased, blocks_erased}
use Rattle.shadow_mbr.proofs.Zeros.{length_zeros}
use Rattle.shadow_mbr.proofs.Groups.{less_than}
use Rattle.shadow_mbr.proofs.Blocks.{block_in-blocks_of, head_is, tail_is}

-- those of one list behind another
both_erased : (p : ℕ → Bool) (a b : List (ℕ × ℕ)) (blocks : List (List ℕ)) → blocks_erased p (a ++ b) blocks ≡ blocks_erased p b (blocks_erased p a blocks)
unfolding blocks_erased
both_erased p [] b blocks = refl
both_erased p (e ∷ a) b blocks = both_erased p a b (block_erased p e.0 (Some e.1) blocks)

-- one sector of a group, and then the rest of it
next_erased : (p : ℕ → Bool) (first : ℕ) (place : Option ℕ) (rest : List (Option ℕ)) (blocks : List (List ℕ)) → blocks_erased p (placed_from first (place ∷ rest)) blocks ≡ blocks_erased p (placed_from (first + 1) rest) (block_erased p first place blocks)
unfolding placed_from blocks_erased
next_erased p first None rest blocks = refl
next_erased p first (Some place) rest blocks = refl

-- the sectors of a group one after another
pub group_goes_on : (p : ℕ → Bool) (first i : ℕ) (group : List (Option ℕ)) (place : Option ℕ) (blocks new : List (List ℕ)) → i < length group → place ≡ get_or group i None → new ≡ block_erased p (first + i) place blocks → blocks_erased p (placed_from (first + (i + 1)) (drop (i + 1) group)) new ≡ blocks_erased p (placed_from (first + i) (drop i group)) blocks
group_goes_on p first i group place blocks new lt is made =
    let rest : drop i group ≡ place ∷ drop (i + 1) group = drop_more group i None lt ∙ ap (λ (o : Option ℕ). o ∷ drop (i + 1) group) (sym is) in
    let next : first + (i + 1) ≡ first + i + 1 = omega arith in
    ap (λ (n : ℕ). blocks_erased p (placed_from n (drop (i + 1) group)) new) next
    ∙ ap (λ (bs : List (List ℕ)). blocks_erased p (placed_from (first + i + 1) (drop (i + 1) group)) bs) made
    ∙ sym (next_erased p (first + i) place (drop (i + 1) group) blocks)
    ∙ ap (λ (os : List (Option ℕ)). blocks_erased p (placed_from (first + i) os) blocks) (sym rest)

pub group_begins : (p : ℕ → Bool) (first : ℕ) (group : List (Option ℕ)) (blocks : List (List ℕ)) → blocks_erased p (placed_from (first + 0) (drop 0 group)) blocks ≡ blocks_erased p (placed_from first group) blocks
group_begins p first group blocks = ap (λ (n : ℕ). blocks_erased p (placed_from n group) blocks) (omega arith)

pub group_ends : (p : ℕ → Bool) (first i : ℕ) (group : List (Option ℕ)) (blocks : List (List ℕ)) → length group ≤ i → blocks_erased p (placed_from (first + i) (drop i group)) blocks ≡ blocks
unfolding placed_from blocks_erased
group_ends p first i group blocks all = ap (λ (os : List (Option ℕ)). blocks_erased p (placed_from (first + i) os) blocks) (drop_all i group all)

-- the groups one after another
pub groups_go_on : (p : ℕ → Bool) (number first : ℕ) (group : List (Option ℕ)) (rest : List (ℕ × List (Option ℕ))) (blocks new : List (List ℕ)) → first ≡ number * 16 → length group ≤ 16 → new ≡ blocks_erased p (placed_from first group) blocks → blocks_erased p (placed_in rest) new ≡ blocks_erased p (placed_in ((number, group) ∷ rest)) blocks
unfolding placed_in
groups_go_on p number first group rest blocks new begins long made =
    let at : first ≡ 16 * number = omega arith in
    let whole : take 16 group ≡ group = take_all 16 group (omega arith) in
    ap (λ (bs : List (List ℕ)). blocks_erased p (placed_in rest) bs)
    (made ∙ ap (λ (n : ℕ). blocks_erased p (placed_from n group) blocks) at ∙ ap (λ (os : List (Option ℕ)). blocks_erased p (placed_from (16 * number) os) blocks) (sym whole))
    ∙ sym (both_erased p (placed_from (16 * number) (take 16 group)) (placed_in rest) blocks)

pub groups_end : (p : ℕ → Bool) (rest : List (ℕ × List (Option ℕ))) (blocks : List (List ℕ)) → rest ≡ [] → blocks_erased p (placed_in rest) blocks ≡ blocks
unfolding placed_in blocks_erased
groups_end p rest blocks none = ap (λ (gs : List (ℕ × List (Option ℕ))). blocks_erased p (placed_in gs) blocks) none

-- each of these sectors has its place
abbrev ArePlaced : List (ℕ × ℕ) → List (ℕ × ℕ) → Type 0
ArePlaced places [] = Unit {0}
ArePlaced places (e ∷ es) = (place_at places e.0 ≡ Some e.1) × ArePlaced places es

placed_behind : (e : ℕ × ℕ) (es xs : List (ℕ × ℕ)) → AllByRecursion (λ y. nat_cmp e.0 y ≡ Less) (keys_of xs) → ArePlaced es xs → ArePlaced (e ∷ es) xs
placed_behind e es [] above placed = tt
placed_behind e es (x ∷ xs) above placed =
    let more : e.0 + 1 ≤ x.0 = less_than e.0 x.0 above.0 in
    (tail_is x.0 e es (λ same. absurd (omega arith)) ∙ placed.0, placed_behind e es xs above.1 placed.1)

are_placed : (places : List (ℕ × ℕ)) → IsStrictlySortedBy nat_cmp (keys_of places) → ArePlaced places places
unfolding IsStrictlySortedBy
are_placed [] sorted = tt
are_placed (e ∷ es) sorted = (head_is e es, placed_behind e es es sorted.0 (are_placed es sorted.1))

-- a block whose sector is not erased
stays_here : (p : ℕ → Bool) (blocks : List (List ℕ)) (sector place q : ℕ) → (p sector ≡ true → q ≢ place) → block_at (block_erased p sector (Some place) blocks) q ≡ block_at blocks q
stays_here p blocks sector place q apart =
    elim (cases_Bool (p sector)) [
      | inl is ↦ rw is (get_or-set_other blocks place q zeros zeros (apart is))
      | inr not ↦ rw not refl
    ]

clash : {A : Type 0} → true ≡ false → A
clash h = cc

stays : (p : ℕ → Bool) (places es : List (ℕ × ℕ)) (blocks : List (List ℕ)) (s q : ℕ) → ((s t place : ℕ) → place_at places s ≡ Some place → place_at places t ≡ Some place → s ≡ t) → place_at places s ≡ Some q → p s ≡ false → ArePlaced places es → block_at (blocks_erased p es blocks) q ≡ block_at blocks q
unfolding blocks_erased
stays p places [] blocks s q apart there not placed = refl
stays p places (e ∷ es) blocks s q apart there not placed =
    stays p places es (block_erased p e.0 (Some e.1) blocks) s q apart there not placed.1
    ∙ stays_here p blocks e.0 e.1 q
    (λ is same. clash (sym is ∙ ap p (apart e.0 s q (placed.0 ∙ ap (λ n. Some n) (sym same)) there) ∙ not))

-- a block of zeros stays one
zeros_here : (p : ℕ → Bool) (blocks : List (List ℕ)) (sector place q : ℕ) → block_at blocks q ≡ zeros → block_at (block_erased p sector (Some place) blocks) q ≡ zeros
zeros_here p blocks sector place q is =
    elim (cases_Bool (p sector)) [
      | inr not ↦ rw not is
      | inl erased ↦ rw erased (elim (cases_eq q place) [
        | inr apart ↦ get_or-set_other blocks place q zeros zeros apart ∙ is
        | inl same ↦ rw same (elim (cases_lt place (length blocks)) [
          | inl within ↦ get_or-set_same blocks place zeros zeros within
          | inr past ↦ rw (set_past blocks place zeros past) (get_or_past blocks place zeros past)
        ])
      ])
    ]

zeros_stay : (p : ℕ → Bool) (es : List (ℕ × ℕ)) (blocks : List (List ℕ)) (q : ℕ) → block_at blocks q ≡ zeros → block_at (blocks_erased p es blocks) q ≡ zeros
unfolding blocks_erased
zeros_stay p [] blocks q is = is
zeros_stay p (e ∷ es) blocks q is = zeros_stay p es (block_erased p e.0 (Some e.1) blocks) q (zeros_here p blocks e.0 e.1 q is)

-- a block whose sector is erased
cleared : (p : ℕ → Bool) (blocks : List (List ℕ)) (sector place : ℕ) → p sector ≡ true → block_at (block_erased p sector (Some place) blocks) place ≡ zeros
cleared p blocks sector place is =
    rw is (elim (cases_lt place (length blocks)) [
      | inl within ↦ get_or-set_same blocks place zeros zeros within
      | inr past ↦ rw (set_past blocks place zeros past) (get_or_past blocks place zeros past)
    ])

become_zeros : (p : ℕ → Bool) (es : List (ℕ × ℕ)) (blocks : List (List ℕ)) (s q : ℕ) → p s ≡ true → place_at es s ≡ Some q → block_at (blocks_erased p es blocks) q ≡ zeros
unfolding blocks_erased
become_zeros p [] blocks s q is there = cc
become_zeros p (e ∷ es) blocks s q is there =
    elim (cases_eq s e.0) [
      | inl same ↦
          let found : Some e.1 ≡ Some q = sym (head_is e es) ∙ ap (place_at (e ∷ es)) (sym same) ∙ there in
          let here : e.1 ≡ q = cc in
          zeros_stay p es (block_erased p e.0 (Some e.1) blocks) q
          (ap (block_at (block_erased p e.0 (Some e.1) blocks)) (sym here) ∙ cleared p blocks e.0 e.1 (ap p (sym same) ∙ is))
      | inr apart ↦ become_zeros p es (block_erased p e.0 (Some e.1) blocks) s q is (sym (tail_is s e es apart) ∙ there)
    ]

-- as many blocks, and whole ones
same_here : (p : ℕ → Bool) (sector place : ℕ) (blocks : List (List ℕ)) → length (block_erased p sector (Some place) blocks) ≡ length blocks
same_here p sector place blocks =
    elim (cases_Bool (p sector)) [
      | inl is ↦ rw is (length-set blocks place zeros)
      | inr not ↦ rw not refl
    ]

same_length : (p : ℕ → Bool) (es : List (ℕ × ℕ)) (blocks : List (List ℕ)) → length (blocks_erased p es blocks) ≡ length blocks
unfolding blocks_erased
same_length p [] blocks = refl
same_length p (e ∷ es) blocks = same_length p es (block_erased p e.0 (Some e.1) blocks) ∙ same_here p e.0 e.1 blocks

abbrev AreWhole : List (List ℕ) → Type 0
AreWhole blocks = (k : ℕ) → k < length blocks → length (block_at blocks k) ≡ 512

whole_set : (blocks : List (List ℕ)) (place : ℕ) → AreWhole blocks → AreWhole (set blocks place zeros)
whole_set blocks place whole k lt =
    let size : length (set blocks place zeros) ≡ length blocks = length-set blocks place zeros in
    let below : k < length blocks = omega arith in
    elim (cases_eq k place) [
      | inl same ↦ ap (λ (b : List ℕ). length b) (rw same (get_or-set_same blocks place zeros zeros (rw same at below))) ∙ length_zeros
      | inr apart ↦ ap (λ (b : List ℕ). length b) (get_or-set_other blocks place k zeros zeros apart) ∙ whole k below
    ]

whole_here : (p : ℕ → Bool) (sector place : ℕ) (blocks : List (List ℕ)) → AreWhole blocks → AreWhole (block_erased p sector (Some place) blocks)
whole_here p sector place blocks whole =
    elim (cases_Bool (p sector)) [
      | inl is ↦ rw is (whole_set blocks place whole)
      | inr not ↦ rw not whole
    ]

are_whole : (p : ℕ → Bool) (es : List (ℕ × ℕ)) (blocks : List (List ℕ)) → AreWhole blocks → AreWhole (blocks_erased p es blocks)
unfolding blocks_erased
are_whole p [] blocks whole = whole
are_whole p (e ∷ es) blocks whole = are_whole p es (block_erased p e.0 (Some e.1) blocks) (whole_here p e.0 e.1 blocks whole)

pub own_erased : (p : ℕ → Bool) (places : List (ℕ × ℕ)) (blocks : List (List ℕ)) → AreOwn places blocks → AreOwn places (blocks_erased p places blocks)
own_erased p places blocks own =
    let size : length (blocks_erased p places blocks) ≡ length blocks = same_length p places blocks in
    record {
      sorted = own.sorted;
      below = λ s place is. let lt : place < length blocks = own.below s place is in omega arith;
      apart = own.apart;
      whole = are_whole p places blocks own.whole;
    }

-- so each sector is zeros where it is erased, and else what it was
at_place : (p : ℕ → Bool) (places : List (ℕ × ℕ)) (blocks : List (List ℕ)) (s : ℕ) → AreOwn places blocks → (o : Option ℕ) → place_at places s ≡ o → unwrap_or (option_map (block_at (blocks_erased p places blocks)) o) zeros ≡ (if p s then zeros else unwrap_or (option_map (block_at blocks) o) zeros)
at_place p places blocks s own None is =
    elim (cases_Bool (p s)) [ inl erased ↦ rw erased refl | inr not ↦ rw not refl ]
at_place p places blocks s own (Some q) is =
    elim (cases_Bool (p s)) [
      | inl erased ↦ rw erased (become_zeros p places blocks s q erased is)
      | inr not ↦ rw not (stays p places places blocks s q own.apart is not (are_placed places own.sorted))
    ]

pub sector_erased : (p : ℕ → Bool) (places : List (ℕ × ℕ)) (blocks : List (List ℕ)) (s : ℕ) → AreOwn places blocks → unwrap_or (block_in (blocks_of places (blocks_erased p places blocks)) s) zeros ≡ (if p s then zeros else unwrap_or (block_in (blocks_of places blocks) s) zeros)
sector_erased p places blocks s own =
    rw (block_in-blocks_of places (blocks_erased p places blocks) s, block_in-blocks_of places blocks s)
    (at_place p places blocks s own (place_at places s) refl)
