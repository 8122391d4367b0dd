-- The sectors that have a place, listed one after another.
use Rattle.std.proofs.Common.{◌≡◌, ℕ, suc, ◌+◌, ◌*◌, ◌<◌, ◌≤◌, List, [], ◌∷◌, ◌++◌, length, take, get_or, ap, sym, ◌∙◌, arith, append_assoc, Option, Some, None}
use Rattle.std.specs.Map.{keys_of}
use Rattle.std.proofs.lemmas.List.{append-nil, map-append, take_more, take_all, length-take-le, get_or_past}
use Rattle.shadow_mbr.specs.Places.{placed_from, placed_in, group_at}

keys-append : (a b : List (ℕ × ℕ)) → keys_of (a ++ b) ≡ keys_of a ++ keys_of b
keys-append a b = map-append (λ (e : ℕ × ℕ). e.0) a b

placed-append : (first : ℕ) (a b : List (Option ℕ)) → placed_from first (a ++ b) ≡ placed_from first a ++ placed_from (first + length a) b
unfolding placed_from
placed-append first [] b = ap (λ (n : ℕ). placed_from n b) (omega arith)
placed-append first (None ∷ a) b =
    let next : first + 1 + length a ≡ first + suc (length a) = omega arith in
    placed-append (first + 1) a b ∙ ap (λ (n : ℕ). placed_from (first + 1) a ++ placed_from n b) next
placed-append first (Some p ∷ a) b =
    let next : first + 1 + length a ≡ first + suc (length a) = omega arith in
    let e : ℕ × ℕ = (first, p) in
    ap (λ (es : List (ℕ × ℕ)). e ∷ es) (placed-append (first + 1) a b ∙ ap (λ (n : ℕ). placed_from (first + 1) a ++ placed_from n b) next)

-- no sector of a group yet
pub none_listed : (first : ℕ) (group : List (Option ℕ)) (old : List ℕ) → old ≡ old ++ keys_of (placed_from first (take 0 group))
unfolding placed_from
none_listed first group old = sym (append-nil old)

-- one more
pub one_listed : (first i : ℕ) (group : List (Option ℕ)) (place : Option ℕ) (old now new : List ℕ) → i < length group → place ≡ get_or group i None → now ≡ old ++ keys_of (placed_from first (take i group)) → new ≡ now ++ keys_of (placed_from (first + i) (place ∷ [])) → new ≡ old ++ keys_of (placed_from first (take (i + 1) group))
one_listed first i group place old now new lt is had made =
    let long : length (take i group) ≡ i = length-take-le i group (omega arith) in
    let more : take (i + 1) group ≡ take i group ++ (place ∷ []) = take_more group i None lt ∙ ap (λ (o : Option ℕ). take i group ++ (o ∷ [])) (sym is) in
    let split : keys_of (placed_from first (take (i + 1) group)) ≡ keys_of (placed_from first (take i group)) ++ keys_of (placed_from (first + i) (place ∷ [])) =
    ap (λ (os : List (Option ℕ)). keys_of (placed_from first os)) more
    ∙ ap (λ (es : List (ℕ × ℕ)). keys_of es) (placed-append first (take i group) (place ∷ []))
    ∙ ap (λ (n : ℕ). keys_of (placed_from first (take i group) ++ placed_from (first + n) (place ∷ []))) long
    ∙ keys-append (placed_from first (take i group)) (placed_from (first + i) (place ∷ [])) in
    made
    ∙ ap (λ (xs : List ℕ). xs ++ keys_of (placed_from (first + i) (place ∷ []))) had
    ∙ append_assoc old (keys_of (placed_from first (take i group))) (keys_of (placed_from (first + i) (place ∷ [])))
    ∙ ap (λ (xs : List ℕ). old ++ xs) (sym split)

-- all of them
pub all_listed : (first i : ℕ) (group : List (Option ℕ)) (old now : List ℕ) → length group ≤ i → now ≡ old ++ keys_of (placed_from first (take i group)) → now ≡ old ++ keys_of (placed_from first group)
all_listed first i group old now all had = had ∙ ap (λ (os : List (Option ℕ)). old ++ keys_of (placed_from first os)) (take_all i group all)

-- a group that is absent
pub past_listed : (first at : ℕ) (groups : List (List (Option ℕ))) (old : List ℕ) → length groups ≤ at → old ≡ old ++ keys_of (placed_from first (group_at groups at))
unfolding placed_from
past_listed first at groups old past = rw (get_or_past groups at [] past) (sym (append-nil old))

-- the groups one after another
pub groups_listed : (number first : ℕ) (group : List (Option ℕ)) (rest : List (ℕ × List (Option ℕ))) (now new : List ℕ) → first ≡ number * 16 → length group ≤ 16 → new ≡ now ++ keys_of (placed_from first group) → new ++ keys_of (placed_in rest) ≡ now ++ keys_of (placed_in ((number, group) ∷ rest))
unfolding placed_in
groups_listed number first group rest now new begins long made =
    let at : first ≡ 16 * number = omega arith in
    let whole : take 16 group ≡ group = take_all 16 group (omega arith) in
    ap (λ (xs : List ℕ). xs ++ keys_of (placed_in rest)) made
    ∙ append_assoc now (keys_of (placed_from first group)) (keys_of (placed_in rest))
    ∙ ap (λ (xs : List ℕ). now ++ xs)
    (sym (keys-append (placed_from first group) (placed_in rest))
    ∙ ap (λ (n : ℕ). keys_of (placed_from n group ++ placed_in rest)) at
    ∙ ap (λ (os : List (Option ℕ)). keys_of (placed_from (16 * number) os ++ placed_in rest)) (sym whole))

pub groups_all_listed : (rest : List (ℕ × List (Option ℕ))) (now : List ℕ) → rest ≡ [] → now ++ keys_of (placed_in rest) ≡ now
unfolding placed_in
groups_all_listed rest now none = ap (λ (gs : List (ℕ × List (Option ℕ))). now ++ keys_of (placed_in gs)) none ∙ append-nil now
