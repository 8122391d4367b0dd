-- Named values, read one after another.
use Rattle.std.proofs.Common.{◌≡◌, ℕ, Bool, true, false, ◌&&◌, ◌||◌, List, [], ◌∷◌, ◌++◌, map, Option, None, Some, if◌then◌else◌, refl, ap, sym, append_assoc, arith, length, drop, get_or, ◌<◌, ◌+◌, add-one, Vec, Global}
use Rattle.std.specs.List.{filter_map}
use Rattle.std.proofs.lemmas.Bool.Decides.{nat_tests}
use Rattle.std.proofs.Math.Seq.{drop-cons}
use Rattle.tcg_tokens.specs.declared.value.Value.{Value, List as ListOf}
use Rattle.tcg_tokens.proofs.Trees.{tree_list}
use Rattle.tcg_tokens.specs.Tree.{Tree, tree, trees}
use Rattle.tcg_calls.specs.Named.{values_of, list_in, assigned, has_name, are_distinct, are_assigned}

pub has_name-append : (n : ℕ) (ps qs : List (ℕ × Tree)) → has_name n (ps ++ qs) ≡ (has_name n ps || has_name n qs)
has_name-append n [] qs = refl
has_name-append n (p ∷ ps) qs = grind (arith, nat_tests, has_name-append n ps qs)

pub distinct_more : (ps : List (ℕ × Tree)) (q : ℕ × Tree) → has_name q.0 ps ≡ false → are_distinct ps ≡ true → are_distinct (ps ++ q ∷ []) ≡ true
distinct_more [] q a d = refl
distinct_more (p ∷ ps) q a d = grind (arith, nat_tests, distinct_more ps q, has_name-append p.0 ps (q ∷ []))

pub taken_twice : (ps qs : List (ℕ × Tree)) (q : ℕ × Tree) → has_name q.0 ps ≡ true → are_distinct (ps ++ q ∷ qs) ≡ false
taken_twice [] qs q a = cc
taken_twice (p ∷ ps) qs q a = grind (arith, nat_tests, taken_twice ps qs q, has_name-append p.0 ps (q ∷ qs))

-- what the rest of the values assign behind those that were read
abbrev pub behind : List (ℕ × Tree) → List Tree → Option (List (ℕ × Tree))
behind ps ts = if are_assigned ts && are_distinct (ps ++ filter_map assigned ts) then Some (ps ++ filter_map assigned ts) else None

pub behind_none : (ps : List (ℕ × Tree)) (t : Tree) (ts : List Tree) → assigned t ≡ None → behind ps (t ∷ ts) ≡ None
behind_none ps t ts e = rw e refl

pub behind_more : (ps : List (ℕ × Tree)) (t : Tree) (ts : List Tree) (p : ℕ × Tree) → assigned t ≡ Some p → behind ps (t ∷ ts) ≡ behind (ps ++ p ∷ []) ts
behind_more ps t ts p e = rw e (rw (append_assoc ps (p ∷ []) (filter_map assigned ts)) refl)

and_false : (a b : Bool) → b ≡ false → (a && b) ≡ false
and_false true b e = e
and_false false b e = refl

pub behind_twice : (ps : List (ℕ × Tree)) (t : Tree) (ts : List Tree) (p : ℕ × Tree) → assigned t ≡ Some p → has_name p.0 ps ≡ true → behind ps (t ∷ ts) ≡ None
behind_twice ps t ts p e a = rw e (ap (λ b. if b then Some (ps ++ p ∷ filter_map assigned ts) else None) (and_false (are_assigned ts) (are_distinct (ps ++ p ∷ filter_map assigned ts)) (taken_twice ps (filter_map assigned ts) p a)))

-- the values from one on
pub trees_from : (vs : List Value) (i : ℕ) (v : Value) → i < length vs → v ≡ get_or vs i v → map tree (drop i vs) ≡ tree v ∷ map tree (drop (i + 1) vs)
trees_from vs i v lt e = rw (drop-cons vs i v) (rw (← e) (rw add-one refl))

pub read_none : (ps : List (ℕ × Tree)) (vs : List Value) (i : ℕ) (v : Value) → i < length vs → v ≡ get_or vs i v → assigned (tree v) ≡ None → behind ps (map tree (drop i vs)) ≡ None
read_none ps vs i v lt e h = rw (trees_from vs i v lt e) (behind_none ps (tree v) (map tree (drop (i + 1) vs)) h)

pub read_more : (ps : List (ℕ × Tree)) (vs : List Value) (i : ℕ) (v : Value) (p : ℕ × Tree) → i < length vs → v ≡ get_or vs i v → assigned (tree v) ≡ Some p → behind ps (map tree (drop i vs)) ≡ behind (ps ++ p ∷ []) (map tree (drop (i + 1) vs))
read_more ps vs i v p lt e h = rw (trees_from vs i v lt e) (behind_more ps (tree v) (map tree (drop (i + 1) vs)) p h)

pub read_twice : (ps : List (ℕ × Tree)) (vs : List Value) (i : ℕ) (v : Value) (p : ℕ × Tree) → i < length vs → v ≡ get_or vs i v → assigned (tree v) ≡ Some p → has_name p.0 ps ≡ true → behind ps (map tree (drop i vs)) ≡ None
read_twice ps vs i v p lt e h a = rw (trees_from vs i v lt e) (behind_twice ps (tree v) (map tree (drop (i + 1) vs)) p h a)

pub values_trees : (vs : List Value) → values_of (trees vs) ≡ map tree vs
values_trees [] = refl
values_trees (v ∷ vs) = ap (λ ts. tree v ∷ ts) (values_trees vs)

pub listed : (v : Value) (items : Vec Value Global) → v ≡ ListOf items → Some (map tree items.items) ≡ list_in (tree v)
listed v items e = rw (tree_list v items e) (ap (λ ts. Some ts) (sym (values_trees items.items)))
