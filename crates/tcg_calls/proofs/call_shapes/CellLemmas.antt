-- Values that are made, by what they are.
use Rattle.std.proofs.Common.{◌≡◌, ℕ, List as Seq, [], ◌∷◌, ◌++◌, map, length, drop, get_or, refl, ap, arith, Vec, Box, Global, Option, None, Some, is_some, Bool, true, false, if◌then◌else◌, ◌<◌, ◌≤◌, ◌+◌, suc, append_assoc, nat_le, sym, ◌∙◌, take, add-one}
use Rattle.std.proofs.lemmas.Bool.Decides.{nat_tests}
use Rattle.std.proofs.lemmas.List.{length-map, map-append}
use Rattle.std.proofs.Math.Seq.{take-suc}
use Rattle.std.specs.List.{list_all, filter_map}
use Rattle.sp_cells.specs.declared.cells.Cell.TheVariants.{Expr}
use Rattle.sp_cells.specs.declared.cells.Element.{Element}
use Rattle.tcg_calls.specs.CellValues.{each_of, element_in, expression_of}
use Rattle.tcg_calls.proofs.call_shapes.NamedLemmas.{trees_from}
use Rattle.tcg_tokens.specs.declared.value.Value.{Value, List, Named}
use Rattle.tcg_tokens.specs.Tree.{Tree, number, list, named, tree, trees}
use Rattle.sp_cells.specs.declared.names.Column.{Column}
use Rattle.tcg_tokens.proofs.Trees.{tree_list, tree_named}

pub tree_of_list : (items : Vec Value Global) → tree (List items) ≡ list (trees items.items)
tree_of_list items = tree_list (List items) items refl

pub tree_of_named : (both : Box (Value × Value) Global) → tree (Named both) ≡ named (tree both.value.0) (tree both.value.1)
tree_of_named both = tree_named (Named both) both refl

pub ruleset made = (tree_of_list, tree_of_named)

-- one more value of a list
pub values-step : {A : Type 0} (g : A → Tree) (vs new : Seq Value) (v : Value) (xs : Seq A) (i : ℕ) (d : A) → i < length xs → new ≡ vs ++ v ∷ [] → tree v ≡ g (get_or xs i d) → map tree vs ≡ map g (take i xs) → map tree new ≡ map g (take (i + 1) xs)
values-step g vs new v xs i d lt pushed is inv =
    let more : take (i + 1) xs ≡ take i xs ++ (get_or xs i d ∷ []) = rw (add-one i) (take-suc xs i d lt) in
    ap (map tree) pushed ∙ map-append tree vs (v ∷ []) ∙ ap (λ q. q ++ tree v ∷ []) inv ∙ ap (λ t. map g (take i xs) ++ t ∷ []) is ∙ sym (ap (map g) more ∙ map-append g (take i xs) (get_or xs i d ∷ []))

-- the numbers of columns
pub columns-as : (cs : Seq Column) → map (λ c. number c.0) cs ≡ map number (map (λ c. c.0) cs)
columns-as [] = refl
columns-as (c ∷ cs) = ap (λ q. number c.0 ∷ q) (columns-as cs)

-- what the rest of the values stand for behind those that were read
abbrev pub each_behind : {A : Type 0} → (Tree → Option A) → Seq A → Seq Tree → Option (Seq A)
each_behind f xs ts = if list_all (λ t. is_some (f t)) ts then Some (xs ++ filter_map f ts) else None

pub each_none : {A : Type 0} (f : Tree → Option A) (xs : Seq A) (vs : Seq Value) (i : ℕ) (v : Value) → i < length vs → v ≡ get_or vs i v → f (tree v) ≡ None → each_behind f xs (map tree (drop i vs)) ≡ None
each_none f xs vs i v lt e h = rw (trees_from vs i v lt e) (rw h refl)

pub each_more : {A : Type 0} (f : Tree → Option A) (xs : Seq A) (vs : Seq Value) (i : ℕ) (v : Value) (x : A) → i < length vs → v ≡ get_or vs i v → f (tree v) ≡ Some x → each_behind f xs (map tree (drop i vs)) ≡ each_behind f (xs ++ x ∷ []) (map tree (drop (i + 1) vs))
each_more f xs vs i v x lt e h = rw (trees_from vs i v lt e) (rw h (rw (append_assoc xs (x ∷ []) (filter_map f (map tree (drop (i + 1) vs)))) refl))

clash : false ≡ true → ⊥
clash h = cc

each_head : {A : Type 0} (f : Tree → Option A) (t : Tree) (ts : Seq Tree) (o : Option A) → f t ≡ o → list_all (λ t. is_some (f t)) (t ∷ ts) ≡ true → (list_all (λ t. is_some (f t)) ts ≡ true → length (filter_map f ts) ≡ length ts) → length (filter_map f (t ∷ ts)) ≡ suc (length ts)
each_head f t ts None e h rest = absurd (clash (rw e at h))
each_head f t ts (Some x) e h rest = rw e (ap suc (rest (rw e at h)))

-- as many as there are values
each_length : {A : Type 0} (f : Tree → Option A) (ts : Seq Tree) → list_all (λ t. is_some (f t)) ts ≡ true → length (filter_map f ts) ≡ length ts
each_length f [] h = refl
each_length f (t ∷ ts) h = each_head f t ts (f t) refl h (each_length f ts)

long_by : (most : ℕ) (ts : Seq Tree) (b : Bool) → list_all (λ t. is_some (element_in t)) ts ≡ b → most < length ts → expression_of most (if b then Some (filter_map element_in ts) else None) ≡ None
long_by most ts false e lt = refl
long_by most ts true e lt =
    let n : length (filter_map element_in ts) ≡ length ts = each_length element_in ts e in
    let over : nat_le (length (filter_map element_in ts)) most ≡ false = rw n (grind (arith, nat_tests)) in
    rw over refl

pub too_long : (most : ℕ) (vs : Seq Value) → most < length vs → expression_of most (each_of element_in (map tree vs)) ≡ None
too_long most vs lt = long_by most (map tree vs) (list_all (λ t. is_some (element_in t)) (map tree vs)) refl (rw length-map lt)

each_some : {A : Type 0} (f : Tree → Option A) (ts : Seq Tree) (b : Bool) (xs : Seq A) → list_all (λ t. is_some (f t)) ts ≡ b → Some xs ≡ (if b then Some (filter_map f ts) else None) → length xs ≡ length ts
each_some f ts false xs e h = cc h
each_some f ts true xs e h = ap length (here h) ∙ each_length f ts e where
  here : {A : Type 0} {a b : Seq A} → Some a ≡ Some b → a ≡ b
  here h = cc

-- an expression of no more elements than there may be
pub fits : (most : ℕ) (vs : Seq Value) (es : Seq Element) → length vs ≤ most → Some es ≡ each_of element_in (map tree vs) → Some (Expr es) ≡ expression_of most (each_of element_in (map tree vs))
fits most vs es le h =
    let n : length es ≡ length vs = each_some element_in (map tree vs) (list_all (λ t. is_some (element_in t)) (map tree vs)) es refl h ∙ length-map vs tree in
    let within : nat_le (length es) most ≡ true = rw n (grind (arith, nat_tests)) in
    rw (← h) (rw within refl)
