-- Lists of values, in memory and by what they are.
use Rattle.std.proofs.Common.{◌≡◌, ℕ, zero, suc, ◌+◌, ◌<◌, List as Seq, [], ◌∷◌, ◌++◌, length, drop, get_or, add-one, arith, refl, ap, ◌∙◌, Vec, Box, Global, rules}
use Rattle.tcg_tokens.specs.declared.value.Value.{Value, List, the_lemmas}
use Rattle.tcg_tokens.specs.declared.value.Value as value
use Rattle.tcg_tokens.specs.Tree.{Trees, empty, more, number, bytes, list, named, tree, trees}

infixl 5 ◌+++◌
abbrev pub ◌+++◌ : Trees → Trees → Trees
empty +++ us = us
(more t ts) +++ us = more t (ts +++ us)

pub +++-empty : (ts : Trees) → ts +++ empty ≡ ts
+++-empty empty = refl
+++-empty (more t ts) = ap (λ (x : Trees). more t x) (+++-empty ts)

pub +++_assoc : (ts us vs : Trees) → (ts +++ us) +++ vs ≡ ts +++ (us +++ vs)
+++_assoc empty us vs = refl
+++_assoc (more t ts) us vs = ap (λ (x : Trees). more t x) (+++_assoc ts us vs)

pub trees_push : (vs : Seq Value) (v : Value) → trees (vs ++ v ∷ []) ≡ trees vs +++ more (tree v) empty
trees_push [] v = refl
trees_push (w ∷ vs) v = ap (λ (x : Trees). more (tree w) x) (trees_push vs v)

-- the values from one on
pub trees_drop : (vs : Seq Value) (i : ℕ) (v : Value) → i < length vs → v ≡ get_or vs i v → trees (drop i vs) ≡ more (tree v) (trees (drop (i + 1) vs))
trees_drop [] i v lt e = absurd (omega arith)
trees_drop (w ∷ vs) zero v lt e = rw e refl
trees_drop (w ∷ vs) (suc i) v lt e = rw add-one (trees_drop vs i v (omega arith) e ∙ rw add-one refl)

-- a list of values, where the value is known to be that list
pub tree_list : (v : Value) (items : Vec Value Global) → v ≡ List items → tree v ≡ list (trees items.items)
tree_list v items e = ap tree e ∙ search (rules, the_lemmas)

pub tree_number : (n : ℕ) → tree (value.Number n) ≡ number n
tree_number n = search (rules, the_lemmas)

pub tree_bytes : (b : Seq ℕ) → tree (value.Bytes b) ≡ bytes b
tree_bytes b = search (rules, the_lemmas)

-- a named value, where the value is known to be that
pub tree_named : (v : Value) (both : Box (Value × Value) Global) → v ≡ value.Named both → tree v ≡ named (tree both.value.0) (tree both.value.1)
tree_named v both e = ap tree e ∙ search (rules, the_lemmas)
