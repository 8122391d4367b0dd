-- Cells that are exchanged one after another.
use Rattle.std.proofs.Common.{◌≡◌, ℕ, ◌+◌, ◌<◌, Bool, true, false, List, ◌∷◌, ◌++◌, map, take, drop, length, get_or, set, refl, sym, ◌∙◌, ap, arith, append_assoc, add-one, drop-cons, length-drop, drop-set-lt, Option, Some, None, suc}
use Rattle.std.specs.Prelude.{is_some, unwrap_or}
use Rattle.std.specs.Bool.{OnTrue, OnFalse}
use Rattle.std.proofs.lemmas.List.{take_more_set, length-map}
use Rattle.sp_cells.specs.declared.names.Uid.{Uid}
use Rattle.sp_cells.specs.declared.names.Column.{Column}
use Rattle.sp_cells.specs.declared.cells.Cell.{Cell}
use Rattle.sp_tables.specs.Items.{Item, item_at, with_item, with_items, replaced}

-- what an exchange leaves in the cell
pub exchanged_value : (o : Option Cell) (found : Bool) (old new : Cell) → found ≡ is_some o → OnTrue found (o ≡ Some new) → OnFalse found (new ≡ old) → new ≡ unwrap_or o old
exchanged_value None true old new h t f = cc
exchanged_value None false old new h t f = f
exchanged_value (Some x) true old new h t f = cc
exchanged_value (Some x) false old new h t f = cc

drop_one : {A : Type 0} (xs : List A) (i : ℕ) (x : A) → i < length xs → x ≡ get_or xs i x → drop i xs ≡ x ∷ drop (i + 1) xs
drop_one xs i x lt at = rw add-one (drop-cons xs i x lt ∙ ap (λ y. y ∷ drop (suc i) xs) (sym at))

-- one more exchange
pub replaced_next : (cells : List Cell) (changes : List (Column × Cell)) (i : ℕ) (p : Column × Cell) (now next : List Item) (o : Uid) (v : Cell) → i < length changes → i < length cells → p ≡ get_or changes i p → v ≡ unwrap_or (item_at now o p.0) p.1 → next ≡ with_item now o p.0 p.1 → take (i + 1) (set cells i v) ++ replaced next o (drop (i + 1) changes) ≡ take i cells ++ replaced now o (drop i changes)
replaced_next cells changes i p now next o v lt lc at value step =
    rw (drop_one changes i p lt at, take_more_set cells i v lc, append_assoc, step, value) refl

pub with_items_next : (changes : List (Column × Cell)) (i : ℕ) (p : Column × Cell) (now next : List Item) (o : Uid) → i < length changes → p ≡ get_or changes i p → next ≡ with_item now o p.0 p.1 → with_items next o (drop (i + 1) changes) ≡ with_items now o (drop i changes)
with_items_next changes i p now next o lt at step = rw (drop_one changes i p lt at, step) refl

-- the cells that wait are the new ones
pub waiting_next : (cells : List Cell) (changes : List (Column × Cell)) (i : ℕ) (p : Column × Cell) (c v : Cell) → i < length changes → i < length cells → p ≡ get_or changes i p → c ≡ get_or cells i c → drop i cells ≡ map (λ q. q.1) (drop i changes) → (c ≡ p.1) × (drop (i + 1) (set cells i v) ≡ map (λ q. q.1) (drop (i + 1) changes))
waiting_next cells changes i p c v lt lc at atc w =
    let e : c ∷ drop (i + 1) cells ≡ p.1 ∷ map (λ q. q.1) (drop (i + 1) changes) = sym (drop_one cells i c lc atc) ∙ w ∙ ap (map (λ q. q.1)) (drop_one changes i p lt at) in
    let rest : drop (i + 1) cells ≡ map (λ q. q.1) (drop (i + 1) changes) = cc in
    ((cc), drop-set-lt (i + 1) cells i v (omega arith) ∙ rest)

-- as many wait as are left
pub waiting_within : (cells : List Cell) (changes : List (Column × Cell)) (i : ℕ) → i < length changes → drop i cells ≡ map (λ q. q.1) (drop i changes) → i < length cells
waiting_within cells changes i lt w =
    let e : length (drop i cells) ≡ length (drop i changes) = ap length w ∙ length-map (drop i changes) _ in
    omega (arith, e, length-drop i cells, length-drop i changes)
