-- Cells that are listed one after another.
use Rattle.std.proofs.Common.{◌≡◌, ℕ, ◌+◌, ◌<◌, List, [], ◌∷◌, ◌++◌, map, take, length, get_or, refl, sym, ap, ◌∙◌, arith, append_assoc, append-nil}
use Rattle.std.specs.List.{flat_map}
use Rattle.std.proofs.lemmas.List.{take_more, length-take-le, map-append}
use Rattle.std.proofs.lemmas.List.Concat.{flat_map-append}
use Rattle.sp_cells.specs.declared.names.Uid.{Uid}
use Rattle.sp_cells.specs.declared.names.Column.{Column}
use Rattle.sp_cells.specs.declared.cells.Cell.{Cell}
use Rattle.sp_cells.specs.Names.{uid}
use Rattle.sp_tables.specs.Items.{Item, item_of, AddsItems, row_items, rows_from}
use Rattle.sp_tables.proofs.sp_rows.FamilyLemmas.{rows_from-push, flat_map-push}

-- one more cell
pub one_item : (old : List (Uid × Column × Cell)) (p : Uid × Column × Cell) → map item_of (old ++ p ∷ []) ≡ map item_of old ++ item_of p ∷ []
one_item old p = map-append item_of old (p ∷ [])

pub no_items : (old : List (Uid × Column × Cell)) → map item_of old ≡ map item_of old ++ []
no_items old = sym (append-nil (map item_of old))

-- these and those
pub more_items : (old now new : List (Uid × Column × Cell)) (xs ys : List Item) → AddsItems old now xs → AddsItems now new ys → AddsItems old new (xs ++ ys)
more_items old now new xs ys had made = made ∙ ap (λ (q : List Item). q ++ ys) had ∙ append_assoc (map item_of old) xs ys

-- the cells of one more row
pub rows_more : {R : Type 0} (f : R → List (Column × Cell)) (rows : List R) (first i : ℕ) (r : R) (name : Uid) (old now new : List (Uid × Column × Cell)) → i < length rows → r ≡ get_or rows i r → name ≡ uid (first + i) → AddsItems old now (rows_from f first (take i rows)) → AddsItems now new (row_items name (f r)) → AddsItems old new (rows_from f first (take (i + 1) rows))
rows_more f rows first i r name old now new lt is named had made =
    let long : length (take i rows) ≡ i = length-take-le i rows (omega arith) in
    let more : take (i + 1) rows ≡ take i rows ++ r ∷ [] = take_more rows i r lt ∙ ap (λ x. take i rows ++ x ∷ []) (sym is) in
    let split : rows_from f first (take (i + 1) rows) ≡ rows_from f first (take i rows) ++ row_items (uid (first + i)) (f r) = ap (rows_from f first) more ∙ rows_from-push f (take i rows) first i r long in
    more_items old now new (rows_from f first (take i rows)) (row_items (uid (first + i)) (f r)) had (made ∙ ap (λ (o : Uid). map item_of now ++ row_items o (f r)) named) ∙ ap (λ (q : List Item). map item_of old ++ q) (sym split)

-- the cells of one more run
pub runs_more : {R : Type 0} (f : R → List Item) (runs : List R) (i : ℕ) (r : R) (old now new : List (Uid × Column × Cell)) → i < length runs → r ≡ get_or runs i r → AddsItems old now (flat_map f (take i runs)) → AddsItems now new (f r) → AddsItems old new (flat_map f (take (i + 1) runs))
runs_more f runs i r old now new lt is had made =
    let more : take (i + 1) runs ≡ take i runs ++ r ∷ [] = take_more runs i r lt ∙ ap (λ x. take i runs ++ x ∷ []) (sym is) in
    let split : flat_map f (take (i + 1) runs) ≡ flat_map f (take i runs) ++ f r = ap (flat_map f) more ∙ flat_map-push f (take i runs) r in
    more_items old now new (flat_map f (take i runs)) (f r) had made ∙ ap (λ (q : List Item). map item_of old ++ q) (sym split)

pub ruleset listing = (one_item, append_assoc, append-nil)
