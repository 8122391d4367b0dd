-- Reading and replacing a cell of a flat list.
use Rattle.std.proofs.Common.{◌≡◌, ◌==◌, true, List, [], ◌∷◌, ◌++◌, cond, Option, None, Some, refl, arith}
use Rattle.std.specs.Prelude.{is_some}
use Rattle.std.specs.Option.{option_or}
use Rattle.sp_cells.specs.declared.names.Uid.{Uid}
use Rattle.sp_cells.specs.declared.names.Column.{Column}
use Rattle.sp_cells.specs.declared.cells.Cell.{Cell}
use Rattle.sp_tables.specs.Items.{Item, item_at, with_item, column_at, with_column, row_items}

pub both_none : (a b : Option Cell) → option_or a b ≡ None → (a ≡ None) × (b ≡ None)
both_none None b h = (refl, h)
both_none (Some x) b h = cc

pub item_at-append : (xs ys : List Item) (o : Uid) (c : Column) → item_at (xs ++ ys) o c ≡ option_or (item_at xs o c) (item_at ys o c)
item_at-append [] ys o c = refl
item_at-append (x ∷ xs) ys o c = grind (arith, item_at-append xs ys o c)

pub with_item-append_found : (xs ys : List Item) (o : Uid) (c : Column) (v : Cell) → is_some (item_at xs o c) ≡ true → with_item (xs ++ ys) o c v ≡ with_item xs o c v ++ ys
with_item-append_found [] ys o c v h = cc
with_item-append_found (x ∷ xs) ys o c v h = grind (arith, with_item-append_found xs ys o c v)

pub with_item-append_absent : (xs ys : List Item) (o : Uid) (c : Column) (v : Cell) → item_at xs o c ≡ None → with_item (xs ++ ys) o c v ≡ xs ++ with_item ys o c v
with_item-append_absent [] ys o c v h = refl
with_item-append_absent (x ∷ xs) ys o c v h = grind (arith, with_item-append_absent xs ys o c v)

pub with_item-absent : (xs : List Item) (o : Uid) (c : Column) (v : Cell) → item_at xs o c ≡ None → with_item xs o c v ≡ xs
with_item-absent [] o c v h = refl
with_item-absent (x ∷ xs) o c v h = grind (arith, with_item-absent xs o c v)

-- a change that the second list can't take
pub with_item-append_left : (xs ys : List Item) (o : Uid) (c : Column) (v : Cell) → item_at ys o c ≡ None → with_item (xs ++ ys) o c v ≡ with_item xs o c v ++ ys
with_item-append_left [] ys o c v h = with_item-absent ys o c v h
with_item-append_left (x ∷ xs) ys o c v h = grind (arith, with_item-append_left xs ys o c v h)

-- a row is read by its columns
pub item_at-row : (ps : List (Column × Cell)) (ro o : Uid) (c : Column) → item_at (row_items ro ps) o c ≡ cond (ro.0 == o.0) (column_at ps c) None
item_at-row [] ro o c = grind arith
item_at-row (p ∷ ps) ro o c = grind (arith, item_at-row ps ro o c)

pub with_item-row : (ps : List (Column × Cell)) (ro o : Uid) (c : Column) (v : Cell) → (ro.0 == o.0) ≡ true → with_item (row_items ro ps) o c v ≡ row_items ro (with_column ps c v)
with_item-row [] ro o c v h = refl
with_item-row (p ∷ ps) ro o c v h = grind (arith, with_item-row ps ro o c v h)

-- tables that stand one behind the other
pub ruleset joined = (item_at-append, with_item-append_found, with_item-append_absent, with_item-absent)
