-- Rows with the same columns have the same cells.
use Rattle.std.proofs.Common.{◌≡◌, ℕ, List, [], ◌∷◌, ◌++◌, map, suc, refl, sym, ap, ◌∙◌}
use Rattle.sp_cells.specs.Names.{uid}
use Rattle.sp_cells.specs.declared.names.Column.{Column}
use Rattle.sp_cells.specs.declared.cells.Cell.{Cell}
use Rattle.sp_tables.specs.Items.{Item, row_items, rows_from}

-- the rows behind a number, by their columns
by_columns : ℕ → List (List (Column × Cell)) → List Item
by_columns first [] = []
by_columns first (c ∷ cs) = row_items (uid first) c ++ by_columns (suc first) cs

rows_by_columns : {R : Type 0} (f : R → List (Column × Cell)) (first : ℕ) (rows : List R) → rows_from f first rows ≡ by_columns first (map f rows)
unfolding by_columns
rows_by_columns f first [] = refl
rows_by_columns f first (r ∷ rs) = ap (λ q. row_items (uid first) (f r) ++ q) (rows_by_columns f (suc first) rs)

pub same_run : {R : Type 0} (f : R → List (Column × Cell)) (first : ℕ) (xs ys : List R) → map f xs ≡ map f ys → rows_from f first xs ≡ rows_from f first ys
same_run f first xs ys h = rows_by_columns f first xs ∙ ap (by_columns first) h ∙ sym (rows_by_columns f first ys)
