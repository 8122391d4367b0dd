use Rattle.std.proofs.Common.{◌≡◌, ◌∙◌, ℕ, ◌+◌, ◌<◌, Bool, true, false, List, ◌∷◌, ◌++◌, length, map, drop, get_or, refl, sym, ap, add-one, append_assoc, drop-cons, Vec, Global}
use Rattle.std.specs.Prelude.{filter}
use Rattle.std.specs.List.{flat_map}
use Rattle.std.proofs.lemmas.List.Concat.{flat_map-cons}
use Rattle.std.proofs.lemmas.List.{map-append}
use Rattle.sp_cells.specs.declared.names.Column.{Column}
use Rattle.sp_cells.specs.declared.cells.Cell.{Cell}
use Rattle.sp_cells.specs.declared.values.ColumnType.{ColumnType}
use Rattle.sp_cells.specs.declared.values.ColumnType.TheVariants.{Name}
use Rattle.tcg_tokens.specs.Tree.{Tree, tree}
use Rattle.tcg_tokens.specs.declared.value.Value.{Value}
use Rattle.methods.specs.Columns.{columns_in}
use Rattle.methods.specs.Listed.{is_listed, shown_column, cell_value}
use Rattle.methods.proofs.lists.list_each.Goals as goal
use Rattle.methods.proofs.lists.list_each.Goals.{then-is_listed+in_ok-show, else-is_listed}

columns_next : (ks : List (Column × ColumnType)) (i : ℕ) (d : Column × ColumnType) → i < length ks → columns_in (drop i ks) ≡ (get_or ks i d).0 ∷ columns_in (drop (i + 1) ks)
columns_next ks i d lt = rw add-one (ap columns_in (drop-cons ks i d lt))

shown : (cells : Column → List (Column × Cell)) (test : Column → Bool) (k : Column) (ks : List Column) (before after total : List Tree) → test k ≡ true → after ≡ before ++ map cell_value (cells k)
    → before ++ map cell_value (flat_map cells (filter test (k ∷ ks))) ≡ total → after ++ map cell_value (flat_map cells (filter test ks)) ≡ total
shown cells test k ks before after total is e h =
    let first : filter test (k ∷ ks) ≡ k ∷ filter test ks = rw is refl in
    let parts : map cell_value (flat_map cells (filter test (k ∷ ks))) ≡ map cell_value (cells k) ++ map cell_value (flat_map cells (filter test ks)) =
    ap (λ xs. map cell_value (flat_map cells xs)) first ∙ ap (map cell_value) (flat_map-cons cells k (filter test ks)) ∙ map-append cell_value (cells k) (flat_map cells (filter test ks)) in
    ap (λ xs. xs ++ map cell_value (flat_map cells (filter test ks))) e ∙ append_assoc before (map cell_value (cells k)) (map cell_value (flat_map cells (filter test ks))) ∙ ap (λ xs. before ++ xs) (sym parts) ∙ h

hidden : (cells : Column → List (Column × Cell)) (test : Column → Bool) (k : Column) (ks : List Column) (before after total : List Tree) → test k ≡ false → after ≡ before
    → before ++ map cell_value (flat_map cells (filter test (k ∷ ks))) ≡ total → after ++ map cell_value (flat_map cells (filter test ks)) ≡ total
hidden cells test k ks before after total is e h =
    let others : filter test (k ∷ ks) ≡ filter test ks = rw is refl in
    ap (λ xs. xs ++ map cell_value (flat_map cells (filter test ks))) e ∙ ap (λ xs. before ++ map cell_value (flat_map cells xs)) (sym others) ∙ h

pub loop-column-preserved : goal.loop-column-preserved
loop-column-preserved g c =
    let cells : Column → List (Column × Cell) = λ k. shown_column k (g.R.Rows.look_up c.args.rows.now c.args.sp c.args.object k) in
    let test : Column → Bool = is_listed (g.R.Rows.profile_of c.args.rows.now) (g.R.Rows.look_up c.args.rows.now) c.args.sp c.args.object c.args.first c.args.last c.args.held.now in
    let columns : List (Column × ColumnType) = c.args.columns.now in
    let none : Column × ColumnType = (record { 0 = 0 }, Name) in
    let k : Column = (get_or columns c.loop-column.column-index none).0 in
    let before : List Tree = map tree c.loop-column.values.items in
    let after : List Tree = map tree c.if-is_listed.values.items in
    let total : List Tree = map cell_value (flat_map cells (filter test (columns_in columns))) in
    let come : before ++ map cell_value (flat_map cells (filter test (k ∷ columns_in (drop (c.loop-column.column-index + 1) columns)))) ≡ total =
    ap (λ ks. before ++ map cell_value (flat_map cells (filter test ks))) (sym (columns_next columns c.loop-column.column-index none c.loop-column-test.true)) ∙ c.loop-column.invariant in
    elim c.if-is_listed.branch [
      | then-is_listed+in_ok-show w ↦
          shown cells test k (columns_in (drop (c.loop-column.column-index + 1) columns)) before after total (sym c.is_listed.ensures ∙ w.if-is_listed.true) (ap (λ (v : Vec Value Global). map tree v.items) w.values-is ∙ w.in_ok-show.ensures) come
      | else-is_listed w ↦
          hidden cells test k (columns_in (drop (c.loop-column.column-index + 1) columns)) before after total (sym c.is_listed.ensures ∙ w.if-is_listed.false) (ap (λ (v : Vec Value Global). map tree v.items) w.values-is) come
    ]
