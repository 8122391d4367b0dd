use Rattle.std.proofs.Common.{◌≡◌, map, ◌++◌, drop}
use Rattle.std.specs.Prelude.{filter}
use Rattle.std.specs.List.{flat_map}
use Rattle.tcg_tokens.specs.Tree.{tree}
use Rattle.methods.specs.Columns.{columns_in}
use Rattle.methods.specs.Listed.{is_listed, shown_column, cell_value}
use Rattle.methods.proofs.lists.list_each.Given as goal

abbrev pub invariant-loop-column : goal.invariant-loop-column
invariant-loop-column g l =
    map tree l.values.items
    ++ map cell_value (flat_map (λ k. shown_column k (g.R.Rows.look_up l.rows l.sp l.object k)) (filter (is_listed (g.R.Rows.profile_of l.rows) (g.R.Rows.look_up l.rows) l.sp l.object l.first l.last l.held) (columns_in (drop l.column-index l.columns))))
    ≡ map cell_value (flat_map (λ k. shown_column k (g.R.Rows.look_up l.rows l.sp l.object k)) (filter (is_listed (g.R.Rows.profile_of l.rows) (g.R.Rows.look_up l.rows) l.sp l.object l.first l.last l.held) (columns_in l.columns)))
