use Rattle.std.proofs.Common.{◌≡◌, ◌++◌, ◌∙◌, true, cond, [], ap, sym, arith}
use Rattle.std.specs.List.{flat_map}
use Rattle.sp_tables.specs.Runs.{run_items}
use Rattle.sp_tables.specs.Columns.{c_pin_columns}
use Rattle.sp_tables.specs.Factory.{has_opal, opal_pins}
use Rattle.sp_tables.proofs.sp_rows.field_rows.push_opal_pin.Goals as goal

pub returns : goal.returns
unfolding opal_pins
returns c =
    let has : has_opal c.args.profile ≡ true = grind (arith, c.has.ensures, c.if-not-has.false) in
    c.in_ok-push_pin.ensures ∙ ap (λ b. flat_map (run_items c_pin_columns) c.args.runs.now.items ++ cond b opal_pins []) (sym has)
