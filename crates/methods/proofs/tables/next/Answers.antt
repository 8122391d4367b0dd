use Rattle.std.proofs.Common.{◌≡◌, ◌∙◌, ap, rules}
use Rattle.sp_cells.specs.Names.{table_of}
use Rattle.sp_tables.specs.RowNames.{rows_of_table}
use Rattle.methods.specs.Judgement.{rows_told}
use Rattle.methods.specs.Tables.{rows_asked}
use Rattle.methods.proofs.CallLemmas.{tells-as}
use Rattle.methods.proofs.tables.next.Goals as goal

pub returns-clause-tells : goal.returns-clause-tells
returns-clause-tells c =
    tells-as _ _ _ (ap (λ rows. rows_told c.args.room (rows_asked c.args.after c.args.count rows)) (c.deref.ensures.value ∙ c.in_ok-rows.ensures ∙ ap (rows_of_table c.args.sp) c.table.ensures)) c.in_ok-outcome.ensures
