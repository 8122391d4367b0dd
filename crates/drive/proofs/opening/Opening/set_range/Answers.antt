use Rattle.std.proofs.Common.{[], ◌∷◌, refl}
use Rattle.sp_cells.specs.ColumnNames.{range_start_column, range_length_column, read_lock_enabled_column, write_lock_enabled_column, read_locked_column, write_locked_column}
use Rattle.sp_cells.specs.declared.cells.Cell.TheVariants.{Number}
use Rattle.drive.proofs.Starts.{range-opens}
use Rattle.drive.proofs.opening.Opening.set_range.Goals as goal

pub invariant_of-self-2 : goal.invariant_of-self-2
invariant_of-self-2 c =
    let row = c.args.row.now in
    range-opens c.self.inside.tables row c.range.result
    ((range_start_column, Number row.start) ∷ (range_length_column, Number row.length)
    ∷ (read_lock_enabled_column, c.flag.result) ∷ (write_lock_enabled_column, c.flag-2.result)
    ∷ (read_locked_column, c.flag-3.result) ∷ (write_locked_column, c.flag-4.result) ∷ [])
    c.set_row.new.self c.range.ensures
    (rw (c.flag.ensures, c.flag-2.ensures, c.flag-3.ensures, c.flag-4.ensures) refl)
    c.in_ok-set_row.ensures.ok c.in_ok-set_row.ensures.fault c.self.invariant
