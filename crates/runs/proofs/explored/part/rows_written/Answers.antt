use Rattle.std.proofs.Common.{◌∙◌, sym, ap}
use Rattle.runs.specs.Rows.{row_written}
use Rattle.runs.proofs.explored.ReadRows.{stopped_at}
use Rattle.runs.proofs.explored.part.rows_written.Goals as goal

pub returns-in-None : goal.returns-in-None
returns-in-None c =
    stopped_at c.args.lines.now c.loop-line.line-index c.line-item.result c.loop-line.rows _ c.loop-line-test.true
    c.line-item.is (ap row_written (sym c.as_slice.ensures) ∙ sym c.in_ok-row.ensures ∙ c.in-None.is) c.loop-line.invariant
