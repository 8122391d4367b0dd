use Rattle.std.proofs.Common.{◌∙◌, ap, sym, drop, suc}
use Rattle.std.proofs.lemmas.List.{at_drop_all}
use Rattle.std.proofs.Math.Seq.{drop-cons}
use Rattle.history.specs.Opening.{origin_after}
use Rattle.drive.proofs.Openings.{refused_row}
use Rattle.drive.proofs.drive.Drive.with_ranges.Goals as goal

pub returns-in-Err-clause-err : goal.returns-in-Err-clause-err
returns-in-Err-clause-err c =
    refused_row _ (drop (suc c.loop-row.row-index) c.args.rows.now) c.loop-row.opening _ c.in-Err.error
    (ap (λ rest. origin_after rest c.loop-row.opening) (sym (drop-cons c.args.rows.now c.loop-row.row-index _ c.loop-row-test.true)) ∙ c.loop-row.invariant)
    c.in-Err.ensures.fault

pub returns-clause-agrees : goal.returns-clause-agrees
returns-clause-agrees c = (
  c.loop-row.opening,
  sym c.loop-row.invariant ∙ at_drop_all (λ rest. origin_after rest c.loop-row.opening) c.args.rows.now c.loop-row.row-index c.loop-row-test.false,
  c.in_ok-into_drive.ensures,
)
