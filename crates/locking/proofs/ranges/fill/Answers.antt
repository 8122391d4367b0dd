use Rattle.std.proofs.Common.{◌≡◌, ℕ, ◌+◌, ◌-◌, arith, ap, ◌∙◌}
use Rattle.sp_cells.specs.declared.names.TheConstants.{RANGES}
use Rattle.locking.specs.Ranges.{range_rows_from}
use Rattle.locking.proofs.Filling.{goes_on, has_room, next_is_apart}
use Rattle.locking.proofs.ranges.fill.Goals as goal

pub push-requires-clause-room : goal.push-requires-clause-room
push-requires-clause-room g c =
    has_room (g.R.Rows.look_up c.args.rows.now) c.loop-range.range c.loop-range.numbered (omega (arith, c.loop-range.auto.range)) (omega (arith, c.loop-range-test.true)) c.loop-range.invariant

pub push-requires-clause-apart : goal.push-requires-clause-apart
push-requires-clause-apart g c =
    rw c.row_of.ensures
    (next_is_apart (g.R.Rows.look_up c.args.rows.now) c.cell.ensures.apart c.loop-range.range c.loop-range.numbered (omega (arith, c.loop-range.auto.range)) (omega (arith, c.loop-range-test.true)) c.loop-range.invariant)

pub loop-range-preserved : goal.loop-range-preserved
loop-range-preserved g c =
    rw (c.push.ensures, c.row_of.ensures)
    (goes_on (g.R.Rows.look_up c.args.rows.now) c.loop-range.range c.loop-range.numbered (omega (arith, c.loop-range.auto.range)) c.loop-range.invariant)

pub returns : goal.returns
returns g c =
    let end : c.loop-range.range - 1 ≡ RANGES = omega (arith, c.loop-range.auto.range-end, c.loop-range-test.false) in
    c.loop-range.invariant ∙ ap (λ (n : ℕ). range_rows_from (g.R.Rows.look_up c.args.rows.now) 1 n) end
