use Rattle.std.proofs.Common.{◌∙◌, ◌||◌, ap, sym, arith}
use Rattle.device_data.specs.Discovery.{has_lock, any_range_below}
use Rattle.device_data.proofs.Below.{any_range_below-next}
use Rattle.device_data.proofs.level0.is_locked.Goals as goal

pub loop-range-preserved : goal.loop-range-preserved
loop-range-preserved g c =
    c.or_locked-locked.ensures
    ∙ ap (λ b. b || has_lock (g.R.Rows.look_up c.args.rows.now) c.loop-range.range) c.loop-range.invariant
    ∙ sym (any_range_below-next (has_lock (g.R.Rows.look_up c.args.rows.now)) c.loop-range.range)

pub returns : goal.returns
returns g c = c.loop-range.invariant ∙ ap (any_range_below (has_lock (g.R.Rows.look_up c.args.rows.now))) (omega arith)
