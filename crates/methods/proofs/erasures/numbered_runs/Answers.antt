use Rattle.std.proofs.Common.{◌≡◌, ◌-◌, List, arith, ap, ◌∙◌}
use Rattle.arrayvec.specs.ArrayVec.{ArrayVec}
use Rattle.sp_cells.specs.declared.names.TheConstants.{RANGES}
use Rattle.shadow_mbr.specs.declared.erasure.Run.{Run}
use Rattle.methods.specs.Erasures.{runs_from, numbered_runs}
use Rattle.methods.proofs.ErasureLemmas.{has_room, more_runs}
use Rattle.methods.proofs.erasures.numbered_runs.Goals as goal

pub push-requires : goal.push-requires
push-requires g c = (omega arith, has_room (g.R.Rows.look_up c.args.rows.now) c.loop-range.range c.loop-range.runs.items (omega (arith, c.loop-range-test.true)) c.loop-range.invariant)

pub loop-range-preserved : goal.loop-range-preserved
loop-range-preserved g c =
    rw (c.push.ensures.items, c.run_of.ensures)
    (more_runs (g.R.Rows.look_up c.args.rows.now) c.loop-range.range c.loop-range.runs.items (omega (arith, c.loop-range.auto.range)) c.loop-range.invariant)

pub returns : goal.returns
unfolding numbered_runs
returns g c =
    let end : c.loop-range.range - 1 ≡ RANGES = omega (arith, c.loop-range.auto.range-end, c.loop-range-test.false) in
    ap (λ (xs : List Run). let runs : ArrayVec Run = record { items = xs } in runs)
    (c.loop-range.invariant ∙ ap (runs_from (g.R.Rows.look_up c.args.rows.now) 1) end)
