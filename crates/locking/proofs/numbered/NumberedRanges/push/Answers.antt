use Rattle.std.proofs.Common.{arith, refl}
use Rattle.locking.proofs.Searches.{rises}
use Rattle.locking.proofs.Insertions.{added, skipped}
use Rattle.locking.proofs.numbered.NumberedRanges.push.Goals as goal

pub add_start-requires-clause-rising : goal.add_start-requires-clause-rising
add_start-requires-clause-rising c = rises _ _ c.self.invariant.0 c.args.row

pub invariant_of-self : goal.invariant_of-self
invariant_of-self c =
    let rows = c.add_row-place.ensures.added in
    let wider = c.add_row-place.ensures.capacity in
    let wide = c.add_start.ensures.capacity in (
      rw rows (added _ _ _ c.args.row _ refl c.add_row-place.ensures.place c.if-row-gt0.true c.self.invariant.0 c.add_start.ensures.added (rw c.self.view_is c.requires.apart)),
      omega (arith, c.self.invariant.1),
      omega (arith, c.self.invariant.2),
    )

pub invariant_of-self-else-row-gt0 : goal.invariant_of-self-else-row-gt0
invariant_of-self-else-row-gt0 c =
    let rows = c.add_row-place.ensures.added in
    let wider = c.add_row-place.ensures.capacity in (
      rw rows (skipped _ _ c.args.row (omega (arith, c.if-row-gt0.false)) c.self.invariant.0),
      omega (arith, c.self.invariant.1),
      c.self.invariant.2,
    )
