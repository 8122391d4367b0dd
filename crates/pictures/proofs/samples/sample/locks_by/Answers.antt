use Rattle.std.proofs.Common.{◌∙◌, sym}
use Rattle.pictures.specs.Samples.{locks_by}
use Rattle.pictures.proofs.samples.Listings.{none_listed, listed_on}
use Rattle.pictures.proofs.samples.sample.locks_by.Goals as goal

pub loop-range-init : goal.loop-range-init
loop-range-init g c = c.new-locks.ensures.items ∙ sym (none_listed _)

pub loop-range-preserved : goal.loop-range-preserved
loop-range-preserved g c =
    listed_on (locks_by (g.R.Rows.look_up c.args.rows.now)) c.loop-range.range c.loop-range.locks.items
    c.push.new.self.items _ c.loop-range.invariant c.of.ensures c.in_ok-push.ensures.items
