use Rattle.std.proofs.Common.{refl, sym, ◌∙◌}
use Rattle.sp_tables.specs.Halves.{half_items}
use Rattle.sp_tables.proofs.GivenLemmas.{some_meet, apart_given, range_apart}
use Rattle.sp_tables.proofs.restoring.joined.Goals as goal

pub invariant_of-result : goal.invariant_of-result
invariant_of-result c = apart_given c.args.config (half_items c.args.admin) (half_items c.args.locking) (sym c.any_meet.ensures ∙ c.if-any_meet.false)

pub returns-then-any_meet : goal.returns-then-any_meet
returns-then-any_meet c = some_meet (half_items c.args.locking) (sym c.any_meet.ensures ∙ c.if-any_meet.true)

pub returns : goal.returns
returns c = (range_apart (half_items c.args.locking) (sym c.any_meet.ensures ∙ c.if-any_meet.false), refl)
