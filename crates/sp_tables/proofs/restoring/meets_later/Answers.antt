use Rattle.std.proofs.Common.{refl, sym, ◌∙◌}
use Rattle.sp_cells.specs.declared.names.TheConstants.{RANGES}
use Rattle.sp_tables.specs.Faults.{any_to}
use Rattle.sp_tables.proofs.ChangeLemmas.{any_to-some}
use Rattle.sp_tables.proofs.restoring.meets_later.Goals as goal

pub loop-i-init : goal.loop-i-init
unfolding any_to
loop-i-init c = refl

pub returns-then-meets_as_later : goal.returns-then-meets_as_later
returns-then-meets_as_later c = sym (any_to-some RANGES _ c.loop-i.i c.loop-i-test.true (sym c.meets_as_later.ensures ∙ c.if-meets_as_later.true))
