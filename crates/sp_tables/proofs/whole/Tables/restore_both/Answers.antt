use Rattle.std.proofs.Common.{◌∙◌, ap}
use Rattle.sp_tables.specs.Halves.{half_items}
use Rattle.sp_tables.proofs.KeepLemmas.{apart-restored}
use Rattle.sp_tables.proofs.whole.Tables.restore_both.Goals as goal

pub invariant_of-self : goal.invariant_of-self
invariant_of-self c = apart-restored _ _ c.self.inside.config (ap half_items c.renew-2.ensures ∙ c.in_ok-halves.ensures.1)
