use Rattle.std.proofs.Common.{refl}
use Rattle.basics.specs.declared.profile.Profile.TheVariants.{Base, Field, Opal}
use Rattle.sp_tables.specs.Factory.{opal_locking_aces}
use Rattle.sp_tables.proofs.sp_rows.ace_tables.opal_locking_entries.Goals as goal

pub returns : goal.returns
unfolding opal_locking_aces
returns c = elim [ Base ↦ refl | Field ↦ refl | Opal ↦ refl ]
