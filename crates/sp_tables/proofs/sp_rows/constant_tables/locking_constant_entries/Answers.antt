use Rattle.std.proofs.Common.{refl}
use Rattle.basics.specs.declared.profile.Profile.TheVariants.{Base, Field, Opal}
use Rattle.sp_tables.specs.Factory.{locking_constants}
use Rattle.sp_tables.proofs.sp_rows.constant_tables.locking_constant_entries.Goals as goal

pub returns : goal.returns
unfolding locking_constants
returns c = elim [ Base ↦ refl | Field ↦ refl | Opal ↦ refl ]
