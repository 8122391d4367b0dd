use Rattle.std.proofs.Common.{refl}
use Rattle.basics.specs.declared.profile.Profile.TheVariants.{Base, Field, Opal}
use Rattle.sp_tables.specs.Factory.{admin_constants}
use Rattle.sp_tables.proofs.sp_rows.constant_tables.admin_constant_entries.Goals as goal

pub returns : goal.returns
unfolding admin_constants
returns c = elim [ Base ↦ refl | Field ↦ refl | Opal ↦ refl ]
