use Rattle.std.proofs.Common.{refl}
use Rattle.basics.specs.declared.profile.Profile.TheVariants.{Base, Field, Opal}
use Rattle.sp_tables.specs.Factory.{admin_authorities, label_authorities, opal_authorities}
use Rattle.sp_tables.proofs.sp_rows.families.admin_authority_entries.Goals as goal

pub returns : goal.returns
unfolding admin_authorities label_authorities opal_authorities
returns c = elim [ Base ↦ refl | Field ↦ refl | Opal ↦ refl ]
