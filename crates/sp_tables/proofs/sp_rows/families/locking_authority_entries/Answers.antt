use Rattle.std.proofs.Common.{refl}
use Rattle.sp_tables.specs.Factory.{locking_authorities}
use Rattle.sp_tables.proofs.sp_rows.families.locking_authority_entries.Goals as goal

pub returns : goal.returns
unfolding locking_authorities
returns c = λ p. refl
