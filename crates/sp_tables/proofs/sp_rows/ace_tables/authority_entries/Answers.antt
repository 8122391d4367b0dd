use Rattle.std.proofs.Common.{refl}
use Rattle.sp_tables.specs.Factory.{authority_aces}
use Rattle.sp_tables.proofs.sp_rows.ace_tables.authority_entries.Goals as goal

pub returns : goal.returns
unfolding authority_aces
returns c = λ p. refl
