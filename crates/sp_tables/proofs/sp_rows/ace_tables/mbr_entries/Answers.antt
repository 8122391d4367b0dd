use Rattle.std.proofs.Common.{refl}
use Rattle.sp_tables.specs.Factory.{mbr_aces}
use Rattle.sp_tables.proofs.sp_rows.ace_tables.mbr_entries.Goals as goal

pub returns : goal.returns
unfolding mbr_aces
returns c = λ p. refl
