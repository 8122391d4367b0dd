use Rattle.std.proofs.Common.{refl}
use Rattle.sp_tables.specs.Factory.{pin_aces}
use Rattle.sp_tables.proofs.sp_rows.ace_tables.pin_entries.Goals as goal

pub returns : goal.returns
unfolding pin_aces
returns c = λ p. refl
