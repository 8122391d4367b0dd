use Rattle.std.proofs.Common.{refl}
use Rattle.sp_tables.specs.Factory.{locking_pins}
use Rattle.sp_tables.proofs.sp_rows.families.locking_pin_entries.Goals as goal

pub returns : goal.returns
unfolding locking_pins
returns c = λ p. refl
