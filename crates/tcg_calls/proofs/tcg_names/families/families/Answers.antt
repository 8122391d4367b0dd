use Rattle.std.proofs.Common.{refl}
use Rattle.tcg_calls.specs.Objects.{of_numbers, of_ranges}
use Rattle.tcg_calls.proofs.tcg_names.families.families.Goals as goal

pub returns : goal.returns
unfolding of_numbers of_ranges
returns c = refl
