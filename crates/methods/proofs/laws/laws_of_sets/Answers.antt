use Rattle.methods.proofs.SetLaws.{set_law, pin_law, store_law}
use Rattle.methods.proofs.laws.laws_of_sets.Goals as goal

pub returns : goal.returns
returns c = record {
  columns = set_law;
  pin = pin_law;
  stored = store_law;
}
