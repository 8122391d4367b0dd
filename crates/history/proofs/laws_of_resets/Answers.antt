-- By what each reader finds in the event.
use Rattle.std.proofs.Common.{refl}
use Rattle.history.proofs.laws_of_resets.Goals as goal

pub returns : goal.returns
returns c = λ o acts. refl
