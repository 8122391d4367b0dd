use Rattle.std.proofs.Common.{◌∙◌, ℕ, List, subst, sym}
use Rattle.saved.specs.Saved.{IsSaved}
use Rattle.saved.proofs.Injective.{same_drive_law}
use Rattle.saved.proofs.loading.load.Goals as goal

pub returns-clause-saved : goal.returns-clause-saved
returns-clause-saved c = subst (λ (t : List ℕ). IsSaved t c.in_ok-drive.drive) (sym c.deref.ensures.value ∙ c.in_ok-see_same.ensures) (c.in_ok-own.ensures c.in_ok-drive.ensures)

pub returns-clause-agrees : goal.returns-clause-agrees
returns-clause-agrees c = λ o acts k. same_drive_law c.args.text.now k.0 c.in_ok-drive.drive o acts k.1 (subst (λ (t : List ℕ). IsSaved t c.in_ok-drive.drive) (sym c.deref.ensures.value ∙ c.in_ok-see_same.ensures) (c.in_ok-own.ensures c.in_ok-drive.ensures)) k.2
