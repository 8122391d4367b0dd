use Rattle.std.proofs.Common.{◌≡◌, ◌<◌, ℕ, false}
use Rattle.hba.specs.declared.work.Work.TheVariants as works
use Rattle.hba.specs.Ready.{is_ready_on}
use Rattle.hba.proofs.hba.Hba.first_completion.Given as goal

abbrev pub invariant-loop-number : goal.invariant-loop-number
invariant-loop-number l =
    (n : ℕ) → n < l.number → is_ready_on l.self (works.Complete n) ≡ false
