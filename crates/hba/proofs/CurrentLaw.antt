-- PxCMD.CCS, operation by operation.
use Rattle.std.proofs.Common.{ℕ, [], ◌∷◌, Some, None, refl, ap, ◌∙◌}
use Rattle.std.specs.Prelude.{if◌then◌else◌}
use Rattle.history.specs.History.{Accept, Complete}
use Rattle.hba.specs.Showing.{fetching, moved}
use Rattle.hba.specs.History.{Wrote, Powered, Signed, Missed, Controlled, Fetched, Completed, account, regs_of, effect_after, Asserted, Restarted, Unheard}
use Rattle.hba.specs.Laws.{clears_slot, CurrentLaw}
use Rattle.hba.proofs.Current.{served_current, written_current}

pub current_law : CurrentLaw
current_law o [] = refl
current_law o (Wrote offset value ∷ before) =
    written_current (regs_of o before) offset value
    ∙ ap (λ (n : ℕ). if clears_slot offset value then 0 else n) (current_law o before)
current_law o (Powered ∷ before) = refl
current_law o (Signed ∷ before) = current_law o before
current_law o (Missed None miss ∷ before) = current_law o before
current_law o (Missed (Some tag) miss ∷ before) = refl
current_law o (Controlled tag ∷ before) = refl
current_law o (Asserted tag ∷ before) = refl
current_law o (Restarted tag ∷ before) = refl
current_law o (Unheard tag ∷ before) = refl
current_law o (Fetched tag fis payload arrival ∷ before) =
    served_current arrival.missed tag (effect_after o (account o before) (Accept fis payload)).fises
    (moved arrival (fetching tag (regs_of o before)))
current_law o (Completed tag payload arrival ∷ before) =
    served_current arrival.missed tag (effect_after o (account o before) (Complete tag payload)).fises
    (moved arrival (regs_of o before))
    ∙ current_law o before
