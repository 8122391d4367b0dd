-- One act more.
use Rattle.std.proofs.Common.{◌≡◌, ℕ, ◌+◌, ◌%◌, ◌^◌, List, ◌∷◌, length, arith, ap, ◌∙◌}
use Rattle.history.specs.History.{Act}
use Rattle.hba.specs.History.{act_count}

-- counting wraps
wraps : (n : ℕ) → (n % 2 ^ 64 + 1) % 2 ^ 64 ≡ (n + 1) % 2 ^ 64
wraps n = grind arith

pub one_more : (list : List Act) (act : Act) (count : ℕ) → count ≡ act_count list
    → (count + 1) % 2 ^ 64 ≡ act_count (act ∷ list)
one_more list act count e = ap (λ (n : ℕ). (n + 1) % 2 ^ 64) e ∙ wraps (length list) ∙ grind arith
