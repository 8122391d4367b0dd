-- How a number compares.
use Rattle.std.proofs.Common.{◌≡◌, ℕ, ◌<◌, ◌≢◌, inl, inr, arith, true, false, refl, sym, nat_cmp}
use Rattle.std.specs.declared.cmp.Ordering.TheVariants.{Less, Equal, Greater}
use Rattle.std.specs.Cmp.{nat_cmp_is}
use Rattle.std.proofs.lemmas.Bool.{cases_lt}
use Rattle.std.specs.BTreeMap.{is_at}

pub at_less : (s k : ℕ) → s < k → is_at (nat_cmp s) k ≡ false
at_less s k lt = rw (sym (nat_cmp_is s k Less lt)) refl

pub at_same : (s : ℕ) → is_at (nat_cmp s) s ≡ true
at_same s = rw (sym (nat_cmp_is s s Equal refl)) refl

pub at_more : (s k : ℕ) → k < s → is_at (nat_cmp s) k ≡ false
at_more s k lt = rw (sym (nat_cmp_is s k Greater lt)) refl

pub at_other : (s k : ℕ) → k ≢ s → is_at (nat_cmp s) k ≡ false
at_other s k apart =
    elim (cases_lt s k) [
      | inl lt ↦ at_less s k lt
      | inr le ↦ at_more s k (omega arith)
    ]
