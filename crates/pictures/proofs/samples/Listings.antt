-- Lists of a function's values, one more at a time.
use Rattle.std.proofs.Common.{◌≡◌, ◌∙◌, ℕ, zero, suc, ◌+◌, ◌<◌, List, [], ◌∷◌, ◌++◌, ◌%◌, refl, ap, sym, add-one, arith}
use Rattle.pictures.specs.Lists.{values_below}

pub none_listed : {A : Type 0} (f : ℕ → A) → values_below f 0 ≡ []
unfolding values_below
none_listed f = refl

pub next_listed : {A : Type 0} (f : ℕ → A) (n : ℕ) → values_below f (n + 1) ≡ values_below f n ++ f n ∷ []
unfolding values_below
next_listed f n = ap (values_below f) (add-one n) ∙ refl

-- two functions that agree below the bound
pub listed_alike : {A : Type 0} (f g : ℕ → A) (n : ℕ) → ((k : ℕ) → k < n → f k ≡ g k)
    → values_below f n ≡ values_below g n
unfolding values_below
listed_alike f g zero same = refl
listed_alike f g (suc n) same =
    ap (λ xs. xs ++ f n ∷ []) (listed_alike f g n (λ k below. same k (omega arith)))
    ∙ ap (λ x. values_below g n ++ x ∷ []) (same n (omega arith))

-- one value more
pub listed_on : {A : Type 0} (f : ℕ → A) (n : ℕ) (before new : List A) (x : A)
    → before ≡ values_below f n → x ≡ f n → new ≡ before ++ x ∷ [] → new ≡ values_below f (n + 1)
listed_on f n before new x so is pushed =
    pushed ∙ ap (λ xs. xs ++ x ∷ []) so ∙ ap (λ y. values_below f n ++ y ∷ []) is
    ∙ sym (next_listed f n)

pub low : (tag : ℕ) → tag < 32 → tag % 32 ≡ tag
low tag below = omega (arith, below)
