-- Small facts about data.
use Rattle.std.proofs.Common.{◌≡◌, ℕ, ◌+◌, List, [], ◌∷◌, ◌++◌, reverse, take, Result, Ok, ap, ◌∙◌}
use Rattle.std.proofs.lemmas.List.{reverse-append}

pub ok_same : {A E : Type 0} (a b : A) → ◌≡◌ {A = Result A E} (Ok a) (Ok b) → a ≡ b
ok_same a b e = cc

-- one item more, of a list that is read from its end
pub one_taken : {A : Type 0} (xs ys : List A) (i : ℕ) (x : A) → take (i + 1) xs ≡ take i xs ++ x ∷ []
    → reverse (take (i + 1) xs) ++ ys ≡ x ∷ (reverse (take i xs) ++ ys)
one_taken xs ys i x e =
    ap (λ l. reverse l ++ ys) e ∙ ap (λ l. l ++ ys) (reverse-append (take i xs) (x ∷ []))
