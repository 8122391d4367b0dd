-- Numbered lines, one after the other.
use Rattle.std.proofs.Common.{◌≡◌, ℕ, ◌+◌, List, [], ◌∷◌, fold, refl, sym, ap, ◌∙◌}
use Rattle.tool.specs.Scripts.{ScriptLine, with_numbers}

-- a fold goes on by one line
pub goes_on : {A : Type 0} (f : A → ScriptLine → A) (now more whole : A) (n next : ℕ) (text : List ℕ) (lines rest : List (List ℕ))
    → next ≡ n + 1 → lines ≡ text ∷ rest → more ≡ f now (record { number = n + 1; text = text })
    → fold f now (with_numbers n lines) ≡ whole → fold f more (with_numbers next rest) ≡ whole
unfolding with_numbers
goes_on f now more whole n next text lines rest is_next is is_more kept =
    ap (λ m. fold f m (with_numbers next rest)) is_more
    ∙ ap (λ k. fold f (f now (record { number = n + 1; text = text })) (with_numbers k rest)) is_next
    ∙ sym (ap (λ ls. fold f now (with_numbers n ls)) is)
    ∙ kept

-- none is left
pub none_left : (lines : List (List ℕ)) (n : ℕ) → lines ≡ [] → with_numbers n lines ≡ []
unfolding with_numbers
none_left lines n none = ap (with_numbers n) none
