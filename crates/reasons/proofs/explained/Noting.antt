-- The items of a list so far are made anew, and the others stay.
use Rattle.std.proofs.Common.{◌≡◌, ℕ, ◌+◌, ◌<◌, ◌≤◌, ◌==◌, List, length, slice_index_or, slice_set, if◌then◌else◌, ap, ◌∙◌, arith, inl, inr, eq-eqb}
use Rattle.std.proofs.lemmas.Grind.{common_steps}
use Rattle.std.proofs.lemmas.Bool.{cases_eq, ne_eqb}

abbrev pub AreAnew : {A : Type 0} → (ℕ → A → A) → A → List A → List A → ℕ → Type 0
AreAnew f d old now i =
    ((k : ℕ) → k < i → slice_index_or now k d ≡ f k (slice_index_or old k d)) × ((k : ℕ) → i ≤ k → slice_index_or now k d ≡ slice_index_or old k d)

item_set : {A : Type 0} (items : List A) (d : A) (i k : ℕ) (x : A) → i < length items → slice_index_or (slice_set items i x) k d ≡ (if i == k then x else slice_index_or items k d)
item_set items d i k x lt = grind (arith, common_steps)

pub one_anew : {A : Type 0} (f : ℕ → A → A) (d : A) (old now : List A) (i : ℕ) (x : A) → i < length now → x ≡ f i (slice_index_or now i d) → AreAnew f d old now i → AreAnew f d old (slice_set now i x) (i + 1)
one_anew f d old now i x lt is anew = (
  λ k below. elim (cases_eq i k) [
    | inl same ↦ item_set now d i k x lt ∙ rw (eq-eqb i k same) (is ∙ ap (f i) (anew.1 i (omega arith)) ∙ ap (λ (j : ℕ). f j (slice_index_or old j d)) same)
    | inr other ↦ item_set now d i k x lt ∙ rw (ne_eqb i k other) (anew.0 k (omega (arith, other)))
  ],
  λ k above. item_set now d i k x lt ∙ rw (ne_eqb i k (λ same. absurd (omega (arith, same)))) (anew.1 k (omega arith)),
)
