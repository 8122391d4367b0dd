-- The slots of a port that did nothing.
use Rattle.std.proofs.Common.{◌≡◌, ℕ, ◌+◌, ◌<◌, ◌≤◌, ◌==◌, List, length, replicate, slice_index_or, slice_set, if◌then◌else◌, Option, None, ap, ◌∙◌, arith, inl, inr, eq-eqb}
use Rattle.std.proofs.lemmas.Grind.{common_steps}
use Rattle.std.proofs.lemmas.Bool.{cases_lt, cases_eq, ne_eqb}
use Rattle.std.proofs.lemmas.List.{get_or-replicate, get_or_past}
use Rattle.port.specs.declared.outcome.Outcome.{Outcome}
use Rattle.port_history.specs.declared.stages.Stage.{Stage}
use Rattle.port_history.specs.declared.stages.Stage.TheVariants.{Free}
use Rattle.port.specs.Answers.{stage_at}
use Rattle.port.specs.Answers.{outcome_at}

pub no_stage : (tag : ℕ) → stage_at (replicate 32 Free) tag ≡ Free
no_stage tag =
    elim (cases_lt tag 32) [
      | inl lt ↦ get_or-replicate 32 tag Free Free lt
      | inr le ↦ get_or_past (replicate 32 Free) tag Free (omega arith)
    ]

pub no_outcome : (tag : ℕ) → outcome_at (replicate 32 None) tag ≡ None
no_outcome tag =
    elim (cases_lt tag 32) [
      | inl lt ↦ get_or-replicate 32 tag None None lt
      | inr le ↦ get_or_past (replicate 32 None) tag None (omega arith)
    ]

-- one slot is filled, and the others stay
pub stage_set : (slots : List Stage) (tag t : ℕ) (x : Stage) → tag < length slots → stage_at (slice_set slots tag x) t ≡ (if tag == t then x else stage_at slots t)
stage_set slots tag t x lt = grind (arith, common_steps)

pub outcome_set : (outcomes : List (Option Outcome)) (tag t : ℕ) (x : Option Outcome) → tag < length outcomes → outcome_at (slice_set outcomes tag x) t ≡ (if tag == t then x else outcome_at outcomes t)
outcome_set outcomes tag t x lt = grind (arith, common_steps)

-- The items of a list so far are mapped, and the others stay.
abbrev pub AreMapped : {A : Type 0} → (ℕ → A → A) → A → List A → List A → ℕ → Type 0
AreMapped f d old now i =
    ((k : ℕ) → k < i → slice_index_or now k d ≡ f k (slice_index_or old k d)) × ((k : ℕ) → i ≤ k → slice_index_or now k d ≡ slice_index_or old k d)

item_set : {A : Type 0} (items : List A) (d : A) (i k : ℕ) (x : A) → i < length items → slice_index_or (slice_set items i x) k d ≡ (if i == k then x else slice_index_or items k d)
item_set items d i k x lt = grind (arith, common_steps)

pub one_more : {A : Type 0} (f : ℕ → A → A) (d : A) (old now : List A) (i : ℕ) (x : A) → i < length now → x ≡ f i (slice_index_or now i d) → AreMapped f d old now i → AreMapped f d old (slice_set now i x) (i + 1)
one_more f d old now i x lt is mapped = (
  λ k below. elim (cases_eq i k) [
    | inl same ↦ item_set now d i k x lt ∙ rw (eq-eqb i k same) (is ∙ ap (f i) (mapped.1 i (omega arith)) ∙ ap (λ (j : ℕ). f j (slice_index_or old j d)) same)
    | inr other ↦ item_set now d i k x lt ∙ rw (ne_eqb i k other) (mapped.0 k (omega (arith, other)))
  ],
  λ k above. item_set now d i k x lt ∙ rw (ne_eqb i k (λ same. absurd (omega (arith, same)))) (mapped.1 k (omega arith)),
)
