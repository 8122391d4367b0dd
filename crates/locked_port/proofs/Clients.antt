-- The clients' steps of a history, place by place.
use Rattle.std.proofs.Common.{◌≡◌, ℕ, ◌<◌, ◌≤◌, ◌+◌, ◌⊎◌, inl, inr, length, true, false, Bool, List, ◌∷◌, Some, slice_get, slice_index_or, drop, sym, ap, ◌∙◌, subst, arith}
use Rattle.std.proofs.lemmas.Bool.{cases_lt, true≢false}
use Rattle.std.proofs.lemmas.List.{at_drop_more}
use Rattle.std.proofs.lemmas.Option.{get_or_from_slice_get, slice_get_cases, slice_get_within}
use Rattle.locked_port.proofs.Counts.{one}
use Rattle.locked_port.specs.Counts.{is_client, client_steps}
use Rattle.locked_port.specs.Receipts.{AreMarked}
use Rattle.port_history.specs.declared.step.Entry.{Entry}

-- Whether the step at a place is a client's.
abbrev pub TellsClient : Bool → List Entry → ℕ → Type 0
TellsClient is history place = (d : Entry) → is ≡ is_client (slice_index_or history place d).step

pub told_at : (is : Bool) (history : List Entry) (place : ℕ) (e : Entry) → TellsClient is history place → slice_get history place ≡ Some e → is ≡ is_client e.step
told_at is history place e tells there = tells e ∙ ap (λ (x : Entry). is_client x.step) (get_or_from_slice_get history place e e there)

-- one place more
pub marked_more : (history : List Entry) (first k : ℕ) (marks : List Bool) → AreMarked history first marks k
    → ((e : Entry) → slice_get history (first + k) ≡ Some e → is_client e.step ≡ true → slice_index_or marks k false ≡ true) → AreMarked history first marks (k + 1)
marked_more history first k marks below here j e lt there client = elim (cases_lt j k) [
  | inl before ↦ below j e before there client
  | inr behind ↦
      let same : j ≡ k = omega (arith, lt, behind) in
      subst (λ (n : ℕ). slice_index_or marks n false ≡ true) (sym same)
      (here e (subst (λ (n : ℕ). slice_get history (first + n) ≡ Some e) same there) client)
]

pub not_client : (history : List Entry) (place : ℕ) (e : Entry) (is marked : Bool) → TellsClient is history place → is ≡ false → slice_get history place ≡ Some e
    → is_client e.step ≡ true → marked ≡ true
not_client history place e is marked tells is_false there client = absurd (true≢false (sym client ∙ sym (told_at is history place e tells there) ∙ is_false))

-- all places of a window that the history has
pub all_marked : (history : List Entry) (first k : ℕ) (marks : List Bool) → ((j : ℕ) → j < length marks → first + j < length history → j < k)
    → AreMarked history first marks k → AreMarked history first marks (length marks)
all_marked history first k marks enough below j e lt there client =
    below j e (enough j lt (slice_get_within history (first + j) e there)) there client

-- a client's step that is not marked
pub not_marked : (history : List Entry) (first k : ℕ) (marks : List Bool) (is : Bool) → TellsClient is history (first + k) → is ≡ true → first + k < length history → k < length marks
    → slice_index_or marks k false ≡ false → AreMarked history first marks (length marks) → false ≡ true
not_marked history first k marks is tells is_true in_history in_marks unmarked all = elim (slice_get_cases history (first + k)).1 [
  | inl at ↦ sym unmarked ∙ all k at.0 in_marks at.2 (sym (told_at is history (first + k) at.0 tells at.2) ∙ is_true)
  | inr past ↦ absurd (omega (arith, past, in_history))
]

-- the client steps from a place on
pub steps_from : (history : List Entry) (place : ℕ) (is b : Bool) → TellsClient is history place → is ≡ b → place < length history
    → client_steps (drop place history) ≡ one b + client_steps (drop (place + 1) history)
steps_from history place is b tells same within = elim (slice_get_cases history place).1 [
  | inl at ↦ at_drop_more client_steps history place at.0 within
      ∙ ap (λ (c : Bool). one c + client_steps (drop (place + 1) history)) (sym (tells at.0) ∙ same)
  | inr past ↦ absurd (omega (arith, past, within))
]
