-- Tests, of numbers below a bound and of the refusals of a step.
use Rattle.std.proofs.Common.{◌≡◌, ℕ, zero, suc, ◌<◌, Bool, true, false, not, nat_lt, List, [], ◌∷◌, length, if◌then◌else◌, Option, Some, None, refl, sym, ◌∙◌, arith, inl, inr}
use Rattle.std.specs.Prelude.{is_some}
use Rattle.std.proofs.lemmas.Bool.{or_left, or_right, cases_lt}
use Rattle.history.specs.Decisions.{any_below}
use Rattle.port_history.specs.declared.error.PortError.{PortError}
use Rattle.port_history.specs.declared.stages.Put.{Put}
use Rattle.port_history.specs.declared.stages.Stage.{Stage}
use Rattle.port_history.specs.declared.stages.Stage.TheVariants.{Free, Prepared, Issued, Accepted, Answered}
use Rattle.port_history.specs.declared.step.Step.{Step}
use Rattle.port_history.specs.Stages.{is_free, is_prepared, is_issued, is_accepted, is_answered}
use Rattle.port_history.specs.Steps.{Moment, stage, failed}
use Rattle.port_history.specs.declared.step.Step.TheVariants as steps
use Rattle.port_history.specs.Refusals.{first_refusal, tests, most_steps, refusal, refusal_by, refusal_with_room}

-- one that passes is enough
pub any_below_at : (p : ℕ → Bool) (n k : ℕ) → p k ≡ true → k < n → any_below p n ≡ true
unfolding any_below
any_below_at p zero k h lt = absurd (omega arith)
any_below_at p (suc n) k h lt =
    elim (cases_lt k n) [
      | inl below ↦ or_right (p n) (any_below p n) (any_below_at p n k h below)
      | inr le ↦ let e : k ≡ n = omega arith in or_left (p n) (any_below p n) (rw e at h)
    ]

-- none passes
pub none_below : (p : ℕ → Bool) (n : ℕ) → ((k : ℕ) → k < n → p k ≡ false)
    → any_below p n ≡ false
unfolding any_below
none_below p zero h = refl
none_below p (suc n) h = rw (h n (omega arith), none_below p n (λ k lt. h k (omega arith))) refl

-- tests that agree at each number
pub any_below-agree : (p q : ℕ → Bool) (n : ℕ) → ((k : ℕ) → k < n → p k ≡ q k)
    → any_below p n ≡ any_below q n
unfolding any_below
any_below-agree p q zero h = refl
any_below-agree p q (suc n) h =
    rw (h n (omega arith), any_below-agree p q n (λ k lt. h k (omega arith))) refl

true_false : true ≡ false → ⊥
true_false e = cc

-- where none passes
pub none_passes : (p : ℕ → Bool) (n k : ℕ) → any_below p n ≡ false → k < n → p k ≡ false
none_passes p n k none lt = by_test (p k) refl
  where
    by_test : (b : Bool) → p k ≡ b → p k ≡ false
    by_test true is = absurd (true_false (sym (any_below_at p n k is lt) ∙ none))
    by_test false is = is

pub was_true : (b : Bool) → not b ≡ false → b ≡ true
was_true true e = refl
was_true false e = absurd cc

pub some_is : {A : Type 0} (x : Option A) → is_some x ≡ true → (a : A) × (x ≡ Some a)
some_is None e = absurd cc
some_is (Some a) e = (a, refl)

pub none_is : {A : Type 0} (x : Option A) → is_some x ≡ false → x ≡ None
none_is None e = refl
none_is (Some a) e = absurd cc

passes : (test : Bool) (error : PortError) (rest : Option PortError)
    → (if test then Some error else rest) ≡ None → (test ≡ false) × (rest ≡ None)
passes true error rest e = absurd cc
passes false error rest e = (refl, e)

abbrev pub AllFail : List (Bool × PortError) → Type 0
AllFail [] = Unit {0}
AllFail (test ∷ tests) = (test.0 ≡ false) × AllFail tests

-- A step that is not refused passes each test.
pub none_holds : (tests : List (Bool × PortError)) → first_refusal tests ≡ None → AllFail tests
none_holds [] e = tt
none_holds (test ∷ tests) e =
    let p = passes test.0 test.1 (first_refusal tests) e in
    (p.0, none_holds tests p.1)

-- What is tested of a step after these moments, where there is room for it.
abbrev pub tests_of : List Moment → Step → List (Bool × PortError)
tests_of ms step = tests false (is_some (failed ms)) (stage ms) step

-- A step that is not refused is none where there is room.
room_of : (full failure : Bool) (stages : ℕ → Stage) (step : Step) → refusal_by full failure stages step ≡ None
    → refusal_by false failure stages step ≡ None
room_of false failure stages step e = e
room_of true failure stages (steps.Put client tag request) e = absurd cc
room_of true failure stages (steps.Issue tag) e = absurd cc
room_of true failure stages (steps.Accept tag) e = absurd cc
room_of true failure stages (steps.Complete tag) e = absurd cc
room_of true failure stages steps.Recover e = absurd cc
room_of true failure stages (steps.Reset client kind) e = absurd cc
room_of true failure stages (steps.Take client tag) e = absurd cc

pub with_room : (ms : List Moment) (step : Step) → refusal ms step ≡ None → refusal_with_room ms step ≡ None
with_room ms step e = room_of (not (nat_lt (length ms) most_steps)) (is_some (failed ms)) (stage ms) step e

-- stages, by their tests
pub free_is : (s : Stage) → not (is_free s) ≡ false → s ≡ Free
free_is Free e = refl
free_is (Prepared put) e = absurd cc
free_is (Issued put) e = absurd cc
free_is (Accepted put) e = absurd cc
free_is (Answered put) e = absurd cc

pub prepared_is : (s : Stage) → not (is_prepared s) ≡ false → (put : Put) × (s ≡ Prepared put)
prepared_is Free e = absurd cc
prepared_is (Prepared put) e = (put, refl)
prepared_is (Issued put) e = absurd cc
prepared_is (Accepted put) e = absurd cc
prepared_is (Answered put) e = absurd cc

pub issued_is : (s : Stage) → not (is_issued s) ≡ false → (put : Put) × (s ≡ Issued put)
issued_is Free e = absurd cc
issued_is (Prepared put) e = absurd cc
issued_is (Issued put) e = (put, refl)
issued_is (Accepted put) e = absurd cc
issued_is (Answered put) e = absurd cc

pub accepted_is : (s : Stage) → not (is_accepted s) ≡ false → (put : Put) × (s ≡ Accepted put)
accepted_is Free e = absurd cc
accepted_is (Prepared put) e = absurd cc
accepted_is (Issued put) e = absurd cc
accepted_is (Accepted put) e = (put, refl)
accepted_is (Answered put) e = absurd cc

pub answered_is : (s : Stage) → not (is_answered s) ≡ false → (put : Put) × (s ≡ Answered put)
answered_is Free e = absurd cc
answered_is (Prepared put) e = absurd cc
answered_is (Issued put) e = absurd cc
answered_is (Accepted put) e = absurd cc
answered_is (Answered put) e = (put, refl)
