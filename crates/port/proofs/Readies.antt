-- What the engine may do, and how much there is of it at most.
use Rattle.std.proofs.Common.{◌≡◌, ℕ, zero, suc, ◌+◌, ◌≤◌, ◌<◌, Bool, true, false, not, List, [], ◌∷◌, ◌++◌, length, slice_get, Option, Some, None, Result, Ok, Err, if◌then◌else◌, refl, sym, ap, ◌∙◌, arith, inl, inr, subst, append_assoc, append-nil, length-append}
use Rattle.std.specs.Prelude.{is_none, ◌%◌}
use Rattle.std.proofs.lemmas.Bool.{cases_lt}
use Rattle.std.proofs.lemmas.Nat.{mod_below}
use Rattle.std.proofs.lemmas.Option.{slice_get-get_or}
use Rattle.port_history.specs.declared.error.PortError.{PortError}
use Rattle.port_history.specs.declared.error.PortError.TheVariants.{OutOfMemory, NotPrepared, Queue, NotIssued, NotAccepted, NotFailed, HistoryFull, Failed}
use Rattle.port_history.specs.declared.step.EngineStep.{EngineStep}
use Rattle.port_history.specs.declared.stages.Stage.{Stage}
use Rattle.port_history.specs.declared.stages.Stage.TheVariants.{Free, Prepared, Issued, Accepted, Answered}
use Rattle.port_history.specs.Stages.{is_prepared, is_issued, is_accepted}
use Rattle.std.specs.Prelude.{is_some}
use Rattle.port_history.specs.declared.step.Step.{Step}
use Rattle.port_history.specs.declared.step.Step.TheVariants as steps
use Rattle.port_history.specs.Stages.{mixes}
use Rattle.port.specs.Answers.{stage_at}
use Rattle.port.specs.State.{BareState, PortState, is_history_full, refusal_on, refusal_on_bare}
use Rattle.port_history.specs.Refusals.{first_refusal, IsRefusedBy}
use Rattle.port_history.specs.Ready.{those, count_passing, ready_steps, chosen, as_step}
use Rattle.port_history.specs.declared.step.EngineStep.TheVariants as engine

abbrev pub one : Bool → ℕ
one b = if b then 1 else 0

pub count_next : (p : ℕ → Bool) (n : ℕ) → count_passing p (suc n) ≡ count_passing p n + one (p n)
unfolding count_passing
count_next p n = refl

pub count_none : (p : ℕ → Bool) (n : ℕ) → ((t : ℕ) → p t ≡ false) → count_passing p n ≡ 0
unfolding count_passing
count_none p zero e = refl
count_none p (suc n) e = rw (e n) (omega (arith, count_none p n e))

-- one that passes is not yet counted
pub not_counted : (p : ℕ → Bool) (n i : ℕ) → i < n → p i ≡ true → count_passing p i + 1 ≤ count_passing p n
unfolding count_passing
not_counted p zero i lt e = absurd (omega (arith, lt))
not_counted p (suc n) i lt e = elim (cases_lt i n) [
  | inl below ↦ omega (arith, not_counted p n i below e)
  | inr le ↦ (let same : i ≡ n = omega (arith, lt, le) in rw (sym same, e) (omega arith))
]

-- of three kinds of which no tag is two
pub three : (p q r : ℕ → Bool) (n : ℕ) → ((t : ℕ) → one (p t) + one (q t) + one (r t) ≤ 1) → count_passing p n + count_passing q n + count_passing r n ≤ n
unfolding count_passing
three p q r zero apart = omega arith
three p q r (suc n) apart = omega (arith, three p q r n apart, apart n)

last_length : (k m : ℕ) (step : EngineStep) (b : Bool) → k ≡ m → k + length (if b then step ∷ [] else []) ≡ m + (if b then 1 else 0)
last_length k m step true e = omega (arith, e)
last_length k m step false e = omega (arith, e)

pub length_those : (step : ℕ → EngineStep) (p : ℕ → Bool) (n : ℕ) → length (those step p n) ≡ count_passing p n
unfolding count_passing those
length_those step p zero = refl
length_those step p (suc n) = length-append (those step p n) (if p n then step n ∷ [] else []) ∙ last_length (length (those step p n)) (count_passing p n) (step n) (p n) (length_those step p n)

pub kinds : (full failure mixed : Bool) (s : Stage)
    → one (is_none (first_refusal ((full, HistoryFull) ∷ (failure, Failed) ∷ (not (is_prepared s), NotPrepared) ∷ (mixed, Queue) ∷ [])))
    + one (is_none (first_refusal ((full, HistoryFull) ∷ (failure, Failed) ∷ (not (is_issued s), NotIssued) ∷ [])))
    + one (is_none (first_refusal ((full, HistoryFull) ∷ (failure, Failed) ∷ (not (is_accepted s), NotAccepted) ∷ []))) ≤ 1
kinds true failure mixed s = omega arith
kinds false true mixed s = omega arith
kinds false false mixed Free = omega arith
kinds false false true (Prepared put) = omega arith
kinds false false false (Prepared put) = omega arith
kinds false false mixed (Issued put) = omega arith
kinds false false mixed (Accepted put) = omega arith
kinds false false mixed (Answered put) = omega arith

pub those_next : (step : ℕ → EngineStep) (p : ℕ → Bool) (n : ℕ) → those step p (n + 1) ≡ those step p n ++ (if p n then step n ∷ [] else [])
unfolding those
those_next step p n = let e : n + 1 ≡ suc n = omega arith in rw e refl

pub those_none : (step : ℕ → EngineStep) (p : ℕ → Bool) → those step p 0 ≡ []
unfolding those
those_none step p = refl

-- the loop's list, one tag further
pub longer : (first now next : List EngineStep) (step : ℕ → EngineStep) (p : ℕ → Bool) (n : ℕ) → now ≡ first ++ those step p n → p n ≡ true → next ≡ now ++ step n ∷ [] → next ≡ first ++ those step p (n + 1)
longer first now next step p n e passes made =
    made ∙ ap (λ (xs : List EngineStep). xs ++ step n ∷ []) e ∙ append_assoc first (those step p n) (step n ∷ [])
    ∙ ap (λ (xs : List EngineStep). first ++ xs) (sym (those_next step p n ∙ ap (λ (b : Bool). those step p n ++ (if b then step n ∷ [] else [])) passes))

pub as_long : (first now : List EngineStep) (step : ℕ → EngineStep) (p : ℕ → Bool) (n : ℕ) → now ≡ first ++ those step p n → p n ≡ false → now ≡ first ++ those step p (n + 1)
as_long first now step p n e fails =
    e ∙ ap (λ (xs : List EngineStep). first ++ xs) (sym (those_next step p n ∙ ap (λ (b : Bool). those step p n ++ (if b then step n ∷ [] else [])) fails ∙ append-nil (those step p n)))

abbrev pub allows : BareState → (ℕ → Step) → ℕ → Bool
allows port step t = is_none (refusal_on_bare port (step t))

apart : (port : BareState) (t : ℕ) → one (allows port steps.Issue t) + one (allows port steps.Accept t) + one (allows port steps.Complete t) ≤ 1
apart port t = kinds false (is_some port.failed) (mixes (stage_at port.slots) (stage_at port.slots t)) (stage_at port.slots t)

pub sum_small : (port : BareState) → count_passing (allows port steps.Issue) 32 + count_passing (allows port steps.Accept) 32 + count_passing (allows port steps.Complete) 32 ≤ 32
sum_small port = three (allows port steps.Issue) (allows port steps.Accept) (allows port steps.Complete) 32 (apart port)

pub count_of_list : (first now : List EngineStep) (step : ℕ → EngineStep) (p : ℕ → Bool) (n : ℕ) → now ≡ first ++ those step p n → length now ≡ length first + count_passing p n
count_of_list first now step p n e = ap length e ∙ length-append first (those step p n) ∙ ap (λ (k : ℕ). length first + k) (length_those step p n)

-- a port that may recover may do nothing else
alone : (full failure : Bool) (rest : List (Bool × Rattle.port_history.specs.declared.error.PortError.PortError)) → is_none (first_refusal ((full, HistoryFull) ∷ (not failure, NotFailed) ∷ [])) ≡ true → is_none (first_refusal ((full, HistoryFull) ∷ (failure, Failed) ∷ rest)) ≡ false
alone true failure rest e = absurd cc
alone false true rest e = refl
alone false false rest e = absurd cc

pub sum_alone : (port : BareState) → is_none (refusal_on_bare port steps.Recover) ≡ true → count_passing (allows port steps.Issue) 32 + count_passing (allows port steps.Accept) 32 + count_passing (allows port steps.Complete) 32 ≡ 0
sum_alone port e =
    let f = alone false (is_some port.failed) in
    omega (
      arith,
      count_none (allows port steps.Issue) 32 (λ t. f ((not (is_prepared (stage_at port.slots t)), NotPrepared) ∷ (mixes (stage_at port.slots) (stage_at port.slots t), Queue) ∷ []) e),
      count_none (allows port steps.Accept) 32 (λ t. f ((not (is_issued (stage_at port.slots t)), NotIssued) ∷ []) e),
      count_none (allows port steps.Complete) 32 (λ t. f ((not (is_accepted (stage_at port.slots t)), NotAccepted) ∷ []) e),
    )

those_agree : (step : ℕ → EngineStep) (p q : ℕ → Bool) (n : ℕ) → ((t : ℕ) → t < n → p t ≡ q t) → those step p n ≡ those step q n
unfolding those
those_agree step p q zero same = refl
those_agree step p q (suc n) same =
    ap (λ (xs : List EngineStep). xs ++ (if p n then step n ∷ [] else [])) (those_agree step p q n (λ t lt. same t (omega (arith, lt))))
    ∙ ap (λ (b : Bool). those step q n ++ (if b then step n ∷ [] else [])) (same n (omega arith))

pub ready_agree : (p q : Step → Bool) → ((t : ℕ) → t < 32 → p (steps.Issue t) ≡ q (steps.Issue t)) → ((t : ℕ) → t < 32 → p (steps.Accept t) ≡ q (steps.Accept t)) → ((t : ℕ) → t < 32 → p (steps.Complete t) ≡ q (steps.Complete t)) → p steps.Recover ≡ q steps.Recover → ready_steps p ≡ ready_steps q
ready_agree p q issue accept complete recover =
    ap (λ (xs : List EngineStep). xs ++ those engine.Accept (λ t. p (steps.Accept t)) 32 ++ those engine.Complete (λ t. p (steps.Complete t)) 32 ++ (if p steps.Recover then engine.Recover ∷ [] else [])) (those_agree engine.Issue (λ t. p (steps.Issue t)) (λ t. q (steps.Issue t)) 32 issue)
    ∙ ap (λ (xs : List EngineStep). those engine.Issue (λ t. q (steps.Issue t)) 32 ++ xs ++ those engine.Complete (λ t. p (steps.Complete t)) 32 ++ (if p steps.Recover then engine.Recover ∷ [] else [])) (those_agree engine.Accept (λ t. p (steps.Accept t)) (λ t. q (steps.Accept t)) 32 accept)
    ∙ ap (λ (xs : List EngineStep). those engine.Issue (λ t. q (steps.Issue t)) 32 ++ those engine.Accept (λ t. q (steps.Accept t)) 32 ++ xs ++ (if p steps.Recover then engine.Recover ∷ [] else [])) (those_agree engine.Complete (λ t. p (steps.Complete t)) (λ t. q (steps.Complete t)) 32 complete)
    ∙ ap (λ (b : Bool). those engine.Issue (λ t. q (steps.Issue t)) 32 ++ those engine.Accept (λ t. q (steps.Accept t)) 32 ++ those engine.Complete (λ t. q (steps.Complete t)) 32 ++ (if b then engine.Recover ∷ [] else [])) recover

-- each of them may be done
abbrev Passes : (Step → Bool) → List EngineStep → Type 0
Passes may [] = Unit {0}
Passes may (step ∷ steps) = (may (as_step step) ≡ true) × Passes may steps

passes_append : (may : Step → Bool) (xs ys : List EngineStep) → Passes may xs → Passes may ys → Passes may (xs ++ ys)
passes_append may [] ys left right = right
passes_append may (x ∷ xs) ys left right = (left.0, passes_append may xs ys left.1 right)

passes_one : (may : Step → Bool) (step : EngineStep) (b : Bool) → (b ≡ true → may (as_step step) ≡ true) → Passes may (if b then step ∷ [] else [])
passes_one may step true h = (h refl, tt)
passes_one may step false h = tt

passes_those : (may : Step → Bool) (step : ℕ → EngineStep) (n : ℕ) → Passes may (those step (λ t. may (as_step (step t))) n)
unfolding those
passes_those may step zero = tt
passes_those may step (suc n) =
    passes_append may (those step (λ t. may (as_step (step t))) n) (if may (as_step (step n)) then step n ∷ [] else []) (passes_those may step n) (passes_one may (step n) (may (as_step (step n))) (λ e. e))

passes_ready : (may : Step → Bool) → Passes may (ready_steps may)
passes_ready may =
    passes_append may _ _
    (passes_append may _ _ (passes_append may _ _ (passes_those may engine.Issue 32) (passes_those may engine.Accept 32)) (passes_those may engine.Complete 32))
    (passes_one may engine.Recover (may steps.Recover) (λ e. e))

passes_at : (may : Step → Bool) (xs : List EngineStep) (i : ℕ) (step : EngineStep) → Passes may xs → slice_get xs i ≡ Some step → may (as_step step) ≡ true
passes_at may [] i step h e = absurd cc
passes_at may (x ∷ xs) zero step h e = let same : x ≡ step = search (e) in subst (λ (s : EngineStep). may (as_step s) ≡ true) same h.0
passes_at may (x ∷ xs) (suc i) step h e = passes_at may xs i step h.1 e

-- each step that is ready may be done
pub chosen_may : (may : Step → Bool) (choice : ℕ) (step : EngineStep) → chosen choice (ready_steps may) ≡ Some step → may (as_step step) ≡ true
chosen_may may choice step e = passes_at may (ready_steps may) (choice % length (ready_steps may)) step (passes_ready may) e

pub some_chosen : (choice : ℕ) (xs : List EngineStep) → chosen choice xs ≡ None → xs ≡ []
some_chosen choice [] e = refl
some_chosen choice (x ∷ xs) e = let at = slice_get-get_or (x ∷ xs) (choice % length (x ∷ xs)) x (mod_below choice (length (x ∷ xs)) (omega arith)) in absurd cc

-- a lawful step is refused for want of memory alone
pub only_memory : {A : Type 0} (refused : Option PortError) (r : Result A PortError) (e : PortError) → r ≡ Err e → is_none refused ≡ true → IsRefusedBy refused r → e ≡ OutOfMemory
only_memory None (Ok a) e was free told = absurd cc
only_memory (Some error) r e was free told = absurd cc
only_memory None (Err error) e was free (inl memory) = let m = memory.0 in cc
only_memory None (Err error) e was free (inr other) = absurd cc
