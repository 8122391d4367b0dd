-- One piece of work more.
use Rattle.std.proofs.Common.{◌≡◌, ℕ, ◌+◌, ◌%◌, ◌<◌, ◌≤◌, zero, suc, Bool, true, false, length, Option, Some, List, [], ◌∷◌, ◌++◌, None, refl, ap, sym, ◌∙◌, append_assoc, add-one, arith, ⊎_elim}
use Rattle.std.proofs.lemmas.Bool.{cases_lt}
use Rattle.std.specs.Prelude.{◌&&◌, is_some, slice_index_or, if◌then◌else◌}
use Rattle.std.proofs.Math.Path.{fun_ext}
use Rattle.hba.specs.declared.registers.Registers.{Registers}
use Rattle.hba.specs.declared.work.Work.{Work}
use Rattle.hba.specs.declared.work.Work.TheVariants as works
use Rattle.fis.specs.Tags.{slot_count}
use Rattle.history.specs.Readers.{held}
use Rattle.drive.specs.Queue.{held_at}
use Rattle.hba.specs.History.{whole_log, Opened, State, Operation, AgreesHba, acts_of, regs_of}
use Rattle.hba.specs.Ready.{is_ready, if_ready, fetches, completions, ready_by, ready_on, ready_after, picked}

pub one_fetch : (xs : List Work) (passes : Work → Bool) (n : ℕ)
    → (xs ++ fetches passes n) ++ if_ready passes (works.Fetch n) ≡ xs ++ fetches passes (n + 1)
one_fetch xs passes n =
    append_assoc xs (fetches passes n) (if_ready passes (works.Fetch n))
    ∙ ap (λ k. xs ++ fetches passes k) (sym (add-one n))

pub one_completion : (xs : List Work) (passes : Work → Bool) (n : ℕ)
    → (xs ++ completions passes n) ++ if_ready passes (works.Complete n) ≡ xs ++ completions passes (n + 1)
one_completion xs passes n =
    append_assoc xs (completions passes n) (if_ready passes (works.Complete n))
    ∙ ap (λ k. xs ++ completions passes k) (sym (add-one n))

-- What may be done is the same by the state and by a list that it agrees with.
pub ready_same : (hba : State) (o : Opened) (list : List Operation) → AgreesHba hba o list
    → ready_on hba ≡ ready_after o list
ready_same hba o list a =
    let e : (λ (tag : ℕ). is_some (held_at hba.drive.queue tag))
    ≡ (λ (tag : ℕ). is_some (held (whole_log o (acts_of o list)) tag)) =
    fun_ext (λ tag. ap is_some (a.acted.drive.held tag)) in
    ap (λ (r : Registers). ready_by (is_ready r (λ tag. is_some (held_at hba.drive.queue tag)))) a.registers
    ∙ ap (λ (h : ℕ → Bool). ready_by (is_ready (regs_of o list) h)) e

-- None is picked of none alone.
pub none_picked : (choice : ℕ) (works : List Work) → picked choice works ≡ None → works ≡ []
none_picked choice [] e = refl
none_picked choice (work ∷ later) e = cc

-- Of two that hold the second holds.
pub both : (a b : Bool) → (a && b) ≡ true → b ≡ true
both true b e = e
both false b e = cc

-- All works of a list pass.
abbrev AllPass : (Work → Bool) → List Work → Type 0
AllPass passes [] = Unit {0}
AllPass passes (work ∷ later) = (passes work ≡ true) × AllPass passes later

all_append : (passes : Work → Bool) (xs ys : List Work) → AllPass passes xs → AllPass passes ys
    → AllPass passes (xs ++ ys)
all_append passes [] ys h g = g
all_append passes (x ∷ xs) ys h g = (h.0, all_append passes xs ys h.1 g)

all_if : (passes : Work → Bool) (work : Work) (b : Bool) → passes work ≡ b
    → AllPass passes (if b then work ∷ [] else [])
all_if passes work true e = (e, tt)
all_if passes work false e = tt

all_fetches : (passes : Work → Bool) (n : ℕ) → AllPass passes (fetches passes n)
all_fetches passes zero = tt
all_fetches passes (suc n) =
    all_append passes (fetches passes n) _ (all_fetches passes n)
    (all_if passes (works.Fetch n) (passes (works.Fetch n)) refl)

all_completions : (passes : Work → Bool) (n : ℕ) → AllPass passes (completions passes n)
all_completions passes zero = tt
all_completions passes (suc n) =
    all_append passes (completions passes n) _ (all_completions passes n)
    (all_if passes (works.Complete n) (passes (works.Complete n)) refl)

all_ready : (passes : Work → Bool) → AllPass passes (ready_by passes)
all_ready passes =
    all_append passes (if_ready passes works.Signature ++ fetches passes slot_count) _
    (all_append passes (if_ready passes works.Signature) _
    (all_if passes works.Signature (passes works.Signature) refl) (all_fetches passes slot_count))
    (all_completions passes slot_count)

at_passes : (passes : Work → Bool) (xs : List Work) (i : ℕ) (other : Work) → AllPass passes xs
    → passes other ≡ true → passes (slice_index_or xs i other) ≡ true
at_passes passes [] i other h e = e
at_passes passes (x ∷ xs) zero other h e = h.0
at_passes passes (x ∷ xs) (suc i) other h e = at_passes passes xs i other h.1 e

picked_passes : (passes : Work → Bool) (choice : ℕ) (xs : List Work) (work : Work) → AllPass passes xs
    → picked choice xs ≡ Some work → passes work ≡ true
picked_passes passes choice [] work h e = cc
picked_passes passes choice (x ∷ xs) work h e =
    let same : slice_index_or (x ∷ xs) (choice % length (x ∷ xs)) x ≡ work = cc in
    sym (ap passes same) ∙ at_passes passes (x ∷ xs) (choice % length (x ∷ xs)) x h h.0

-- What is picked of what may be done may be done.
pub picked_ready : (passes : Work → Bool) (choice : ℕ) (work : Work)
    → picked choice (ready_by passes) ≡ Some work → passes work ≡ true
picked_ready passes choice work e =
    picked_passes passes choice (ready_by passes) work (all_ready passes) e

-- The first of a list.
abbrev head : List Work → Option Work
head [] = None
head (work ∷ later) = Some work

picked_first : (xs : List Work) → picked 0 xs ≡ head xs
picked_first [] = refl
picked_first (x ∷ xs) =
    let none : 0 % length (x ∷ xs) ≡ 0 = omega arith in
    ap (λ (i : ℕ). Some (slice_index_or (x ∷ xs) i x)) none

head_front : (xs ys : List Work) (work : Work) → head xs ≡ Some work → head (xs ++ ys) ≡ Some work
head_front [] ys work e = cc
head_front (x ∷ xs) ys work e = e

ready_none : (passes : Work → Bool) (work : Work) → passes work ≡ false → if_ready passes work ≡ []
ready_none passes work e =
    ap (λ (b : Bool). let xs : List Work = if b then work ∷ [] else [] in xs) e

ready_one : (passes : Work → Bool) (work : Work) → passes work ≡ true
    → if_ready passes work ≡ work ∷ []
ready_one passes work e =
    ap (λ (b : Bool). let xs : List Work = if b then work ∷ [] else [] in xs) e

fetches_none : (passes : Work → Bool) (k : ℕ)
    → ((n : ℕ) → n < k → passes (works.Fetch n) ≡ false) → fetches passes k ≡ []
fetches_none passes zero h = refl
fetches_none passes (suc k) h =
    ap (λ (xs : List Work). xs ++ if_ready passes (works.Fetch k))
    (fetches_none passes k (λ n below. h n (omega arith)))
    ∙ ready_none passes (works.Fetch k) (h k (omega arith))

completions_none : (passes : Work → Bool) (k : ℕ)
    → ((n : ℕ) → n < k → passes (works.Complete n) ≡ false) → completions passes k ≡ []
completions_none passes zero h = refl
completions_none passes (suc k) h =
    ap (λ (xs : List Work). xs ++ if_ready passes (works.Complete k))
    (completions_none passes k (λ n below. h n (omega arith)))
    ∙ ready_none passes (works.Complete k) (h k (omega arith))

-- Where the least that passes is the last of a list, or stands before it.
last_fetch : (passes : Work → Bool) (k t : ℕ) → t ≡ k → passes (works.Fetch t) ≡ true
    → fetches passes k ≡ [] → head (fetches passes (suc k)) ≡ Some (works.Fetch t)
last_fetch passes k t same has none =
    ap (λ (xs : List Work). head (xs ++ if_ready passes (works.Fetch k))) none
    ∙ ap head (ready_one passes (works.Fetch k) (ap (λ (n : ℕ). passes (works.Fetch n)) (sym same) ∙ has))
    ∙ ap (λ (n : ℕ). Some (works.Fetch n)) (sym same)

fetches_first : (passes : Work → Bool) (k t : ℕ) → t < k → passes (works.Fetch t) ≡ true
    → ((n : ℕ) → n < t → passes (works.Fetch n) ≡ false)
    → head (fetches passes k) ≡ Some (works.Fetch t)
fetches_first passes zero t below has least = absurd (omega arith)
fetches_first passes (suc k) t below has least =
    ⊎_elim
    (λ (before : t < k). head_front (fetches passes k) (if_ready passes (works.Fetch k)) (works.Fetch t)
    (fetches_first passes k t before has least))
    (λ (behind : k ≤ t). last_fetch passes k t (omega arith) has
    (fetches_none passes k (λ n under. least n (omega arith))))
    (cases_lt t k)

last_completion : (passes : Work → Bool) (k t : ℕ) → t ≡ k → passes (works.Complete t) ≡ true
    → completions passes k ≡ [] → head (completions passes (suc k)) ≡ Some (works.Complete t)
last_completion passes k t same has none =
    ap (λ (xs : List Work). head (xs ++ if_ready passes (works.Complete k))) none
    ∙ ap head (ready_one passes (works.Complete k) (ap (λ (n : ℕ). passes (works.Complete n)) (sym same) ∙ has))
    ∙ ap (λ (n : ℕ). Some (works.Complete n)) (sym same)

completions_first : (passes : Work → Bool) (k t : ℕ) → t < k → passes (works.Complete t) ≡ true
    → ((n : ℕ) → n < t → passes (works.Complete n) ≡ false)
    → head (completions passes k) ≡ Some (works.Complete t)
completions_first passes zero t below has least = absurd (omega arith)
completions_first passes (suc k) t below has least =
    ⊎_elim
    (λ (before : t < k). head_front (completions passes k) (if_ready passes (works.Complete k))
    (works.Complete t) (completions_first passes k t before has least))
    (λ (behind : k ≤ t). last_completion passes k t (omega arith) has
    (completions_none passes k (λ n under. least n (omega arith))))
    (cases_lt t k)

-- The first of all that may be done.
pub first_signature : (passes : Work → Bool) → passes works.Signature ≡ true
    → picked 0 (ready_by passes) ≡ Some works.Signature
first_signature passes e =
    picked_first (ready_by passes)
    ∙ head_front (if_ready passes works.Signature ++ fetches passes slot_count) (completions passes slot_count)
    works.Signature
    (head_front (if_ready passes works.Signature) (fetches passes slot_count) works.Signature
    (ap head (ready_one passes works.Signature e)))

pub first_fetch : (passes : Work → Bool) (t : ℕ) → passes works.Signature ≡ false → t < slot_count
    → passes (works.Fetch t) ≡ true → ((n : ℕ) → n < t → passes (works.Fetch n) ≡ false)
    → picked 0 (ready_by passes) ≡ Some (works.Fetch t)
first_fetch passes t e below has least =
    picked_first (ready_by passes)
    ∙ head_front (if_ready passes works.Signature ++ fetches passes slot_count) (completions passes slot_count)
    (works.Fetch t)
    (ap (λ (xs : List Work). head (xs ++ fetches passes slot_count)) (ready_none passes works.Signature e)
    ∙ fetches_first passes slot_count t below has least)

pub first_behind : (passes : Work → Bool) → passes works.Signature ≡ false
    → ((n : ℕ) → n < slot_count → passes (works.Fetch n) ≡ false)
    → picked 0 (ready_by passes) ≡ picked 0 (completions passes slot_count)
first_behind passes e none =
    picked_first (ready_by passes)
    ∙ ap (λ (xs : List Work). head ((xs ++ fetches passes slot_count) ++ completions passes slot_count))
    (ready_none passes works.Signature e)
    ∙ ap (λ (xs : List Work). head (xs ++ completions passes slot_count)) (fetches_none passes slot_count none)
    ∙ sym (picked_first (completions passes slot_count))

pub first_completion : (passes : Work → Bool) (t : ℕ) → t < slot_count
    → passes (works.Complete t) ≡ true → ((n : ℕ) → n < t → passes (works.Complete n) ≡ false)
    → picked 0 (completions passes slot_count) ≡ Some (works.Complete t)
first_completion passes t below has least =
    picked_first (completions passes slot_count) ∙ completions_first passes slot_count t below has least

pub no_completion : (passes : Work → Bool)
    → ((n : ℕ) → n < slot_count → passes (works.Complete n) ≡ false)
    → picked 0 (completions passes slot_count) ≡ None
no_completion passes none =
    picked_first (completions passes slot_count) ∙ ap head (completions_none passes slot_count none)
