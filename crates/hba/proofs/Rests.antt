-- Where nothing is ready.
use Rattle.std.proofs.Common.{◌≡◌, ℕ, ◌^◌, ◌<◌, zero, suc, Bool, true, false, List, [], ◌∷◌, ◌++◌, bit_and, refl, subst, sym, arith}
use Rattle.std.specs.Prelude.{◌==◌, ◌&&◌, if◌then◌else◌}
use Rattle.fis.specs.Tags.{slot_count}
use Rattle.hba_regs.specs.Registers.{has_bits}
use Rattle.hba.specs.declared.work.Work.{Work}
use Rattle.hba.specs.declared.work.Work.TheVariants as works
use Rattle.hba.specs.Registers.{busy_bits}
use Rattle.hba.specs.Ready.{is_working, is_ready_after, if_ready, fetches, completions}
use Rattle.hba.specs.History.{regs_of}
use Rattle.hba.specs.Service.{WaitsLaw}

right_none : (xs ys : List Work) → xs ++ ys ≡ [] → ys ≡ []
right_none [] ys e = e
right_none (x ∷ xs) ys e = cc

left_none : (xs ys : List Work) → xs ++ ys ≡ [] → xs ≡ []
left_none [] ys e = refl
left_none (x ∷ xs) ys e = cc

passes_not : (passes : Bool) (work : Work) → (if passes then work ∷ [] else []) ≡ [] → passes ≡ false
passes_not true work e = cc
passes_not false work e = refl

of_last : (n tag : ℕ) (passes : Work → Bool) (is : Bool) → (tag == n) ≡ is → tag < suc n → passes (works.Fetch n) ≡ false
    → (tag < n → passes (works.Fetch tag) ≡ false) → passes (works.Fetch tag) ≡ false
of_last n tag passes true e l here there =
    let same : tag ≡ n = grind arith in subst (λ (m : ℕ). passes (works.Fetch m) ≡ false) (sym same) here
of_last n tag passes false e l here there = there (grind arith)

no_fetch : (passes : Work → Bool) (n : ℕ) → fetches passes n ≡ [] → (tag : ℕ) → tag < n → passes (works.Fetch tag) ≡ false
no_fetch passes zero e tag l = absurd (omega arith)
no_fetch passes (suc n) e tag l =
    of_last n tag passes (tag == n) refl l
    (passes_not (passes (works.Fetch n)) (works.Fetch n) (right_none (fetches passes n) (if_ready passes (works.Fetch n)) e))
    (no_fetch passes n (left_none (fetches passes n) (if_ready passes (works.Fetch n)) e) tag)

second : (a b c : Bool) → (a && b && c) ≡ false → a ≡ true → c ≡ true → b ≡ false
second true true true e p q = e
second true false true e p q = refl
second true b false e p q = cc
second false b c e p q = cc

pub rest_law : WaitsLaw
rest_law o list tag t none working idle =
    let passes = is_ready_after o list in
    let regs = regs_of o list in
    second (is_working regs) (has_bits regs.port.issued (2 ^ tag)) (bit_and regs.port.status busy_bits == 0)
    (no_fetch passes slot_count
    (right_none (if_ready passes works.Signature) (fetches passes slot_count)
    (left_none (if_ready passes works.Signature ++ fetches passes slot_count) (completions passes slot_count) none))
    tag t)
    working idle
