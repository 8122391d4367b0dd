-- What accesses of a memory are to its bytes, where what else it has stays as it is.
use Rattle.std.proofs.Common.{◌≡◌, ℕ, Bool, true, false, List, [], ◌∷◌, nat_le, ◌+◌, refl, subst, ap, ◌∙◌, Result, Ok, Err, Option, Some, None, IfOk, IfSome, OnErr}
use Rattle.host_memory.specs.declared.width.AddressWidth.{AddressWidth}
use Rattle.host_memory.specs.Access.{Access, Asked, Laid, IsAccess, Accessed, IsAccessIf, AreReads, access_end, address_end}
use Rattle.hba.specs.Engine.{HasRead, TurnsTo}
use Rattle.hba.specs.History.{State}
use Rattle.hba.specs.Ready.{picked, ready_on}
use Rattle.hba.specs.declared.work.Turned.{Turned}
use Rattle.library_calls.specs.Over.{TurnsOver}

-- What an access of a memory is to its bytes, by what stays of it.
abbrev pub Byted : {M K : Type 0} → (M → K) → (M → List ℕ) → (M → Access → M → Type 0)
    → (K → List ℕ → Access → List ℕ → Type 0) → Type 0
Byted {M} {K} key bytes does stands = (old new : M) (access : Access) → does old access new
    → (key new ≡ key old) × stands (key old) (bytes old) access (bytes new)

-- A read leaves the bytes.
abbrev pub Kept : {K : Type 0} → (K → List ℕ → Access → List ℕ → Type 0) → Type 0
Kept {K} stands = (k : K) (b c : List ℕ) (at n : ℕ) (answer : Option (List ℕ)) → stands k b (Asked at n answer) c → c ≡ b

once : {M K : Type 0} (key : M → K) (bytes : M → List ℕ) (does : M → Access → M → Type 0) (stands : K → List ℕ → Access → List ℕ → Type 0)
    → Byted key bytes does stands → (b : Bool) (old new : M) (access : Access) → IsAccessIf b does old access new
    → (key new ≡ key old) × IsAccessIf b (stands (key old)) (bytes old) access (bytes new)
once key bytes does stands by true old new access d = by old new access d
once key bytes does stands by false old new access (refused, e) = (ap key e, (refused, ap bytes e))

accessed : {M K : Type 0} (key : M → K) (bytes : M → List ℕ) (does : M → Access → M → Type 0) (stands : K → List ℕ → Access → List ℕ → Type 0)
    → Byted key bytes does stands → (width : AddressWidth) (talk : List Access) (old new : M) → Accessed (IsAccess width does) old talk new
    → (key new ≡ key old) × Accessed (IsAccess width (stands (key old))) (bytes old) talk (bytes new)
accessed key bytes does stands by width [] old new e = (ap key e, ap bytes e)
accessed {M} {K} key bytes does stands by width (access ∷ later) old new (middle, d, rest) =
    let first = once key bytes does stands by (nat_le (access_end access) (address_end width)) old middle access d in
    let then = accessed key bytes does stands by width later middle new rest in (
      then.0 ∙ first.0,
      (bytes middle, first.1, subst (λ (k : K). Accessed (IsAccess width (stands k)) (bytes middle) later (bytes new)) first.0 then.1),
    )

read_once : {K : Type 0} (stands : K → List ℕ → Access → List ℕ → Type 0) → Kept stands
    → (b : Bool) (k : K) (old new : List ℕ) (at n : ℕ) (answer : Option (List ℕ)) → IsAccessIf b (stands k) old (Asked at n answer) new
    → new ≡ old
read_once stands kept true k old new at n answer s = kept k old new at n answer s
read_once stands kept false k old new at n answer (refused, e) = e

read : {M K : Type 0} (key : M → K) (bytes : M → List ℕ) (does : M → Access → M → Type 0) (stands : K → List ℕ → Access → List ℕ → Type 0)
    → Byted key bytes does stands → Kept stands → (width : AddressWidth) (talk : List Access) (old new : M) → AreReads talk
    → Accessed (IsAccess width does) old talk new
    → (key new ≡ key old) × (bytes new ≡ bytes old)
read key bytes does stands by kept width [] old new reads e = (ap key e, ap bytes e)
read key bytes does stands by kept width (Asked at n answer ∷ later) old new reads (middle, d, rest) =
    let first = once key bytes does stands by (nat_le (at + n) (address_end width)) old middle (Asked at n answer) d in
    let then = read key bytes does stands by kept width later middle new reads rest in
    (then.0 ∙ first.0, then.1 ∙ read_once stands kept (nat_le (at + n) (address_end width)) (key old) (bytes old) (bytes middle) at n answer first.1)
read key bytes does stands by kept width (Laid at others is_done ∷ later) old new reads acc = absurd reads

-- A turn over a memory, by its bytes.
pub turned : {E M K : Type 0} (key : M → K) (bytes : M → List ℕ) (does : M → Access → M → Type 0) (stands : K → List ℕ → Access → List ℕ → Type 0)
    → Byted key bytes does stands → Kept stands
    → (choice : ℕ) (old new : State) (before after : M) (outcome : Result (Option Turned) E)
    → IfOk outcome (λ turned. IfSome turned (λ t. TurnsTo does old before new after t))
    → IfOk outcome (λ turned. IfSome turned (λ t. picked choice (ready_on old) ≡ Some t.work))
    → IfOk outcome (λ turned. turned ≡ None → ready_on old ≡ [])
    → IfOk outcome (λ turned. turned ≡ None → new ≡ old)
    → IfOk outcome (λ turned. turned ≡ None → after ≡ before)
    → OnErr outcome (new ≡ old)
    → OnErr outcome (HasRead does old before after)
    → (key after ≡ key before) × TurnsOver choice (stands (key before)) old (bytes before) new (bytes after) outcome
turned key bytes does stands by kept choice old new before after (Ok (Some t)) (talk, operation, acc, told, agrees) pick idle still moved err left =
    let a = accessed key bytes does stands by old.registers.width talk before after acc in
    (a.0, (pick, (talk, operation, a.1, told, agrees)))
turned key bytes does stands by kept choice old new before after (Ok None) done pick idle still moved err left =
    (ap key (moved refl), (idle refl, still refl, ap bytes (moved refl)))
turned key bytes does stands by kept choice old new before after (Err error) done pick idle still moved err (talk, reads, acc) =
    let r = read key bytes does stands by kept old.registers.width talk before after reads acc in (r.0, (err, r.1))
