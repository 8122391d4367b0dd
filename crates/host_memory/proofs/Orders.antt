-- The first access that is refused is the last.
use Rattle.std.proofs.Common.{◌≡◌, ℕ, ◌+◌, ◌-◌, Bool, true, false, zero, suc, List, [], ◌∷◌, length, take, drop, Option, Some, None, refl, ap, sym, subst, inl, inr, ◌∙◌}
use Rattle.std.specs.Prelude.{◌==◌, ◌&&◌, not, min, Result, Ok, Err, if◌then◌else◌}
use Rattle.host_memory.specs.Access.{Access, Asked, Laid, is_refused}
use Rattle.host_memory.specs.declared.hba_memory.miss.Miss.{Miss}
use Rattle.host_memory.specs.declared.hba_memory.miss.Miss.TheVariants as misses
use Rattle.host_memory.specs.Memory.{data_at, data_len, then_bytes, BringsBlock, BringsEntry, BringsNext, Gathers, TakesBlock, TakesEntry, TakesNext, Scatters}
use Rattle.host_memory.specs.OrderLaws.{are_answered, IsFirstMiss, GatherOrder, ScatterOrder}

abbrev failed : Miss → Result (List ℕ) Miss
failed miss = Err miss

no_ok : {bytes : List ℕ} {miss : Miss} → failed miss ≡ Ok bytes → ⊥
no_ok e = cc

same_err : {a b : Miss} → failed a ≡ failed b → a ≡ b
same_err e = cc

no_none : {miss : Miss} → Some miss ≡ None → ⊥
no_none e = cc

same_some : {a b : Miss} → Some a ≡ Some b → a ≡ b
same_some e = cc

-- behind a descriptor and its block
behind : (one other : Access) (later : List Access) (miss : Miss) → is_refused one ≡ false → is_refused other ≡ false
    → IsFirstMiss later miss → IsFirstMiss (one ∷ other ∷ later) miss
behind one other later miss e f (inl ends) = inl (inr (e, inr (f, ends)))
behind one other later miss e f (inr (whole, is)) =
    inr (ap (λ (b : Bool). not b && (not (is_refused other) && are_answered later)) e ∙ ap (λ (b : Bool). not b && are_answered later) f ∙ whole, is)

at_once : (one : Access) (later : List Access) (miss : Miss) → is_refused one ≡ true → later ≡ [] → miss ≡ misses.Table → IsFirstMiss (one ∷ later) miss
at_once one later miss e none is = inl (inl (e, none, is))

at_block : (one other : Access) (later : List Access) (miss : Miss) → is_refused one ≡ false → is_refused other ≡ true → later ≡ [] → miss ≡ misses.Block
    → IsFirstMiss (one ∷ other ∷ later) miss
at_block one other later miss e f none is = inl (inr (e, inl (f, none, is)))

-- what is brought
ends_brought : (b : Bool) (miss : Miss) → failed miss ≡ (if b then Ok [] else Err misses.Overflow) → miss ≡ misses.Overflow
ends_brought true miss e = absurd (no_ok e)
ends_brought false miss e = same_err e

then_err : (bytes : List ℕ) (more : Result (List ℕ) Miss) (miss : Miss) → Err miss ≡ then_bytes bytes more → more ≡ Err miss
then_err bytes (Ok others) miss e = absurd (no_ok e)
then_err bytes (Err other) miss e = cc

block_brought : (one : Access) (at n : ℕ) (block : Option (List ℕ)) (Rest : List Access → Result (List ℕ) Miss → Type 0) (later : List Access) (miss : Miss)
    → is_refused one ≡ false → ((talk : List Access) → Rest talk (Err miss) → IsFirstMiss talk miss)
    → BringsBlock block Rest later (Err miss) → IsFirstMiss (one ∷ Asked at n block ∷ later) miss
block_brought one at n None Rest later miss e rest h = at_block one (Asked at n None) later miss e refl h.0 (same_err h.1)
block_brought one at n (Some bytes) Rest later miss e rest h =
    behind one (Asked at n (Some bytes)) later miss e refl (rest later (subst (λ it. Rest later it) (then_err bytes h.0 miss h.2) h.1))

entry_brought : (at left : ℕ) (entry : Option (List ℕ)) (Rest : ℕ → List Access → Result (List ℕ) Miss → Type 0) (later : List Access) (miss : Miss)
    → ((more : ℕ) (talk : List Access) → Rest more talk (Err miss) → IsFirstMiss talk miss)
    → BringsEntry entry left Rest later (Err miss) → IsFirstMiss (Asked at 16 entry ∷ later) miss
entry_brought at left None Rest later miss rest h = at_once (Asked at 16 None) later miss refl h.0 (same_err h.1)
entry_brought at left (Some entry) Rest later miss rest h =
    subst (λ it. IsFirstMiss (Asked at 16 (Some entry) ∷ it) miss) (sym h.2)
    (block_brought (Asked at 16 (Some entry)) (data_at entry) (min left (data_len entry)) h.0 (Rest (left - data_len entry)) h.1 miss refl (rest (left - data_len entry)) h.3)

next_brought : (b : Bool) (at left : ℕ) (Rest : ℕ → List Access → Result (List ℕ) Miss → Type 0) (talk : List Access) (miss : Miss)
    → ((more : ℕ) (later : List Access) → Rest more later (Err miss) → IsFirstMiss later miss)
    → BringsNext b at left Rest talk (Err miss) → IsFirstMiss talk miss
next_brought true at left Rest talk miss rest h = absurd (no_ok h.1)
next_brought false at left Rest talk miss rest h =
    subst (λ it. IsFirstMiss it miss) (sym h.2) (entry_brought at left h.0 Rest h.1 miss rest h.3)

pub gather_order : GatherOrder
gather_order at zero left talk miss h =
    subst (λ it. IsFirstMiss it miss) (sym h.0) (inr (refl, ends_brought (left == 0) miss h.1))
gather_order at (suc n) left talk miss h =
    next_brought (left == 0) at left (Gathers (at + 16) n) talk miss (λ more later. gather_order (at + 16) n more later miss) h

-- what is laid
ends_laid : (b : Bool) (miss : Miss) → Some miss ≡ (if b then None else Some misses.Overflow) → miss ≡ misses.Overflow
ends_laid true miss e = absurd (no_none e)
ends_laid false miss e = same_some e

block_laid : (one : Access) (at : ℕ) (bytes : List ℕ) (is_done : Bool) (Rest : List Access → Option Miss → Type 0) (later : List Access) (miss : Miss)
    → is_refused one ≡ false → ((talk : List Access) → Rest talk (Some miss) → IsFirstMiss talk miss)
    → TakesBlock is_done Rest later (Some miss) → IsFirstMiss (one ∷ Laid at bytes is_done ∷ later) miss
block_laid one at bytes false Rest later miss e rest h = at_block one (Laid at bytes false) later miss e refl h.0 (same_some h.1)
block_laid one at bytes true Rest later miss e rest h = behind one (Laid at bytes true) later miss e refl (rest later h)

entry_laid : (at : ℕ) (entry : Option (List ℕ)) (bytes : List ℕ) (Rest : List ℕ → List Access → Option Miss → Type 0) (later : List Access) (miss : Miss)
    → ((more : List ℕ) (talk : List Access) → Rest more talk (Some miss) → IsFirstMiss talk miss)
    → TakesEntry entry bytes Rest later (Some miss) → IsFirstMiss (Asked at 16 entry ∷ later) miss
entry_laid at None bytes Rest later miss rest h = at_once (Asked at 16 None) later miss refl h.0 (same_some h.1)
entry_laid at (Some entry) bytes Rest later miss rest h =
    subst (λ it. IsFirstMiss (Asked at 16 (Some entry) ∷ it) miss) (sym h.2)
    (block_laid (Asked at 16 (Some entry)) (data_at entry) (take (data_len entry) bytes) h.0 (Rest (drop (data_len entry) bytes)) h.1 miss refl (rest (drop (data_len entry) bytes)) h.3)

next_laid : (b : Bool) (at : ℕ) (bytes : List ℕ) (Rest : List ℕ → List Access → Option Miss → Type 0) (talk : List Access) (miss : Miss)
    → ((more : List ℕ) (later : List Access) → Rest more later (Some miss) → IsFirstMiss later miss)
    → TakesNext b at bytes Rest talk (Some miss) → IsFirstMiss talk miss
next_laid true at bytes Rest talk miss rest h = absurd (no_none h.1)
next_laid false at bytes Rest talk miss rest h =
    subst (λ it. IsFirstMiss it miss) (sym h.2) (entry_laid at h.0 bytes Rest h.1 miss rest h.3)

pub scatter_order : ScatterOrder
scatter_order at zero bytes talk miss h =
    subst (λ it. IsFirstMiss it miss) (sym h.0) (inr (refl, ends_laid (length bytes == 0) miss h.1))
scatter_order at (suc n) bytes talk miss h =
    next_laid (length bytes == 0) at bytes (Scatters (at + 16) n) talk miss (λ more later. scatter_order (at + 16) n more later miss) h
