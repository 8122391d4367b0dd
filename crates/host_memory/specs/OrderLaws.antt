-- Which of several misses is told (AHCI 1.3.1, 3.3.5 and 4.2): the first access that is refused is the last, and says by what it was
-- for what is missed. That the PRDT has no room for some bytes is told where no access is refused.
use Rattle.std.specs.Prelude.{◌≡◌, ◌⊎◌, ℕ, zero, suc, Bool, true, false, not, ◌&&◌, List, [], ◌∷◌, Some, Err}
use Rattle.host_memory.specs.Access.{Access, is_refused}
use Rattle.host_memory.specs.declared.hba_memory.miss.Miss.{Miss}
use Rattle.host_memory.specs.declared.hba_memory.miss.Miss.TheVariants as misses
use Rattle.host_memory.specs.Memory.{Gathers, Scatters}

-- Each access is answered.
abbrev pub are_answered : List Access → Bool
are_answered [] = true
are_answered (access ∷ later) = not (is_refused access) && are_answered later

-- One is refused, the last; what is missed is what an access in its place is for.
abbrev pub EndsRefused : (ℕ → Miss) → List Access → Miss → Type 0
EndsRefused place [] miss = ⊥
EndsRefused place (access ∷ later) miss =
    ((is_refused access ≡ true) × (later ≡ []) × (miss ≡ place 0))
    ⊎ ((is_refused access ≡ false) × EndsRefused (λ n. place (suc n)) later miss)

-- The accesses of a PRDT: a descriptor and its block, in turns.
abbrev pub in_turns : ℕ → Miss
in_turns zero = misses.Table
in_turns (suc zero) = misses.Block
in_turns (suc (suc n)) = in_turns n

abbrev pub IsFirstMiss : List Access → Miss → Type 0
IsFirstMiss talk miss = EndsRefused in_turns talk miss
    ⊎ ((are_answered talk ≡ true) × (miss ≡ misses.Overflow))

-- Of bytes that are brought, and of bytes that are laid.
abbrev pub GatherOrder : Type 0
GatherOrder = (at n left : ℕ) (talk : List Access) (miss : Miss)
    → Gathers at n left talk (Err miss) → IsFirstMiss talk miss

abbrev pub ScatterOrder : Type 0
ScatterOrder = (at n : ℕ) (bytes : List ℕ) (talk : List Access) (miss : Miss)
    → Scatters at n bytes talk (Some miss) → IsFirstMiss talk miss
