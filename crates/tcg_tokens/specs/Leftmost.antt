-- Which fault bytes have: that of their shortest front which has one, whatever follows it.
use Rattle.std.specs.Prelude.{◌≡◌, ◌≢◌, ◌<◌, ◌≤◌, ℕ, List, ◌++◌, length, take, Err}
use Rattle.tcg_tokens.specs.declared.error.TokenError.{TokenError}
use Rattle.tcg_tokens.specs.declared.error.TokenError.TheVariants.{Truncated, OutOfMemory}
use Rattle.tcg_tokens.specs.Grammar.{Spells}
use Rattle.tcg_tokens.specs.Message.{Message}
use Rattle.tcg_tokens.specs.Reading.{reading}

-- nothing is wrong with the bytes so far: they are an item, or end before it does
abbrev pub IsRightSoFar : List ℕ → Type 0
IsRightSoFar text = (e : TokenError) → reading text ≡ Err e → e ≡ Truncated

-- So many of the first bytes have this fault: whatever follows them has it, and is no item. With fewer nothing is
-- wrong so far.
pub record IsLeftmost (text : List ℕ) (e : TokenError) : Type 0 where
  pub count : ℕ
  pub within : count ≤ length text
  pub settled : (more : List ℕ) → reading (take count text ++ more) ≡ Err e
  pub no_item : (more : List ℕ) (m : Message) → Spells (take count text ++ more) m → ⊥
  pub before : (n : ℕ) → n < count → IsRightSoFar (take n text)

-- a fault other than that the bytes end is the leftmost
abbrev pub LeftmostLaw : Type 0
LeftmostLaw = (text : List ℕ) (e : TokenError) → reading text ≡ Err e → e ≢ Truncated
    → IsLeftmost text e

-- where the bytes end too early, nothing is wrong with any front of them
abbrev pub CutLaw : Type 0
CutLaw = (text : List ℕ) → reading text ≡ Err Truncated → (n : ℕ) → IsRightSoFar (take n text)

-- want of memory is no fault of bytes
abbrev pub NoWantLaw : Type 0
NoWantLaw = (text : List ℕ) → reading text ≢ Err OutOfMemory
