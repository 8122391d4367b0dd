-- Bytes that a caller from outside is given.
use Rattle.std.specs.Prelude.{◌≡◌, ◌⊎◌, ℕ, ◌<◌, ◌≤◌, List, ◌++◌, length, drop}
use Rattle.library_calls.specs.declared.byte_calls.error.CallError.TheVariants.{OutOfMemory, Room}
use Rattle.library_calls.specs.declared.byte_calls.count.Count.{Count}
use Rattle.library_calls.specs.Counts.{given_count, refused_count}
use Rattle.library_calls.specs.Refusals.{code_of_call}

-- a buffer is too short for so many bytes
abbrev pub short_count : ℕ → Count
short_count number = record { code = code_of_call Room; number = number }

-- The bytes stand at the front of the buffer, or it has no room for them and is as before. Their number is told.
pub record IsCopied (bytes old new : List ℕ) (count : Count) : Type 0 where
  pub fits : length bytes ≤ length old → count ≡ given_count (length bytes)
  pub written : length bytes ≤ length old → new ≡ bytes ++ drop (length bytes) old
  pub short : length old < length bytes → count ≡ short_count (length bytes)
  pub kept : length old < length bytes → new ≡ old

-- The text was copied, or memory was refused and nothing was written.
abbrev pub IsWrittenOut : List ℕ → List ℕ → List ℕ → Count → Type 0
IsWrittenOut text old new count = IsCopied text old new count
    ⊎ ((count ≡ refused_count OutOfMemory) × (new ≡ old))
