-- How long the writer's spelling is, as a machine number.
use Rattle.std.specs.Prelude.{ℕ, ◌-◌, ◌^◌, min, length}
use Rattle.tcg_tokens.specs.Message.{Message}
use Rattle.tcg_tokens.specs.Spelling.{item_spelling_of}

-- a length, or the largest number of 64 bits where it is past that
abbrev pub capped_length : ℕ → ℕ
capped_length n = min n (2 ^ 64 - 1)

abbrev pub len_of : Message → ℕ
len_of m = capped_length (length (item_spelling_of m))
