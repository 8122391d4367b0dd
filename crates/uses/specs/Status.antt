-- The status of a method's response (TCG Core 2.01, 5.1.5).
use Rattle.std.specs.Prelude.{ℕ, Option, None, Some, slice_index}
use Rattle.tcg_tokens.specs.Message.{Message, reply}

-- the first number of its status list; what is no response has none
abbrev pub status_in : Message → Option ℕ
status_in (reply results status) = Some (slice_index status 0)
status_in _ = None
