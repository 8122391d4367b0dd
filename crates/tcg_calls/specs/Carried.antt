-- What a response can carry.
use Rattle.std.specs.Prelude.{Bool, ◌&&◌, nat_le}
use Rattle.tcg_tokens.specs.Message.{Message}
use Rattle.tcg_tokens.specs.Length.{len_of}
use Rattle.tcg_tokens.specs.Writable.{is_writable}
use Rattle.tcg_calls.specs.Limits.{most_response}

-- an answer that has a writing, which is not too long
abbrev pub is_carried : Message → Bool
is_carried m = is_writable m && nat_le (len_of m) most_response
