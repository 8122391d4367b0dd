-- The reset of a ComID's protocol stack: what asks for it, and what is told of it (Core 2.01, section 3.3.4.7.5; Opal SSC 2.01,
-- section 3.2.2).
use Rattle.std.specs.Prelude.{List, ℕ, ◌+◌, ◌*◌, ◌^◌, ◌==◌, ◌&&◌, Bool, true, false, nat_le, length, take, ◌++◌, replicate}
use Rattle.std.specs.Int.{w16, w32, w64, to_be_bytes, from_be_bytes}

-- the code of the request
abbrev pub stack_reset_code : ℕ
stack_reset_code = 2

-- A request: the ComID, two bytes of its extension, which are 0, and the code. What stands behind is not looked at.
abbrev pub stack_request : ℕ → ℕ
stack_request com_id = com_id * 2 ^ 48 + stack_reset_code

abbrev pub is_stack_reset : ℕ → List ℕ → Bool
is_stack_reset com_id payload =
    nat_le 8 (length payload) && from_be_bytes w64 (take 8 payload) == stack_request com_id

-- What is told: the ComID and its extension, the code of the request, two reserved bytes, how many bytes follow, and that it was
-- done, which is 0. Where nothing is to be told, the code is 0, and none follow.
abbrev pub stack_answer : ℕ → Bool → List ℕ
stack_answer com_id true =
    to_be_bytes w16 com_id ++ replicate 2 0 ++ to_be_bytes w32 stack_reset_code ++ replicate 2 0
    ++ to_be_bytes w16 4 ++ replicate 4 0
stack_answer com_id false = to_be_bytes w16 com_id ++ replicate 14 0
