use Rattle.std.proofs.Common.{◌≡◌, ◌-◌, ◌+◌, ◌*◌, length}
use Rattle.tcg_tokens.specs.Gives.{rest_of}
use Rattle.tcg_tokens.specs.Reading.{values_up_to, list_with, value_after_token}
use Rattle.tcg_tokens.proofs.skip.+skip.Given as goal

abbrev pub decreases-skip_value : goal.decreases-skip_value
decreases-skip_value l = 2 * l.room

abbrev pub decreases-skip_named : goal.decreases-skip_named
decreases-skip_named l = 2 * l.room + 1

abbrev pub decreases-skip_values : goal.decreases-skip_values
decreases-skip_values l = 2 * l.room + 1

abbrev pub invariant-skip_values-loop : goal.invariant-skip_values-loop
invariant-skip_values-loop l = rest_of (values_up_to (value_after_token l.room) (length l.bytes - l.counter) l.rest) ≡ rest_of (list_with (value_after_token l.room) l.bytes)
