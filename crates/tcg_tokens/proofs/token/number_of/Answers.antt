use Rattle.std.proofs.Common.{◌≡◌, ◌<◌, ◌^◌, drop, length, arith, length-drop, false}
use Rattle.std.specs.Prelude.{nat_lt}
use Rattle.tcg_tokens.specs.Lexeme.{number_from}
use Rattle.tcg_tokens.proofs.Numbers.{too_big}
use Rattle.tcg_tokens.proofs.token.number_of.Goals as goal

pub returns-then-number : goal.returns-then-number
returns-then-number c =
    let some : 0 < length (drop c.loop-byte.byte-index c.args.content.now) = omega (arith, length-drop c.loop-byte.byte-index c.args.content.now) in
    let big : nat_lt (number_from 0 c.args.content.now) (2 ^ 64) ≡ false = rw (← c.loop-byte.invariant) (too_big c.loop-byte.number (drop c.loop-byte.byte-index c.args.content.now) some (omega arith)) in
    rw big
