-- PxCMD without its bit ST.
use Rattle.std.proofs.Common.{◌≡◌, ℕ, ◌-◌, ◌^◌, bit_and, ◌∙◌}
use Rattle.std.proofs.lemmas.Nat.{and_assoc}
use Rattle.std.specs.Int.Bits.{and_zero_r}

pub start_clear : (bits : ℕ) → bit_and (bit_and bits (2 ^ 32 - 1 - 1)) 1 ≡ 0
start_clear bits = and_assoc 1 bits 0xfffffffe ∙ and_zero_r bits

pub receive_stays : (bits : ℕ) → bit_and (bit_and bits (2 ^ 32 - 1 - 1)) 0x10 ≡ bit_and bits 0x10
receive_stays bits = and_assoc 0x10 bits 0xfffffffe
