-- Bytes of flags over a port.
use Rattle.std.proofs.Common.{◌≡◌, ℕ, ◌+◌, ◌*◌, ◌/◌, ◌%◌, ◌<◌, Bool, true, nat_eq, bit_and, refl, eq-eqb, eqb-true}
use Rattle.std.specs.Prelude.{not, ◌||◌}
use Rattle.std.proofs.lemmas.Bool.{agree_below_at}
use Rattle.fis.specs.Bytes.{bit}

abbrev flag : ℕ → ℕ → ℕ
flag b worth = bit (nat_eq (bit_and (b / worth) 1) 1)

abbrev test_one : ℕ → Bool
test_one b = not (nat_eq (b / 128) 0) || (not (nat_eq (bit_and (b / 16) 3) 0) || nat_eq b (64 * flag b 64 + b % 16))

use_one : (b : ℕ) → test_one b ≡ true → b / 128 ≡ 0 → bit_and (b / 16) 3 ≡ 0 → b ≡ 64 * flag b 64 + b % 16
use_one b e h k = eqb-true _ _ (rw (eq-eqb (b / 128) 0 h, eq-eqb (bit_and (b / 16) 3) 0 k) at e)

pub one_flag : (b : ℕ) → b < 256 → b / 128 ≡ 0 → bit_and (b / 16) 3 ≡ 0 → b ≡ 64 * bit (nat_eq (bit_and (b / 64) 1) 1) + b % 16
one_flag b lt h k = use_one b (agree_below_at test_one (λ _. true) 256 b refl lt) h k

abbrev test_three : ℕ → Bool
test_three b = not (nat_eq (bit_and (b / 16) 1) 0) || nat_eq b (128 * bit (nat_eq (b / 128) 1) + 64 * flag b 64 + 32 * flag b 32 + b % 16)

use_three : (b : ℕ) → test_three b ≡ true → bit_and (b / 16) 1 ≡ 0 → b ≡ 128 * bit (nat_eq (b / 128) 1) + 64 * flag b 64 + 32 * flag b 32 + b % 16
use_three b e h = eqb-true _ _ (rw (eq-eqb (bit_and (b / 16) 1) 0 h) at e)

pub three_flags : (b : ℕ) → b < 256 → bit_and (b / 16) 1 ≡ 0 → b ≡ 128 * bit (nat_eq (b / 128) 1) + 64 * bit (nat_eq (bit_and (b / 64) 1) 1) + 32 * bit (nat_eq (bit_and (b / 32) 1) 1) + b % 16
three_flags b lt h = use_three b (agree_below_at test_three (λ _. true) 256 b refl lt) h

abbrev test_two : ℕ → Bool
test_two b = not (nat_eq (b / 128) 0) || (not (nat_eq (bit_and (b / 16) 1) 0) || nat_eq b (64 * flag b 64 + 32 * flag b 32 + b % 16))

use_two : (b : ℕ) → test_two b ≡ true → b / 128 ≡ 0 → bit_and (b / 16) 1 ≡ 0 → b ≡ 64 * flag b 64 + 32 * flag b 32 + b % 16
use_two b e h k = eqb-true _ _ (rw (eq-eqb (b / 128) 0 h, eq-eqb (bit_and (b / 16) 1) 0 k) at e)

pub two_flags : (b : ℕ) → b < 256 → b / 128 ≡ 0 → bit_and (b / 16) 1 ≡ 0 → b ≡ 64 * bit (nat_eq (bit_and (b / 64) 1) 1) + 32 * bit (nat_eq (bit_and (b / 32) 1) 1) + b % 16
two_flags b lt h k = use_two b (agree_below_at test_two (λ _. true) 256 b refl lt) h k
