-- Numbers in hex digits: how many digits they have, and that they read back.
use Rattle.std.proofs.Common.{◌≡◌, ℕ, zero, suc, ◌+◌, ◌*◌, ◌/◌, ◌%◌, ◌^◌, ◌<◌, ◌≤◌, ◌==◌, true, false, nat_le, List, [], ◌∷◌, length, refl, ap, arith, Some, inl, inr}
use Rattle.std.specs.List.{list_all}
use Rattle.std.specs.Char.{is_digit}
use Rattle.std.specs.Str.Parse.{AllDigits}
use Rattle.std.specs.Fmt.{digits, digits_onto, digit_glyph}
use Rattle.std.proofs.Math.Nat.{pow-le-pow_right, pow-suc}
use Rattle.std.proofs.lemmas.Bool.{cases_Bool}
use Rattle.std.proofs.lemmas.Bool.Decides.{nat_tests}
use Rattle.std.proofs.lemmas.Fmt.{digits_is_IsNumeral}
use Rattle.hba_program.specs.Laws.{NumberLaw}

pub below_sixteen : (i number : ℕ) → i ≤ 15 → number < 16 ^ i → number < 1152921504606846976
below_sixteen i number few small = let more : 16 ^ i ≤ 16 ^ 15 = pow-le-pow_right (omega arith) few in omega (arith, more, small)

pub below_most : (i most number : ℕ) → i ≤ most → number < 16 ^ i → number < 16 ^ most
below_most i most number few small = let more : 16 ^ i ≤ 16 ^ most = pow-le-pow_right (omega arith) few in omega (arith, more, small)

one_digit : (n : ℕ) → n < 16 ^ 1 → (n / 16 == 0) ≡ true
one_digit n small = grind (arith, nat_tests)

short : (k p n : ℕ) (acc : List ℕ) → n < 16 ^ suc p → length (digits_onto k 16 false n acc) ≤ suc p + length acc
short zero p n acc small = omega arith
short (suc k) zero n acc small = let one = one_digit n small in rw one (omega arith)
short (suc k) (suc q) n acc small =
    elim (cases_Bool (n / 16 == 0)) [
      | inl one ↦ rw one (omega arith)
      | inr more ↦
          let wide : 16 ^ suc (suc q) ≡ 16 ^ suc q * 16 = pow-suc 16 (suc q) in
          let less : n / 16 < 16 ^ suc q = omega (arith, wide, small) in
          let rest = short k q (n / 16) (digit_glyph false (n % 16) ∷ acc) less in
          rw more (omega (arith, rest))
    ]

length-digits : (most n : ℕ) → 0 < most → n < 16 ^ most → length (digits 16 false n) ≤ most
unfolding digits
length-digits zero n some small = absurd (omega arith)
length-digits (suc p) n some small = let few = short 64 p n [] small in omega (arith, few)

all_hex : (text : List ℕ) → AllDigits 16 text → list_all (λ c. is_digit c 16) text ≡ true
all_hex [] all = refl
all_hex (c ∷ cs) all =
    let rest = all_hex cs all.1 in
    let one : is_digit c 16 ≡ true = grind (arith, nat_tests, all.0) in
    rw (one, rest) refl

pub numbers : NumberLaw
numbers most n some few small =
    let wide : n < 16 ^ 64 = below_most most 64 n (omega (arith, few)) small in
    let is = digits_is_IsNumeral 16 false (omega arith) (omega arith) n wide in
    let len = length-digits most n some small in
    let front : (length (digits 16 false n) == 0) ≡ false = grind (arith, nat_tests, is.0.0) in
    let enough : nat_le (length (digits 16 false n)) most ≡ true = grind (arith, nat_tests, len) in
    let all = all_hex (digits 16 false n) is.0.1 in
    rw (front, enough, all) (ap Some is.1)
