-- What a seat knows after one try.
use Rattle.std.proofs.Common.{◌≡◌, ◌⊎◌, ℕ, ◌*◌, ◌^◌, ◌==◌, true, false, bit_and, bit_or, sym, ap, ◌∙◌, inl, inr, subst, arith, ⊎_elim, zero-mul, one-mul}
use Rattle.std.specs.Int.{bit_at}
use Rattle.std.proofs.lemmas.Nat.{pow_pos}
use Rattle.std.proofs.lemmas.Nat.Bits.{and_pow}
use mathlib.Core.Option.{none}
use Rattle.atomic_table.specs.Table.{Me, step}
use Rattle.locked_port.specs.declared.tag_board.plays.View.{View}
use Rattle.locked_port.specs.Rule.{view_of, with_try, tried_at, Claimed}
use Rattle.locked_port.proofs.tag_board.Bits.{bit_cases, pow_same}

clear_bit : (n k b : ℕ) → (b ≡ 0) ⊎ (b ≡ 1) → bit_and n (2 ^ k) ≡ b * 2 ^ k → bit_and n (2 ^ k) ≡ 0 → b ≡ 0
clear_bit n k b (inl z) e f = z
clear_bit n k b (inr z) e f = let p = pow_pos k in let is : bit_and n (2 ^ k) ≡ 2 ^ k = e ∙ ap (λ x. x * 2 ^ k) z ∙ one-mul (2 ^ k) in absurd (omega arith)

pub clear : (n k : ℕ) → bit_and n (2 ^ k) ≡ 0 → bit_at n k ≡ 0
clear n k e = clear_bit n k (bit_at n k) (bit_cases n k) (and_pow n k) e

pub set_bit : (n k : ℕ) → (bit_and n (2 ^ k) ≡ 0 → ⊥) → bit_at n k ≡ 1
set_bit n k ne = ⊎_elim (λ z. absurd (ne (and_pow n k ∙ ap (λ x. x * 2 ^ k) z ∙ zero-mul (2 ^ k)))) (λ z. z) (bit_cases n k)

pub free_told : (slots k mask found : ℕ) (me now : Me (Unit {0}) View) → Claimed (step slots 0 mask 0 none) me found now → mask ≡ 2 ^ k → bit_and found mask ≡ 0
    → (now.0 ≡ view_of (bit_or me.0.held mask) (with_try k me.0.tried false) me.0.halves) × (now.1 ≡ me.1) × (bit_at me.0.held k ≡ 0)
free_told slots k mask found me now t is e =
    let same : t.0 ≡ k = pow_same t.0 k (sym t.1 ∙ is) in
    let z : bit_at found k ≡ 0 = clear found k (ap (bit_and found) (sym is) ∙ e) in (
      t.2 ∙ ap (λ j. tried_at j (bit_at found j == 1) me.0) same ∙ ap (λ b. tried_at k (b == 1) me.0) z ∙ ap (λ m. view_of (bit_or me.0.held m) (with_try k me.0.tried false) me.0.halves) (sym is),
      t.3,
      subst (λ j. bit_at found j ≡ 0 → bit_at me.0.held j ≡ 0) same t.4 z,
    )

pub taken_told : (slots k mask found : ℕ) (me now : Me (Unit {0}) View) → Claimed (step slots 0 mask 0 none) me found now → mask ≡ 2 ^ k → (bit_and found mask ≡ 0 → ⊥)
    → (now.0 ≡ view_of me.0.held (with_try k me.0.tried true) me.0.halves) × (now.1 ≡ me.1)
taken_told slots k mask found me now t is ne =
    let same : t.0 ≡ k = pow_same t.0 k (sym t.1 ∙ is) in
    let z : bit_at found k ≡ 1 = set_bit found k (λ e. ne (ap (bit_and found) is ∙ e)) in (
      t.2 ∙ ap (λ j. tried_at j (bit_at found j == 1) me.0) same ∙ ap (λ b. tried_at k (b == 1) me.0) z,
      t.3,
    )
