-- Tags as the bits of a word.
use Rattle.std.proofs.Common.{◌≡◌, ℕ, ◌*◌, ◌^◌, ◌<◌, Bool, true, false, Some, refl, ap, sym, arith, ◌∙◌}
use Rattle.std.specs.Prelude.{◌==◌, ◌&&◌, bit_and, is_some, if◌then◌else◌}
use Rattle.std.specs.Int.{bit_at, w32, trailing_zeros}
use Rattle.std.proofs.lemmas.Nat.{pow_pos}
use Rattle.std.proofs.lemmas.Nat.Bits.{and_pow, bit_at-trailing_zeros}
use Rattle.hba_regs.specs.Registers.{has_bits}
use Rattle.hba.specs.declared.registers.Registers.{Registers}
use Rattle.hba.specs.Registers.{busy_bits}
use Rattle.fis.specs.Tags.{slot_count}
use Rattle.drive.specs.Queue.{held_at}
use Rattle.hba.specs.declared.work.Work.TheVariants as works
use Rattle.hba.specs.History.{State}
use Rattle.hba.specs.Ready.{is_working, is_telling, may_sign, may_fetch, may_complete, fetchable, completable, IsLeast, is_ready_on, ready_on, completions, picked}
use Rattle.hba.proofs.Works.{first_fetch, first_behind}

equal : (n m : ℕ) → n ≡ m → (n == m) ≡ true
equal n m h = grind arith

not_equal : (n m : ℕ) → (n ≡ m → ⊥) → (n == m) ≡ false
not_equal n m h = grind arith

bit_set : (word n : ℕ) → bit_at word n ≡ 1 → has_bits word (2 ^ n) ≡ true
bit_set word n e =
    equal (bit_and word (2 ^ n)) (2 ^ n) (and_pow word n ∙ ap (λ b. b * 2 ^ n) e ∙ omega arith)

bit_clear : (word n : ℕ) → bit_at word n ≡ 0 → has_bits word (2 ^ n) ≡ false
bit_clear word n e =
    let none : bit_and word (2 ^ n) ≡ 0 = and_pow word n ∙ ap (λ b. b * 2 ^ n) e ∙ omega arith in
    let some : 0 < 2 ^ n = pow_pos n in
    not_equal (bit_and word (2 ^ n)) (2 ^ n) (λ same. absurd (omega arith))

pub none_set : (n : ℕ) → has_bits 0 (2 ^ n) ≡ false
none_set n =
    let some : 0 < 2 ^ n = pow_pos n in
    not_equal 0 (2 ^ n) (λ same. absurd (omega arith))

pub least_of : (tags : ℕ) → 0 < tags → tags < 2 ^ 32
    → (trailing_zeros w32 tags < 32) × IsLeast tags (trailing_zeros w32 tags)
least_of tags some fits =
    let h = bit_at-trailing_zeros w32 tags some fits in (
      h.0,
      record {
        slot = h.0;
        has = bit_set tags (trailing_zeros w32 tags) h.1;
        least = λ n below. bit_clear tags n (h.2 n below);
      },
    )

and_true : (b : Bool) → b ≡ (b && true)
and_true true = refl
and_true false = refl

and_false : (b : Bool) → (b && false) ≡ false
and_false true = refl
and_false false = refl

-- What a word of the registers says of a tag.
by_fetch : (works idle : Bool) (issued n : ℕ)
    → has_bits (if works && idle then issued else 0) (2 ^ n) ≡ (works && has_bits issued (2 ^ n) && idle)
by_fetch true true issued n = and_true (has_bits issued (2 ^ n))
by_fetch true false issued n = none_set n ∙ sym (and_false (has_bits issued (2 ^ n)))
by_fetch false idle issued n = none_set n

pub fetch_tag : (regs : Registers) (n : ℕ) → has_bits (fetchable regs) (2 ^ n) ≡ may_fetch regs n
fetch_tag regs n =
    by_fetch (is_working regs) (bit_and regs.port.status busy_bits == 0) regs.port.issued n

by_complete : (works : Bool) (active n : ℕ)
    → has_bits (if works then active else 0) (2 ^ n) ≡ (works && has_bits active (2 ^ n))
by_complete true active n = refl
by_complete false active n = none_set n

pub complete_tag : (regs : Registers) (n : ℕ)
    → has_bits (completable regs) (2 ^ n) ≡ may_complete regs n
complete_tag regs n = by_complete (is_telling regs) regs.port.active n

-- What may be done, by the words.
none_fetched : (hba : State) (tags n : ℕ) → tags ≡ fetchable hba.registers → tags ≡ 0
    → is_ready_on hba (works.Fetch n) ≡ false
none_fetched hba tags n is none =
    sym (fetch_tag hba.registers n) ∙ ap (λ (w : ℕ). has_bits w (2 ^ n)) (sym is ∙ none) ∙ none_set n

pub none_completed : (hba : State) (tags n : ℕ) → tags ≡ completable hba.registers → tags ≡ 0
    → is_ready_on hba (works.Complete n) ≡ false
none_completed hba tags n is none =
    ap (λ (b : Bool). b && is_some (held_at hba.drive.queue n))
    (sym (complete_tag hba.registers n) ∙ ap (λ (w : ℕ). has_bits w (2 ^ n)) (sym is ∙ none) ∙ none_set n)

pub first_of_fetches : (hba : State) (tags t : ℕ) → tags ≡ fetchable hba.registers
    → may_sign hba.registers ≡ false → IsLeast tags t
    → picked 0 (ready_on hba) ≡ Some (works.Fetch t)
first_of_fetches hba tags t is unsigned least =
    first_fetch (is_ready_on hba) t unsigned least.slot
    (sym (fetch_tag hba.registers t) ∙ ap (λ (w : ℕ). has_bits w (2 ^ t)) (sym is) ∙ least.has)
    (λ n below. sym (fetch_tag hba.registers n) ∙ ap (λ (w : ℕ). has_bits w (2 ^ n)) (sym is) ∙ least.least n below)

pub first_of_others : (hba : State) (tags : ℕ) → tags ≡ fetchable hba.registers
    → may_sign hba.registers ≡ false → tags ≡ 0
    → picked 0 (ready_on hba) ≡ picked 0 (completions (is_ready_on hba) slot_count)
first_of_others hba tags is unsigned none =
    first_behind (is_ready_on hba) unsigned (λ n below. none_fetched hba tags n is none)
