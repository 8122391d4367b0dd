-- What a written word leaves, bits by bits.
use Rattle.std.proofs.Common.{◌≡◌, ℕ, ◌*◌, ◌^◌, ◌<◌, zero, suc, Bool, true, false, bit_and, refl, ap, arith, ◌∙◌}
use Rattle.std.specs.Prelude.{◌==◌, bit_or, if◌then◌else◌}
use Rattle.std.specs.Int.{bit_at}
use Rattle.std.proofs.lemmas.Nat.{and_assoc}
use Rattle.std.proofs.lemmas.Nat.Bits.{and_pow, bit_at-lt}
use Rattle.std.specs.Int.Bits.{and_zero_r}
use Rattle.hba_regs.specs.declared.register.Register.TheVariants.{Command, Active, Issue}
use Rattle.hba_regs.specs.Registers.{Regs, word, run_if, has_bits}
use Rattle.hba_regs.specs.AccessTypes.{PortAccessLaw}

-- Bits that a mask keeps.
pub kept_bits : (value mask : ℕ) → bit_and mask mask ≡ mask → bit_and (bit_and value mask) mask ≡ bit_and value mask
kept_bits value mask e = and_assoc mask value mask ∙ ap (bit_and value) e

-- And bits that it drops.
pub dropped_bits : (value mask bits : ℕ) → bit_and mask bits ≡ 0 → bit_and (bit_and value mask) bits ≡ 0
dropped_bits value mask bits e = and_assoc bits value mask ∙ ap (bit_and value) e ∙ and_zero_r value

by_one : (word bit is : ℕ) → word ≡ is * bit → is < 2 → 0 < bit → (if word == bit then bit else 0) ≡ word
by_one word bit zero e l p = grind arith
by_one word bit (suc zero) e l p = grind arith
by_one word bit (suc (suc n)) e l p = absurd (omega arith)

-- A bit is in a word, or not.
pub one_bit : (value k : ℕ) → 0 < 2 ^ k → (if has_bits value (2 ^ k) then 2 ^ k else 0) ≡ bit_and value (2 ^ k)
one_bit value k p = by_one (bit_and value (2 ^ k)) (2 ^ k) (bit_at value k) (and_pow value k) (bit_at-lt value k) p

-- PxCMD.
start_of : (st receives : Bool) (regs : Regs)
    → bit_and (word (run_if st (record regs { receiving = receives })) Command) 0x1 ≡ (if st then 1 else 0)
start_of true true regs = refl
start_of true false regs = refl
start_of false true regs = refl
start_of false false regs = refl

receive_of : (st receives : Bool) (regs : Regs)
    → bit_and (word (run_if st (record regs { receiving = receives })) Command) 0x10 ≡ (if receives then 0x10 else 0)
receive_of true true regs = refl
receive_of true false regs = refl
receive_of false true regs = refl
receive_of false false regs = refl

others_of : (st receives : Bool) (regs : Regs)
    → bit_and (word (run_if st (record regs { receiving = receives })) Command) 0xffff3fee ≡ 0
others_of true true regs = refl
others_of true false regs = refl
others_of false true regs = refl
others_of false false regs = refl

-- PxSACT and PxCI.
pub active_of : (st : Bool) (regs : Regs) (value : ℕ)
    → bit_and (word (if st then record regs { active = bit_or regs.active value } else regs) Active) 0xffffffff
    ≡ bit_and (if st then bit_or regs.active value else regs.active) 0xffffffff
active_of true regs value = refl
active_of false regs value = refl

pub issued_of : (st : Bool) (regs : Regs) (value : ℕ)
    → bit_and (word (if st then record regs { issued = bit_or regs.issued value } else regs) Issue) 0xffffffff
    ≡ bit_and (if st then bit_or regs.issued value else regs.issued) 0xffffffff
issued_of true regs value = refl
issued_of false regs value = refl

pub access_law : PortAccessLaw
access_law regs value =
    let st = has_bits value 0x1 in
    let receives = has_bits value 0x10 in (
      kept_bits value 0xfffffc00 refl,
      (
        dropped_bits value 0xfffffc00 0x3ff refl,
        (
          refl,
          (
            kept_bits value 0xffffff00 refl,
            (
              dropped_bits value 0xffffff00 0xff refl,
              (
                refl,
                (
                  refl,
                  (
                    refl,
                    (
                      tt,
                      (
                        tt,
                        (
                          receive_of st receives regs ∙ one_bit value 4 (omega arith),
                          (
                            start_of st receives regs ∙ one_bit value 0 (omega arith),
                            (
                              others_of st receives regs,
                              (
                                refl,
                                (
                                  refl,
                                  (
                                    refl,
                                    (
                                      refl,
                                      (
                                        refl,
                                        (active_of regs.running regs value, (issued_of regs.running regs value, tt)),
                                      ),
                                    ),
                                  ),
                                ),
                              ),
                            ),
                          ),
                        ),
                      ),
                    ),
                  ),
                ),
              ),
            ),
          ),
        ),
      ),
    )
