-- FISes of several blocks, one after the other.
use Rattle.std.proofs.Common.{◌≡◌, ℕ, ◌^◌, zero, suc, nat_le, Bool, true, false, refl, ap, arith, ◌∙◌}
use Rattle.std.specs.Prelude.{bit_or}
use Rattle.std.specs.Int.Bits.{or_add_and}
use Rattle.std.proofs.lemmas.Nat.{and_or_self}
use Rattle.fis.specs.declared.pio_setup.PioSetup.{PioSetup}
use Rattle.hba_regs.specs.Registers.{Regs, without}
use Rattle.history.specs.Answers.{busy, ready}
use Rattle.port_history.specs.Registers.{shown, all_shown, pio_setup_bit}
use Rattle.hba.specs.Blocks.{setup_of, setups, read_setup, write_setup, BlocksLaw}

or_twice : (i b : ℕ) → bit_or (bit_or i b) b ≡ bit_or i b
or_twice i b =
    let sum = or_add_and (bit_or i b) b in
    let part = and_or_self b i in
    omega (arith, sum, part)

read_from : (is_first : Bool) (tag : ℕ) (regs : Regs) (f : PioSetup) (n : ℕ)
    → all_shown tag regs (setups is_first (read_setup f) n)
    ≡ shown tag regs (setup_of false (read_setup f) ready)
read_from is_first tag regs f zero = refl
read_from is_first tag regs f (suc n) =
    read_from false tag (shown tag regs (setup_of is_first (read_setup f) busy)) f n
    ∙ ap (λ (i : ℕ). let r : Regs = record regs {
      status = ready;
      error = f.error;
      interrupts = i;
      issued = without regs.issued (2 ^ tag);
    } in r) (or_twice regs.interrupts pio_setup_bit)

pub read_law : BlocksLaw read_setup
read_law tag regs f n = read_from true tag regs f n

write_from : (tag : ℕ) (regs : Regs) (f : PioSetup) (n : ℕ)
    → all_shown tag regs (setups false (write_setup f) n)
    ≡ shown tag regs (setup_of false (write_setup f) busy)
write_from tag regs f zero = refl
write_from tag regs f (suc n) =
    write_from tag (shown tag regs (setup_of false (write_setup f) busy)) f n
    ∙ ap (λ (i : ℕ). let r : Regs = record regs {
      status = busy;
      error = f.error;
      interrupts = i;
    } in r) (or_twice regs.interrupts pio_setup_bit)

several : (n : ℕ) → nat_le 2 (suc (suc n)) ≡ true
several n = grind arith

pub write_law : BlocksLaw write_setup
write_law tag regs f zero = refl
write_law tag regs f (suc n) =
    rw (several n) (write_from tag (shown tag regs (setup_of true (write_setup f) busy)) f n)
