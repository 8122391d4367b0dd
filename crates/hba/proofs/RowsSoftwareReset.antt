-- Worked rows of a software reset, computed from the definitions alone (AHCI 1.3.1, 10.4.1).
use Rattle.std.proofs.Common.{◌≡◌, ℕ, true, false, List, [], ◌∷◌, refl}
use Rattle.history.specs.History.{SoftwareReset}
use Rattle.hba.specs.Registers.{word_at}
use Rattle.hba.specs.SoftwareReset.{resets_behind}
use Rattle.hba.specs.History.{Opened, Operation, Wrote, Signed, Asserted, Restarted, Unheard, acts_of, regs_of}

abbrev reads : Opened → List Operation → ℕ → ℕ
reads o list offset = word_at (regs_of o list) offset

-- Behind a signature and a cleared PxSERR, with bit 3 of PxSACT set: slot 0 is issued, and SRST is set.
abbrev first : List Operation
first = Asserted 0 ∷ Wrote 0x138 1 ∷ Wrote 0x134 8 ∷ Wrote 0x118 0x11 ∷ Signed ∷ Wrote 0x118 0x10 ∷ Wrote 0x130 0xffffffff ∷ []

abbrev second : List Operation
second = Restarted 0 ∷ Wrote 0x138 1 ∷ first

row_first_issue : (o : Opened) → reads o first 0x138 ≡ 0
row_first_issue o = refl

row_first_task : (o : Opened) → reads o first 0x120 ≡ 0x150
row_first_task o = refl

row_first_acts : (o : Opened) → acts_of o first ≡ []
row_first_acts o = refl

row_second_issue : (o : Opened) → reads o second 0x138 ≡ 0
row_second_issue o = refl

row_second_task : (o : Opened) → reads o second 0x120 ≡ 0x150
row_second_task o = refl

row_second_signature : (o : Opened) → reads o second 0x124 ≡ 0x101
row_second_signature o = refl

-- Bit I of the signature's FIS is 0, and PxSACT is not cleared by it (3.3.13).
row_second_interrupts : (o : Opened) → reads o second 0x110 ≡ 0
row_second_interrupts o = refl

row_second_active : (o : Opened) → reads o second 0x134 ≡ 8
row_second_active o = refl

row_second_acts : (o : Opened) → acts_of o second ≡ SoftwareReset ∷ []
row_second_acts o = refl

-- A command that comes in between leaves BSY, and its bit of PxCI.
row_busy : (o : Opened) → reads o (Unheard 0 ∷ Wrote 0x138 1 ∷ first) 0x120 ≡ 0x1d0
row_busy o = refl

row_waits : (o : Opened) → reads o (Unheard 0 ∷ Wrote 0x138 1 ∷ first) 0x138 ≡ 1
row_waits o = refl

-- SRST is bit 2 of byte 15 of a register FIS, 27h; nIEN, bit 1, is none, and another FIS leaves it.
row_set : resets_behind false (0x27 ∷ 0 ∷ 0 ∷ 0 ∷ 0 ∷ 0 ∷ 0 ∷ 0 ∷ 0 ∷ 0 ∷ 0 ∷ 0 ∷ 0 ∷ 0 ∷ 0 ∷ 0x04 ∷ 0 ∷ 0 ∷ 0 ∷ 0 ∷ []) ≡ true
row_set = refl

row_clear : resets_behind true (0x27 ∷ 0 ∷ 0 ∷ 0 ∷ 0 ∷ 0 ∷ 0 ∷ 0 ∷ 0 ∷ 0 ∷ 0 ∷ 0 ∷ 0 ∷ 0 ∷ 0 ∷ 0x02 ∷ 0 ∷ 0 ∷ 0 ∷ 0 ∷ []) ≡ false
row_clear = refl

row_left : resets_behind true (0x58 ∷ 0 ∷ 0 ∷ 0 ∷ 0 ∷ 0 ∷ 0 ∷ 0 ∷ 0 ∷ 0 ∷ 0 ∷ 0 ∷ 0 ∷ 0 ∷ 0 ∷ 0 ∷ 0 ∷ 0 ∷ 0 ∷ 0 ∷ []) ≡ true
row_left = refl
