-- Worked rows, computed from the definitions alone: words that a driver reads.
use Rattle.std.proofs.Common.{◌≡◌, ℕ, true, false, List, [], ◌∷◌, Some, None, refl}
use Rattle.history.specs.Answers.{ready, answer_fis}
use Rattle.host_memory.specs.declared.hba_memory.delivery.Arrival.{Arrival}
use Rattle.host_memory.specs.declared.hba_memory.miss.Miss.TheVariants as misses
use Rattle.hba.specs.declared.registers.Registers.{Registers}
use Rattle.hba.specs.Registers.{word_at}
use Rattle.hba.specs.Showing.{arrived}
use Rattle.hba.specs.History.{Opened, Operation, Wrote, Signed, Missed, Controlled, regs_of}

-- The word at an offset behind operations, the newest first.
abbrev reads : Opened → List Operation → ℕ → ℕ
reads o list offset = word_at (regs_of o list) offset

-- GHC.HR behind PxCLB, PxFB, PxIE and PxCMD, with IE (AHCI 1.3.1, 10.4.3): the two places stay.
abbrev resets : List Operation
resets =
    Wrote 0x004 3 ∷ Wrote 0x118 0x11 ∷ Wrote 0x114 0x40 ∷ Wrote 0x108 0x00101000
    ∷ Wrote 0x100 0x00100000 ∷ []

row_list_base : (o : Opened) → reads o resets 0x100 ≡ 0x00100000
row_list_base o = refl

row_fis_base : (o : Opened) → reads o resets 0x108 ≡ 0x00101000
row_fis_base o = refl

row_not_enabled : (o : Opened) → reads o resets 0x114 ≡ 0
row_not_enabled o = refl

row_stopped : (o : Opened) → reads o resets 0x118 ≡ 6
row_stopped o = refl

row_no_interrupts : (o : Opened) → reads o resets 0x004 ≡ 0x80000000
row_no_interrupts o = refl

-- PxCMD.CCS names the slot that was fetched last (3.3.7): slot 5, whose data, or whose header, are no
-- memory; slot 7, whose FIS carries no command. A completion that fails leaves it, and so does a
-- written ST that stays 1; ST 0 clears it.
abbrev starts : List Operation
starts = Wrote 0x118 0x11 ∷ []

row_slot_of_a_block : (o : Opened)
    → reads o (Missed (Some 5) misses.Block ∷ Wrote 0x138 0x20 ∷ starts) 0x118 ≡ 0xc517
row_slot_of_a_block o = refl

row_slot_of_a_header : (o : Opened)
    → reads o (Missed (Some 5) misses.List ∷ Wrote 0x138 0x20 ∷ starts) 0x118 ≡ 0xc517
row_slot_of_a_header o = refl

row_slot_of_control : (o : Opened)
    → reads o (Controlled 7 ∷ Wrote 0x138 0x80 ∷ starts) 0x118 ≡ 0xc717
row_slot_of_control o = refl

row_slot_of_a_completion : (o : Opened)
    → reads o (Missed None misses.Block ∷ Controlled 7 ∷ Wrote 0x138 0x80 ∷ starts) 0x118 ≡ 0xc717
row_slot_of_a_completion o = refl

row_slot_stays : (o : Opened)
    → reads o (Wrote 0x118 0x11 ∷ Controlled 7 ∷ Wrote 0x138 0x80 ∷ starts) 0x118 ≡ 0xc717
row_slot_stays o = refl

row_no_slot : (o : Opened)
    → reads o (Wrote 0x118 0x10 ∷ Missed (Some 5) misses.Block ∷ starts) 0x118 ≡ 0x4016
row_no_slot o = refl

-- PxIE has no bits 31, 25, 21 to 8 and 7 (3.3.6); PxCMD keeps ATAPI and DLAE, whatever ST is, and no
-- bit that CAP does not support (3.3.7).
row_enabled : (o : Opened) → reads o (Wrote 0x114 0xffffffff ∷ []) 0x114 ≡ 0x7dc0007f
row_enabled o = refl

row_kept_bits : (o : Opened) → reads o (Wrote 0x118 0xffffff10 ∷ []) 0x118 ≡ 0x03004016
row_kept_bits o = refl

row_packet_bit : (o : Opened)
    → reads o (Wrote 0x118 0x01000001 ∷ Wrote 0x118 0x02000000 ∷ []) 0x118 ≡ 0x01008007
row_packet_bit o = refl

-- PxSSTS.SPD is CAP.ISS, the second generation; PxSCTL.SPD 1 limits it once the link comes up, and
-- 2 and 3 do not (3.1.1, 3.3.10, 3.3.11).
row_speed : (o : Opened) → reads o [] 0x128 ≡ 0x123
row_speed o = refl

row_speed_limited : (o : Opened)
    → reads o (Wrote 0x12c 0x10 ∷ Wrote 0x12c 0x11 ∷ []) 0x128 ≡ 0x113
row_speed_limited o = refl

row_speed_not_yet : (o : Opened) → reads o (Wrote 0x12c 0x10 ∷ []) 0x128 ≡ 0x123
row_speed_not_yet o = refl

row_speed_of_a_faster_limit : (o : Opened)
    → reads o (Wrote 0x12c 0x30 ∷ Wrote 0x12c 0x31 ∷ []) 0x128 ≡ 0x123
row_speed_of_a_faster_limit o = refl

-- COMRESET (10.4.2) behind a signature and a PxSERR that was cleared: while DET is 1, PxTFD is 7Fh,
-- and PhyRdy has changed (PxSERR.DIAG.N, PxIS.PRCS); behind it COMINIT came (DIAG.X, PCS), and PxTFD is
-- 80h and PxSIG FFFFFFFFh until the signature.
abbrev heard : List Operation
heard = Signed ∷ Wrote 0x118 0x10 ∷ Wrote 0x130 0xffffffff ∷ []

abbrev falls : List Operation
falls = Wrote 0x12c 1 ∷ heard

abbrev rises : List Operation
rises = Wrote 0x12c 0 ∷ falls

row_heard : (o : Opened) → reads o heard 0x110 ≡ 0
row_heard o = refl

row_ready : (o : Opened) → reads o heard 0x120 ≡ 0x150
row_ready o = refl

row_down_errors : (o : Opened) → reads o falls 0x130 ≡ 0x00010000
row_down_errors o = refl

row_down_interrupts : (o : Opened) → reads o falls 0x110 ≡ 0x00400000
row_down_interrupts o = refl

row_down_task : (o : Opened) → reads o falls 0x120 ≡ 0x7f
row_down_task o = refl

row_up_errors : (o : Opened) → reads o rises 0x130 ≡ 0x04010000
row_up_errors o = refl

row_up_interrupts : (o : Opened) → reads o rises 0x110 ≡ 0x00400040
row_up_interrupts o = refl

row_up_task : (o : Opened) → reads o rises 0x120 ≡ 0x80
row_up_task o = refl

row_up_signature : (o : Opened) → reads o rises 0x124 ≡ 0xffffffff
row_up_signature o = refl

row_phy_cleared : (o : Opened) → reads o (Wrote 0x130 0x00010000 ∷ rises) 0x110 ≡ 0x40
row_phy_cleared o = refl

row_exchange_cleared : (o : Opened) → reads o (Wrote 0x130 0x04000000 ∷ rises) 0x110 ≡ 0x00400000
row_exchange_cleared o = refl

-- OFS (3.3.5) of a read whose data pass the PRDT: its FIS comes, PxCI is clear, and nothing halts (6.1).
-- A write is not done: PxCI keeps its bit, and the port halts.
abbrev issued : List Operation
issued = Wrote 0x138 1 ∷ Wrote 0x118 0x11 ∷ heard

abbrev cut : Arrival
cut = record { is_short = true; is_processed = false; missed = None }

abbrev read_cut : Opened → Registers
read_cut o = arrived 0 (answer_fis true ready 0 ∷ []) cut (regs_of o issued)

row_read_interrupts : (o : Opened) → word_at (read_cut o) 0x110 ≡ 0x01000001
row_read_interrupts o = refl

row_read_done : (o : Opened) → word_at (read_cut o) 0x138 ≡ 0
row_read_done o = refl

row_read_goes_on : (o : Opened) → (read_cut o).is_halted ≡ false
row_read_goes_on o = refl

row_write_interrupts : (o : Opened)
    → reads o (Missed (Some 0) misses.Overflow ∷ issued) 0x110 ≡ 0x01000000
row_write_interrupts o = refl

row_write_stays : (o : Opened) → reads o (Missed (Some 0) misses.Overflow ∷ issued) 0x138 ≡ 1
row_write_stays o = refl

row_write_halts : (o : Opened)
    → (regs_of o (Missed (Some 0) misses.Overflow ∷ issued)).is_halted ≡ true
row_write_halts o = refl

-- DPS (3.3.5) of a read whose descriptor asks for it: PxIS bit 5 beside the register FIS's, and where the
-- FIS has no place; a written 1 clears it, and PxIE.DPE lets it interrupt (3.3.6).
abbrev told : Arrival
told = record { is_short = false; is_processed = true; missed = None }

abbrev unreceived : Arrival
unreceived = record { is_short = false; is_processed = true; missed = Some misses.Block }

row_block_done : (o : Opened)
    → word_at (arrived 0 (answer_fis true ready 0 ∷ []) told (regs_of o issued)) 0x110 ≡ 0x21
row_block_done o = refl

row_block_before_a_fault : (o : Opened)
    → word_at (arrived 0 (answer_fis true ready 0 ∷ []) unreceived (regs_of o issued)) 0x110 ≡ 0x20000020
row_block_before_a_fault o = refl

row_block_interrupts : (o : Opened)
    → word_at (arrived 0 [] told (regs_of o (Wrote 0x114 0x20 ∷ issued))) 0x008 ≡ 1
row_block_interrupts o = refl

row_block_does_not : (o : Opened)
    → word_at (arrived 0 [] told (regs_of o (Wrote 0x114 0x5f ∷ issued))) 0x008 ≡ 0
row_block_does_not o = refl
