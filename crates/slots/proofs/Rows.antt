-- Worked rows of a command header, from its layout (AHCI 1.3.1, 4.2.2): CFL is bits 4 to 0 of the first byte, A bit 5, W bit 6
-- and P bit 7; PRDTL stands at byte 2, and CTBA at byte 8.
use Rattle.std.proofs.Common.{◌≡◌, true, false, [], ◌∷◌, ◌++◌, replicate, refl}
use Rattle.slots.specs.Header.{header_bytes, fis_words, is_write}

row_write : header_bytes true 1 0x800
    ≡ 0x45 ∷ 0 ∷ 1 ∷ 0 ∷ 0 ∷ 0 ∷ 0 ∷ 0 ∷ 0 ∷ 8 ∷ 0 ∷ 0 ∷ replicate 20 0
row_write = refl

row_read : header_bytes false 0x102 0x12345680
    ≡ 0x05 ∷ 0 ∷ 2 ∷ 1 ∷ 0 ∷ 0 ∷ 0 ∷ 0 ∷ 0x80 ∷ 0x56 ∷ 0x34 ∷ 0x12 ∷ replicate 20 0
row_read = refl

-- Bit 6 alone is W.
row_of_w : is_write (0x45 ∷ []) ≡ true
row_of_w = refl

row_of_others : is_write (0xa5 ∷ []) ≡ false
row_of_others = refl

row_of_words : fis_words (0xe5 ∷ []) ≡ 5
row_of_words = refl
