-- A memory with a FIS of the device.
use Rattle.std.proofs.Common.{◌≡◌, ℕ, ◌+◌, ◌≤◌, List, length, arith, inl, inr, ⊎_elim, sym, subst}
use Rattle.fis.specs.declared.any.Fis.{Fis}
use Rattle.fis.specs.declared.any.Fis.TheVariants as fises
use Rattle.fis.specs.Fis.{IsSpelling}
use Rattle.slots.specs.Layout.{memory_size, received_place, fis_length, memory_part, memory_with}
use Rattle.slots.specs.Fetch.{IsApartFromParts}
use Rattle.slots.proofs.Splices.{apart, whole}

narrower : (place n at m : ℕ) → 0x400 ≤ at → at + m ≤ 0x500 → IsApartFromParts place n 0x400 0x100 → IsApartFromParts place n at m
narrower place n at m low high = ⊎_elim (λ h. inl (omega arith)) (λ h. inr (omega arith))

pub posted_apart : (memory : List ℕ) (f : Fis) (bytes : List ℕ) → IsSpelling bytes f → length memory ≡ memory_size → (place n : ℕ) → IsApartFromParts place n 0x400 0x100 → memory_part (memory_with memory (received_place f) bytes) place n ≡ memory_part memory place n
posted_apart memory (fises.H2d f) bytes spelled long place n h = apart memory bytes 0x460 20 place n spelled.1 (omega (arith, long)) (narrower place n 0x460 20 (omega arith) (omega arith) h)
posted_apart memory (fises.D2h f) bytes spelled long place n h = apart memory bytes 0x440 20 place n spelled.1 (omega (arith, long)) (narrower place n 0x440 20 (omega arith) (omega arith) h)
posted_apart memory (fises.SetDeviceBits f) bytes spelled long place n h = apart memory bytes 0x458 8 place n spelled.1 (omega (arith, long)) (narrower place n 0x458 8 (omega arith) (omega arith) h)
posted_apart memory (fises.DmaSetup f) bytes spelled long place n h = apart memory bytes 0x400 28 place n spelled.1 (omega (arith, long)) (narrower place n 0x400 28 (omega arith) (omega arith) h)
posted_apart memory (fises.PioSetup f) bytes spelled long place n h = apart memory bytes 0x420 20 place n spelled.1 (omega (arith, long)) (narrower place n 0x420 20 (omega arith) (omega arith) h)

reaches : (f : Fis) (memory : List ℕ) → length memory ≡ memory_size → received_place f + fis_length f ≤ length memory
reaches (fises.H2d f) memory long = omega (arith, long)
reaches (fises.D2h f) memory long = omega (arith, long)
reaches (fises.SetDeviceBits f) memory long = omega (arith, long)
reaches (fises.DmaSetup f) memory long = omega (arith, long)
reaches (fises.PioSetup f) memory long = omega (arith, long)

spelled_length : (f : Fis) (bytes : List ℕ) → IsSpelling bytes f → length bytes ≡ fis_length f
spelled_length (fises.H2d f) bytes spelled = spelled.1
spelled_length (fises.D2h f) bytes spelled = spelled.1
spelled_length (fises.SetDeviceBits f) bytes spelled = spelled.1
spelled_length (fises.DmaSetup f) bytes spelled = spelled.1
spelled_length (fises.PioSetup f) bytes spelled = spelled.1

pub posted_stands : (memory : List ℕ) (f : Fis) (bytes : List ℕ) → IsSpelling bytes f → length memory ≡ memory_size → IsSpelling (memory_part (memory_with memory (received_place f) bytes) (received_place f) (fis_length f)) f
posted_stands memory f bytes spelled long =
    subst (λ (xs : List ℕ). IsSpelling xs f)
    (sym (whole memory bytes (received_place f) (fis_length f) (omega (arith, reaches f memory long)) (spelled_length f bytes spelled))) spelled

pub posted_beside : (memory : List ℕ) (f : Fis) (bytes : List ℕ) → IsSpelling bytes f → length memory ≡ memory_size → (place n : ℕ) → IsApartFromParts place n (received_place f) (fis_length f) → memory_part (memory_with memory (received_place f) bytes) place n ≡ memory_part memory place n
posted_beside memory f bytes spelled long place n h =
    apart memory bytes (received_place f) (fis_length f) place n (spelled_length f bytes spelled) (reaches f memory long) h
