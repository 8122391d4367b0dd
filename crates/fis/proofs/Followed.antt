-- A writing is one whatever follows it.
use Rattle.std.proofs.Common.{◌≡◌, ℕ, ◌+◌, ◌<◌, ◌≤◌, List, [], ◌∷◌, ◌++◌, length, slice_index, refl, ◌∙◌, arith, lit<, length-append}
use Rattle.std.proofs.lemmas.List.{get_or_append_left}
use Rattle.fis.specs.Bytes.{AreClear, number_2, number_4, number_6}
use Rattle.fis.specs.declared.any.Fis.{Fis}
use Rattle.fis.specs.declared.any.Fis.TheVariants as fises
use Rattle.fis.specs.declared.h2d.RegH2d.{RegH2d}
use Rattle.fis.specs.declared.d2h.RegD2h.{RegD2h}
use Rattle.fis.specs.declared.set_device_bits.SetDeviceBits.{SetDeviceBits}
use Rattle.fis.specs.declared.dma_setup.DmaSetup.{DmaSetup}
use Rattle.fis.specs.declared.pio_setup.PioSetup.{PioSetup}
use Rattle.fis.specs.H2d.{IsH2d}
use Rattle.fis.specs.D2h.{IsD2h}
use Rattle.fis.specs.SetDeviceBits.{IsSetDeviceBits}
use Rattle.fis.specs.DmaSetup.{IsDmaSetup}
use Rattle.fis.specs.PioSetup.{IsPioSetup}
use Rattle.fis.specs.Fis.{IsWriting}

front : (a b : List ℕ) (n k : ℕ) → n ≤ length a → k < n → slice_index (a ++ b) k ≡ slice_index a k
front a b n k long lt = get_or_append_left a b 0 k (omega arith)

number_2-front : (a b : List ℕ) (n i j : ℕ) → n ≤ length a → i < n → j < n → number_2 (a ++ b) i j ≡ number_2 a i j
number_2-front a b n i j long p q = rw (front a b n i long p, front a b n j long q) refl

number_4-front : (a b : List ℕ) (n i : ℕ) → n ≤ length a → i + 3 < n → number_4 (a ++ b) i (i + 1) (i + 2) (i + 3) ≡ number_4 a i (i + 1) (i + 2) (i + 3)
number_4-front a b n i long lt =
    rw (front a b n i long (omega arith), front a b n (i + 1) long (omega arith), front a b n (i + 2) long (omega arith), front a b n (i + 3) long (omega arith)) refl

-- the bytes of an address of 48 bits
lba-front : (a b : List ℕ) → 20 ≤ length a → number_6 (a ++ b) 4 5 6 8 9 10 ≡ number_6 a 4 5 6 8 9 10
lba-front a b long =
    rw (front a b 20 4 long (lit< tt), front a b 20 5 long (lit< tt), front a b 20 6 long (lit< tt), front a b 20 8 long (lit< tt), front a b 20 9 long (lit< tt), front a b 20 10 long (lit< tt)) refl

abbrev AreBelow : ℕ → List ℕ → Type 0
AreBelow n [] = Unit {0}
AreBelow n (place ∷ places) = (place < n) × AreBelow n places

clear-front : (a b : List ℕ) (n : ℕ) (places : List ℕ) → n ≤ length a → AreBelow n places → AreClear a places → AreClear (a ++ b) places
clear-front a b n [] long below clear = tt
clear-front a b n (place ∷ places) long below clear =
    (front a b n place long below.0 ∙ clear.0, clear-front a b n places long below.1 clear.1)

longer : (a b : List ℕ) (n : ℕ) → n ≤ length a → n ≤ length (a ++ b)
longer a b n long = omega (arith, length-append a b)

h2d : (a b : List ℕ) (f : RegH2d) → IsH2d a f → IsH2d (a ++ b) f
h2d a b f h =
    record {
      long = longer a b 20 h.long;
      kind = front a b 20 0 h.long (lit< tt) ∙ h.kind;
      is_command = rw (front a b 20 1 h.long (lit< tt)) h.is_command;
      port = rw (front a b 20 1 h.long (lit< tt)) h.port;
      command = front a b 20 2 h.long (lit< tt) ∙ h.command;
      feature = number_2-front a b 20 3 11 h.long (lit< tt) (lit< tt) ∙ h.feature;
      lba = lba-front a b h.long ∙ h.lba;
      device = front a b 20 7 h.long (lit< tt) ∙ h.device;
      count = number_2-front a b 20 12 13 h.long (lit< tt) (lit< tt) ∙ h.count;
      icc = front a b 20 14 h.long (lit< tt) ∙ h.icc;
      control = front a b 20 15 h.long (lit< tt) ∙ h.control;
    }

d2h : (a b : List ℕ) (f : RegD2h) → IsD2h a f → IsD2h (a ++ b) f
d2h a b f h =
    record {
      long = longer a b 20 h.long;
      kind = front a b 20 0 h.long (lit< tt) ∙ h.kind;
      flags = front a b 20 1 h.long (lit< tt) ∙ h.flags;
      port_fits = h.port_fits;
      status = front a b 20 2 h.long (lit< tt) ∙ h.status;
      error = front a b 20 3 h.long (lit< tt) ∙ h.error;
      lba = lba-front a b h.long ∙ h.lba;
      device = front a b 20 7 h.long (lit< tt) ∙ h.device;
      count = number_2-front a b 20 12 13 h.long (lit< tt) (lit< tt) ∙ h.count;
      reserved = clear-front a b 20 (11 ∷ 14 ∷ 15 ∷ 16 ∷ 17 ∷ 18 ∷ 19 ∷ []) h.long (lit< tt, (lit< tt, (lit< tt, (lit< tt, (lit< tt, (lit< tt, (lit< tt, tt))))))) h.reserved;
    }

set_device_bits : (a b : List ℕ) (f : SetDeviceBits) → IsSetDeviceBits a f → IsSetDeviceBits (a ++ b) f
set_device_bits a b f h =
    record {
      long = longer a b 8 h.long;
      kind = front a b 8 0 h.long (lit< tt) ∙ h.kind;
      flags = front a b 8 1 h.long (lit< tt) ∙ h.flags;
      port_fits = h.port_fits;
      status = front a b 8 2 h.long (lit< tt) ∙ h.status;
      status_fits = h.status_fits;
      error = front a b 8 3 h.long (lit< tt) ∙ h.error;
      active = number_4-front a b 8 4 h.long (lit< tt) ∙ h.active;
    }

dma_setup : (a b : List ℕ) (f : DmaSetup) → IsDmaSetup a f → IsDmaSetup (a ++ b) f
dma_setup a b f h =
    record {
      long = longer a b 28 h.long;
      kind = front a b 28 0 h.long (lit< tt) ∙ h.kind;
      flags = front a b 28 1 h.long (lit< tt) ∙ h.flags;
      port_fits = h.port_fits;
      buffer_low = number_4-front a b 28 4 h.long (lit< tt) ∙ h.buffer_low;
      buffer_high = number_4-front a b 28 8 h.long (lit< tt) ∙ h.buffer_high;
      offset = number_4-front a b 28 16 h.long (lit< tt) ∙ h.offset;
      count = number_4-front a b 28 20 h.long (lit< tt) ∙ h.count;
      reserved = clear-front a b 28 (2 ∷ 3 ∷ 12 ∷ 13 ∷ 14 ∷ 15 ∷ 24 ∷ 25 ∷ 26 ∷ 27 ∷ []) h.long (lit< tt, (lit< tt, (lit< tt, (lit< tt, (lit< tt, (lit< tt, (lit< tt, (lit< tt, (lit< tt, (lit< tt, tt)))))))))) h.reserved;
    }

pio_setup : (a b : List ℕ) (f : PioSetup) → IsPioSetup a f → IsPioSetup (a ++ b) f
pio_setup a b f h =
    record {
      long = longer a b 20 h.long;
      kind = front a b 20 0 h.long (lit< tt) ∙ h.kind;
      flags = front a b 20 1 h.long (lit< tt) ∙ h.flags;
      port_fits = h.port_fits;
      status = front a b 20 2 h.long (lit< tt) ∙ h.status;
      error = front a b 20 3 h.long (lit< tt) ∙ h.error;
      lba = lba-front a b h.long ∙ h.lba;
      device = front a b 20 7 h.long (lit< tt) ∙ h.device;
      count = number_2-front a b 20 12 13 h.long (lit< tt) (lit< tt) ∙ h.count;
      end_status = front a b 20 15 h.long (lit< tt) ∙ h.end_status;
      transfer_count = number_2-front a b 20 16 17 h.long (lit< tt) (lit< tt) ∙ h.transfer_count;
      reserved = clear-front a b 20 (11 ∷ 14 ∷ 18 ∷ 19 ∷ []) h.long (lit< tt, (lit< tt, (lit< tt, (lit< tt, tt)))) h.reserved;
    }

pub is_writing_followed : (a b : List ℕ) (f : Fis) → IsWriting a f → IsWriting (a ++ b) f
is_writing_followed a b (fises.H2d f) h = h2d a b f h
is_writing_followed a b (fises.D2h f) h = d2h a b f h
is_writing_followed a b (fises.SetDeviceBits f) h = set_device_bits a b f h
is_writing_followed a b (fises.DmaSetup f) h = dma_setup a b f h
is_writing_followed a b (fises.PioSetup f) h = pio_setup a b f h
