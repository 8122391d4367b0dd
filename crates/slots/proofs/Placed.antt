-- A memory with a command in a slot.
use Rattle.std.proofs.Common.{◌≡◌, ℕ, ◌<◌, Bool, List, length, refl, ◌∙◌, arith}
use Rattle.std.proofs.Common.{⊎_elim}
use Rattle.std.proofs.lemmas.Bool.Decides.{eqb_tells}
use Rattle.slots.specs.Layout.{memory_size, header_place, table_place, buffer_place, memory_part, memory_with, zero_bytes}
use Rattle.slots.specs.Header.{header_bytes, entries_for}
use Rattle.slots.specs.Table.{entry_bytes, table_bytes}
use Rattle.slots.specs.Fetch.{HoldsCommand, IsApartFromParts, placed}
use Rattle.slots.proofs.Splices.{whole, apart, before, length_laid}
use Rattle.slots.proofs.Held.{length_zeros}

length_table : (buffer : ℕ) (command : List ℕ) (len : ℕ) → length command ≡ 20 → length (table_bytes buffer command len) ≡ 256
length_table buffer command len size =
    let long : length (memory_with (zero_bytes 256) 0 command) ≡ 256 = length_laid (zero_bytes 256) command 0 (omega (arith, size, length_zeros)) ∙ length_zeros in
    ⊎_elim
    (λ e. rw e.0 long)
    (λ e. rw e.0 (length_laid (memory_with (zero_bytes 256) 0 command) (entry_bytes buffer len) 0x80 (omega (arith, long)) ∙ long))
    (eqb_tells len 0)

pub placed_holds : (memory : List ℕ) (tag : ℕ) (command : List ℕ) (write : Bool) (len : ℕ) → length memory ≡ memory_size → tag < 32 → length command ≡ 20 → HoldsCommand (placed memory tag command write len) tag command write len
placed_holds memory tag command write len long below size =
    let header : List ℕ = header_bytes write (entries_for len) (table_place tag) in
    let first : length (memory_with memory (header_place tag) header) ≡ memory_size = length_laid memory header (header_place tag) (omega (arith, long)) ∙ long in
    record {
      header = before (memory_with memory (header_place tag) header) (table_bytes (buffer_place tag) command len) (table_place tag) (header_place tag) 32 (omega (arith, first)) (omega arith)
          ∙ whole memory header (header_place tag) 32 (omega (arith, long)) refl;
      table = whole (memory_with memory (header_place tag) header) (table_bytes (buffer_place tag) command len) (table_place tag) 256 (omega (arith, first)) (length_table (buffer_place tag) command len size);
    }

pub placed_apart : (memory : List ℕ) (tag : ℕ) (command : List ℕ) (write : Bool) (len place n : ℕ) → length memory ≡ memory_size → tag < 32 → length command ≡ 20 → IsApartFromParts place n (header_place tag) 32 → IsApartFromParts place n (table_place tag) 256 → memory_part (placed memory tag command write len) place n ≡ memory_part memory place n
placed_apart memory tag command write len place n long below size first second =
    let header : List ℕ = header_bytes write (entries_for len) (table_place tag) in
    let kept : length (memory_with memory (header_place tag) header) ≡ memory_size = length_laid memory header (header_place tag) (omega (arith, long)) ∙ long in
    apart (memory_with memory (header_place tag) header) (table_bytes (buffer_place tag) command len) (table_place tag) 256 place n (length_table (buffer_place tag) command len size) (omega (arith, kept)) second
    ∙ apart memory header (header_place tag) 32 place n refl (omega (arith, long)) first
