-- A slot whose header and table are written as they are placed is fetched as it was placed.
use Rattle.std.proofs.Common.{◌≡◌, ℕ, ◌+◌, ◌-◌, ◌*◌, ◌%◌, ◌^◌, ◌<◌, ◌≤◌, Bool, true, false, nat_eq, List, [], ◌++◌, length, refl, sym, ap, ◌∙◌, arith, Ok, Some}
use Rattle.std.specs.Prelude.{◌==◌, ◌&&◌, nat_le}
use Rattle.std.proofs.Common.{⊎_elim}
use Rattle.std.proofs.lemmas.Bool.{eq-eqb, le-leb}
use Rattle.std.proofs.lemmas.Bool.Decides.{eqb_tells}
use Rattle.std.proofs.lemmas.List.{take_all, length-replicate}
use Rattle.byteorder.specs.Endian.{little_bytes}
use Rattle.byteorder.specs.Numbers.{little_number-reads_back}
use Rattle.slots.specs.Layout.{memory_size, buffer_size, table_place, buffer_place, memory_part, memory_with, zero_bytes}
use Rattle.slots.specs.Header.{header_bytes, entries_for, fis_words, is_write, entry_count, table_at, has_table}
use Rattle.slots.specs.Table.{entry_bytes, table_bytes, is_command, is_sound, address, byte_count_field, entry_at, descriptors}
use Rattle.slots.specs.Fetch.{HoldsCommand, fetched, transfer, table_fis}
use Rattle.slots.proofs.Splices.{inside, before, length_laid, part_of_part}

-- What a written header is read as.
words_read : (write : Bool) (e table : ℕ) → fis_words (header_bytes write e table) ≡ 5
words_read true e table = refl
words_read false e table = refl

write_read : (write : Bool) (e table : ℕ) → is_write (header_bytes write e table) ≡ write
write_read true e table = refl
write_read false e table = refl

entries_read : (write : Bool) (e table : ℕ) → e < 65536 → entry_count (header_bytes write e table) ≡ e
entries_read write e table fits = little_number-reads_back 2 e (little_bytes 4 0 ++ little_bytes 4 table ++ little_bytes 4 0 ++ little_bytes 16 0) fits

table_read : (write : Bool) (e table : ℕ) → table < 2 ^ 32 → table_at (header_bytes write e table) ≡ table
table_read write e table fits = little_number-reads_back 4 table (little_bytes 4 0 ++ little_bytes 16 0) fits

reaches : (e table : ℕ) → table % 128 ≡ 0 → table + 0x80 + 16 * e ≤ memory_size → (table % 128 == 0 && 0 == 0 && nat_le (table + 0x80 + 16 * e) memory_size) ≡ true
reaches e table aligned within = rw (eq-eqb (table % 128) 0 aligned, le-leb (table + 0x80 + 16 * e) memory_size within) refl

table_there : (write : Bool) (e table : ℕ) → e < 65536 → table < 2 ^ 32 → table % 128 ≡ 0 → table + 0x80 + 16 * e ≤ memory_size → has_table (header_bytes write e table) ≡ true
table_there write e table few fits aligned within = rw (table_read write e table fits, entries_read write e table few) (reaches e table aligned within)

-- What a written descriptor is read as.
address_read : (a len : ℕ) → a < 2 ^ 32 → address (entry_bytes a len) ≡ a
address_read a len fits = little_number-reads_back 4 a (little_bytes 4 0 ++ little_bytes 4 0 ++ little_bytes 4 (len - 1)) fits

count_read : (a len : ℕ) → 0 < len → len ≤ 131072 → byte_count_field (entry_bytes a len) ≡ len
count_read a len some fits = rw (little_number-reads_back 4 (len - 1) [] (omega arith)) (omega arith)

entry_sound : (a len : ℕ) → a % 2 ≡ 0 → len % 2 ≡ 0 → 0 < len → len ≤ 131072 → a + len ≤ memory_size → is_sound (entry_bytes a len) ≡ true
entry_sound a len even pairs some fits within = rw (address_read a len (omega arith), count_read a len some fits, eq-eqb (a % 2) 0 even, eq-eqb (len % 2) 0 pairs, le-leb (a + len) memory_size within) refl

-- The parts of a written table.
pub length_zeros : length (zero_bytes 256) ≡ 256
unfolding zero_bytes
length_zeros = length-replicate {A = ℕ} 256 0

front_of : (command : List ℕ) → length command ≡ 20 → memory_part (memory_with (zero_bytes 256) 0 command) 0 20 ≡ command
front_of command size = inside (zero_bytes 256) command 0 0 20 (omega arith) (omega (arith, size)) ∙ take_all 20 command (omega (arith, size))

fis_there : (buffer : ℕ) (command : List ℕ) (len : ℕ) → length command ≡ 20 → memory_part (table_bytes buffer command len) 0 20 ≡ command
fis_there buffer command len size =
    let long : length (memory_with (zero_bytes 256) 0 command) ≡ 256 = length_laid (zero_bytes 256) command 0 (omega (arith, size, length_zeros)) ∙ length_zeros in
    ⊎_elim
    (λ e. rw e.0 (front_of command size))
    (λ e. rw e.0 (before (memory_with (zero_bytes 256) 0 command) (entry_bytes buffer len) 0x80 0 20 (omega (arith, long)) (omega arith) ∙ front_of command size))
    (eqb_tells len 0)

entry_there : (buffer : ℕ) (command : List ℕ) (len : ℕ) → length command ≡ 20 → nat_eq len 0 ≡ false → memory_part (table_bytes buffer command len) 0x80 16 ≡ entry_bytes buffer len
entry_there buffer command len size some =
    let long : length (memory_with (zero_bytes 256) 0 command) ≡ 256 = length_laid (zero_bytes 256) command 0 (omega (arith, size, length_zeros)) ∙ length_zeros in
    rw some (inside (memory_with (zero_bytes 256) 0 command) (entry_bytes buffer len) 0x80 0 16 (omega (arith, long)) (omega arith))

-- What is read of a slot that holds a command.
fis_read : (memory : List ℕ) (tag : ℕ) (command : List ℕ) (write : Bool) (len : ℕ) → length command ≡ 20 → is_command command ≡ true → HoldsCommand memory tag command write len → table_fis memory (table_place tag) ≡ Some command
fis_read memory tag command write len size is holds =
    let at : table_place tag + 0 ≡ table_place tag = omega arith in
    let found : memory_part (memory_part memory (table_place tag) 256) 0 20 ≡ memory_part memory (table_place tag + 0) 20 = part_of_part memory (table_place tag) 256 0 20 (omega arith) in
    let front : memory_part (memory_part memory (table_place tag) 256) 0 20 ≡ command = rw holds.table (fis_there (buffer_place tag) command len size) in
    let here : memory_part memory (table_place tag) 20 ≡ command = sym (rw at at found) ∙ front in
    rw (here, is) refl

one_entry : (memory : List ℕ) (table a len : ℕ) → entry_at memory table 0 ≡ entry_bytes a len → a % 2 ≡ 0 → len % 2 ≡ 0 → 0 < len → len ≤ 131072 → a + len ≤ memory_size → transfer (descriptors memory table 1) ≡ Some len
one_entry memory table a len here even pairs some fits within =
    let sum : 0 + len ≡ len = omega arith in
    rw (here, entry_sound a len even pairs some fits within, count_read a len some fits, sum, le-leb len buffer_size fits) refl

transfer_read : (memory : List ℕ) (tag : ℕ) (command : List ℕ) (write : Bool) (len : ℕ) → tag < 32 → length command ≡ 20 → len % 2 ≡ 0 → len ≤ 131072 → HoldsCommand memory tag command write len → transfer (descriptors memory (table_place tag) (entries_for len)) ≡ Some len
transfer_read memory tag command write len below size pairs fits holds =
    ⊎_elim
    (λ e. rw (e.0, e.1) refl)
    (λ e. let at : table_place tag + 0x80 + 16 * 0 ≡ table_place tag + 0x80 = omega arith in
    let found : memory_part memory (table_place tag + 0x80) 16 ≡ entry_bytes (buffer_place tag) len =
    sym (part_of_part memory (table_place tag) 256 0x80 16 (omega arith)) ∙ ap (λ xs. memory_part xs 0x80 16) holds.table ∙ entry_there (buffer_place tag) command len size e.0 in
    let here : entry_at memory (table_place tag) 0 ≡ entry_bytes (buffer_place tag) len = rw at found in
    rw e.0 (one_entry memory (table_place tag) (buffer_place tag) len here (omega arith) pairs (omega (arith, e.1)) fits (omega arith)))
    (eqb_tells len 0)

few_entries : (len : ℕ) → entries_for len ≤ 1
few_entries len = ⊎_elim (λ e. rw e.0 (omega arith)) (λ e. rw e.0 (omega arith)) (eqb_tells len 0)

pub held : (memory : List ℕ) (tag : ℕ) (command : List ℕ) (write : Bool) (len : ℕ) → tag < 32 → length command ≡ 20 → is_command command ≡ true → len % 2 ≡ 0 → len ≤ 131072 → HoldsCommand memory tag command write len → fetched memory tag ≡ Ok (record { fis = command; write = write; len = len })
held memory tag command write len below size is pairs fits holds =
    let e : ℕ = entries_for len in
    let few : e ≤ 1 = few_entries len in
    let named : has_table (header_bytes write e (table_place tag)) ≡ true = table_there write e (table_place tag) (omega (arith, few)) (omega arith) (omega arith) (omega (arith, few)) in
    rw (holds.header, words_read write e (table_place tag), named, table_read write e (table_place tag) (omega arith), entries_read write e (table_place tag) (omega (arith, few)), transfer_read memory tag command write len below size pairs fits holds, fis_read memory tag command write len size is holds, write_read write e (table_place tag)) refl
