-- What a command header names (AHCI 1.3.1, 4.2.2): its fields CFL, PRDTL, CTBA and CTBAU say it, and no other.
-- W and P are for prefetching, C is answered here at once, and there is no port multiplier, nor BIST.
use Rattle.std.specs.Prelude.{◌≡◌, List, ℕ}
use Rattle.slots.specs.Header.{fis_words, entry_count, table_at, table_upper}
use Rattle.host_memory.specs.declared.width.AddressWidth.{AddressWidth}
use Rattle.host_memory.specs.Memory.{header_of}

-- Headers that are alike in these four fields name the same.
abbrev pub HeaderLaw : Type 0
HeaderLaw =
    (width : AddressWidth) (one other : List ℕ) → fis_words one ≡ fis_words other
    → entry_count one ≡ entry_count other → table_at one ≡ table_at other
    → table_upper one ≡ table_upper other
    → header_of width one ≡ header_of width other
