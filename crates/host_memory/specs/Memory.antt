-- What the engine asks of the host's memory, and what comes of the answers (AHCI 1.3.1, section 4).
-- An access that is refused ends it: the engine asks for nothing more.
use Rattle.std.specs.Prelude.{◌≡◌, ℕ, ◌+◌, ◌-◌, ◌*◌, ◌%◌, ◌/◌, ◌^◌, min, ◌==◌, ◌&&◌, ◌||◌, not, zero, suc, nat_le, Bool, true, false, List, [], ◌∷◌, ◌++◌, length, take, drop, slice_index, Option, Some, None, Result, Ok, Err, if◌then◌else◌}
use Rattle.byteorder.specs.Endian.{little_bytes}
use Rattle.fis.specs.Fis.{IsSpelling}
use Rattle.fis.specs.declared.any.Fis.{Fis}
use Rattle.fis.specs.declared.any.Fis.TheVariants as kinds
use Rattle.slots.specs.Layout.{descriptor_size, descriptors_at, received_at, received_place}
use Rattle.slots.specs.Header.{fis_words, command_fis_words, entry_count, table_at, table_upper, table_alignment, little_endian_at}
use Rattle.slots.specs.Table.{byte_count_field}
use Rattle.host_memory.specs.declared.width.AddressWidth.{AddressWidth}
use Rattle.host_memory.specs.declared.width.AddressWidth.TheVariants as widths
use Rattle.host_memory.specs.Access.{Access, Asked, Laid}
use Rattle.host_memory.specs.declared.hba_memory.miss.Miss.{Miss}
use Rattle.host_memory.specs.declared.hba_memory.miss.Miss.TheVariants as misses
use Rattle.host_memory.specs.declared.hba_memory.reading.Header.{Header}
use Rattle.host_memory.specs.declared.hba_memory.reading.Moved.{Moved}
use Rattle.host_memory.specs.declared.hba_memory.delivery.Arrival.{Arrival}
use Rattle.host_memory.specs.declared.hba_memory.delivery.Place.{Place}

-- Whether an address has an upper half.
abbrev pub has_upper : AddressWidth → Bool
has_upper widths.Bits32 = false
has_upper widths.Bits64 = true

-- An address by its two halves.
abbrev pub upper_half : ℕ → ℕ
upper_half upper = 0x100000000 * upper

-- CFL is 16 at most (4.2.2), and the words that a command's FIS has at least (Serial ATA, Register FIS
-- to the device): what is shorter is none. CTBAU is 0 where CAP.S64A is.
abbrev pub is_sound_header : AddressWidth → List ℕ → Bool
is_sound_header width header =
    nat_le command_fis_words (fis_words header) && nat_le (fis_words header) 16
    && (has_upper width || table_upper header == 0)

-- CTBA, a multiple of 128, and CTBAU (4.2.2).
abbrev pub command_table_of : List ℕ → ℕ
command_table_of header =
    table_at header - table_at header % table_alignment + upper_half (table_upper header)

-- What the bytes of a header name.
abbrev pub header_of : AddressWidth → List ℕ → Result Header Miss
header_of width bytes =
    if is_sound_header width bytes
    then Ok (record { table = command_table_of bytes; entries = entry_count bytes })
    else Err misses.Table

-- And what the answer of memory names.
abbrev pub header_by : AddressWidth → Option (List ℕ) → Result Header Miss
header_by width None = Err misses.List
header_by width (Some bytes) = header_of width bytes

-- Where the descriptors stand.
abbrev pub descriptors_of : Header → ℕ
descriptors_of header = header.table + descriptors_at

-- DBA and DBAU; the address is even, and DBC names an even count (4.2.3.3).
abbrev pub data_at : List ℕ → ℕ
data_at entry = little_endian_at 8 entry 0 - little_endian_at 8 entry 0 % 2

abbrev pub data_len : List ℕ → ℕ
data_len entry = 2 * (byte_count_field entry / 2) + 2 * (byte_count_field entry % 2)

-- I, the highest bit of a descriptor (4.2.3.3): the host asks to be told when its block is done.
abbrev pub asks_interrupt : List ℕ → Bool
asks_interrupt entry = nat_le 0x80 (slice_index entry 15)

-- A block of which so many bytes moved is done, and the host asks to be told (3.3.5, DPS: a descriptor
-- with I has transferred all of its data).
abbrev pub processes : List ℕ → ℕ → Bool
processes entry n = asks_interrupt entry && n == data_len entry

-- In an access of a descriptor's block.
abbrev pub processed_in : List ℕ → Access → Bool
processed_in entry (Asked at n None) = false
processed_in entry (Asked at n (Some bytes)) = processes entry n
processed_in entry (Laid at bytes false) = false
processed_in entry (Laid at bytes true) = processes entry (length bytes)

-- In one of the accesses of a PRDT, which read a descriptor and then move its block; behind a
-- descriptor, or in front of the next.
abbrev pub processed_behind : Option (List ℕ) → List Access → Bool
processed_behind entry [] = false
processed_behind None (Laid at bytes is_done ∷ later) = processed_behind None later
processed_behind None (Asked at n answer ∷ later) = processed_behind answer later
processed_behind (Some entry) (block ∷ later) =
    processed_in entry block || processed_behind None later

abbrev pub has_processed : List Access → Bool
has_processed talk = processed_behind None talk

-- How bytes moved by accesses.
abbrev pub moved_by : List Access → ℕ → Moved
moved_by talk n = record { len = n; is_processed = has_processed talk }

-- What is brought, as bytes.
abbrev pub brought_as : {V : Type 0} → (V → List ℕ) → Result V Miss → Result (List ℕ) Miss
brought_as bytes (Ok v) = Ok (bytes v)
brought_as bytes (Err miss) = Err miss

-- Bytes, and then what comes behind them.
abbrev pub then_bytes : List ℕ → Result (List ℕ) Miss → Result (List ℕ) Miss
then_bytes bytes (Ok more) = Ok (bytes ++ more)
then_bytes bytes (Err miss) = Err miss

-- The bytes of a block are brought, and those of the blocks behind it.
abbrev pub BringsBlock : Option (List ℕ) → (List Access → Result (List ℕ) Miss → Type 0)
    → List Access → Result (List ℕ) Miss → Type 0
BringsBlock None Rest talk brought = (talk ≡ []) × (brought ≡ Err misses.Block)
BringsBlock (Some bytes) Rest talk brought =
    (more : Result (List ℕ) Miss) × Rest talk more × (brought ≡ then_bytes bytes more)

abbrev pub BringsEntry : Option (List ℕ) → ℕ
    → (ℕ → List Access → Result (List ℕ) Miss → Type 0)
    → List Access → Result (List ℕ) Miss → Type 0
BringsEntry None left Rest talk brought = (talk ≡ []) × (brought ≡ Err misses.Table)
BringsEntry (Some entry) left Rest talk brought =
    (block : Option (List ℕ)) × (later : List Access)
    × (talk ≡ Asked (data_at entry) (min left (data_len entry)) block ∷ later)
    × BringsBlock block (Rest (left - data_len entry)) later brought

abbrev pub BringsNext : Bool → ℕ → ℕ → (ℕ → List Access → Result (List ℕ) Miss → Type 0)
    → List Access → Result (List ℕ) Miss → Type 0
BringsNext true at left Rest talk brought = (talk ≡ []) × (brought ≡ Ok [])
BringsNext false at left Rest talk brought =
    (entry : Option (List ℕ)) × (later : List Access)
    × (talk ≡ Asked at descriptor_size entry ∷ later) × BringsEntry entry left Rest later brought

-- So many bytes are brought of the blocks that so many descriptors from an address on name. A
-- descriptor is read where bytes are wanted of its block alone.
abbrev pub Gathers : ℕ → ℕ → ℕ → List Access → Result (List ℕ) Miss → Type 0
Gathers at zero left talk brought =
    (talk ≡ []) × (brought ≡ (if left == 0 then Ok [] else Err misses.Overflow))
Gathers at (suc n) left talk brought =
    BringsNext (left == 0) at left (Gathers (at + descriptor_size) n) talk brought

-- Bytes of a block are written, and those of the blocks behind it.
abbrev pub TakesBlock : Bool → (List Access → Option Miss → Type 0)
    → List Access → Option Miss → Type 0
TakesBlock false Rest talk missed = (talk ≡ []) × (missed ≡ Some misses.Block)
TakesBlock true Rest talk missed = Rest talk missed

abbrev pub TakesEntry : Option (List ℕ) → List ℕ → (List ℕ → List Access → Option Miss → Type 0)
    → List Access → Option Miss → Type 0
TakesEntry None bytes Rest talk missed = (talk ≡ []) × (missed ≡ Some misses.Table)
TakesEntry (Some entry) bytes Rest talk missed =
    (is_done : Bool) × (later : List Access)
    × (talk ≡ Laid (data_at entry) (take (data_len entry) bytes) is_done ∷ later)
    × TakesBlock is_done (Rest (drop (data_len entry) bytes)) later missed

abbrev pub TakesNext : Bool → ℕ → List ℕ → (List ℕ → List Access → Option Miss → Type 0)
    → List Access → Option Miss → Type 0
TakesNext true at bytes Rest talk missed = (talk ≡ []) × (missed ≡ None)
TakesNext false at bytes Rest talk missed =
    (entry : Option (List ℕ)) × (later : List Access)
    × (talk ≡ Asked at descriptor_size entry ∷ later) × TakesEntry entry bytes Rest later missed

-- Bytes are laid over the blocks that so many descriptors from an address on name. A descriptor is
-- read where bytes go to its block alone.
abbrev pub Scatters : ℕ → ℕ → List ℕ → List Access → Option Miss → Type 0
Scatters at zero bytes talk missed =
    (talk ≡ []) × (missed ≡ (if length bytes == 0 then None else Some misses.Overflow))
Scatters at (suc n) bytes talk missed =
    TakesNext (length bytes == 0) at bytes (Scatters (at + descriptor_size) n) talk missed

-- How many bytes accesses have written.
abbrev pub written_by : List Access → ℕ
written_by [] = 0
written_by (Asked at n answer ∷ later) = written_by later
written_by (Laid at bytes false ∷ later) = written_by later
written_by (Laid at bytes true ∷ later) = length bytes + written_by later

-- A write, and what is missed where it is refused.
abbrev pub missed_unless : Bool → Miss → Option Miss
missed_unless is_done miss = if is_done then None else Some miss

-- PRDBC, in the header at an address, counts the bytes that moved, where some did (4.2.2).
abbrev pub CountsIf : Bool → ℕ → ℕ → List Access → Option Miss → Type 0
CountsIf true header n talk missed = (talk ≡ []) × (missed ≡ None)
CountsIf false header n talk missed =
    (is_done : Bool) × (talk ≡ Laid (header + 4) (little_bytes 4 (n % 2 ^ 32)) is_done ∷ [])
    × (missed ≡ missed_unless is_done misses.List)

abbrev pub Counts : ℕ → ℕ → List Access → Option Miss → Type 0
Counts header n talk missed = CountsIf (n == 0) header n talk missed

-- A register FIS with ERR in its status (ACS-3, Status field).
abbrev pub tells_error : Fis → Bool
tells_error (kinds.D2h f) = f.status % 2 == 1
tells_error (kinds.H2d f) = false
tells_error (kinds.PioSetup f) = false
tells_error (kinds.DmaSetup f) = false
tells_error (kinds.SetDeviceBits f) = false

-- Whether the device took the bytes that were brought: it fails a command by such a FIS before it asks
-- for data, by DMA Activate or PIO Setup (Serial ATA, device command layer).
abbrev pub takes_data : List Fis → Bool
takes_data [] = true
takes_data (fis ∷ more) = not (tells_error fis)

-- How many it took of so many.
abbrev pub data_taken : List Fis → ℕ → ℕ
data_taken fises n = if takes_data fises then n else 0

-- Where a FIS stands among those received (4.2.1).
abbrev pub offset_of : Fis → ℕ
offset_of fis = received_place fis - received_at

abbrev pub PostsOne : Bool → (List Access → Option Miss → Type 0) → List Access → Option Miss
    → Type 0
PostsOne false Rest talk missed = (talk ≡ []) × (missed ≡ Some misses.Fis)
PostsOne true Rest talk missed = Rest talk missed

-- FISes are received at an address, in their order.
abbrev pub Posts : ℕ → List Fis → List Access → Option Miss → Type 0
Posts at [] talk missed = (talk ≡ []) × (missed ≡ None)
Posts at (fis ∷ more) talk missed =
    (bytes : List ℕ) × (is_done : Bool) × (later : List Access) × IsSpelling bytes fis
    × (talk ≡ Laid (at + offset_of fis) bytes is_done ∷ later)
    × PostsOne is_done (Posts at more) later missed

-- They are received where they have a place.
abbrev pub PostsTo : Option ℕ → List Fis → List Access → Option Miss → Type 0
PostsTo None fises talk missed = (talk ≡ []) × (missed ≡ None)
PostsTo (Some at) fises talk missed = Posts at fises talk missed

-- One thing, and then another unless something was missed.
abbrev pub After : Option Miss → (List Access → Option Miss → Type 0) → List Access → Option Miss
    → Type 0
After (Some miss) Next talk missed = (talk ≡ []) × (missed ≡ Some miss)
After None Next talk missed = Next talk missed

abbrev pub Then : (List Access → Option Miss → Type 0) → (List Access → Option Miss → Type 0)
    → List Access → Option Miss → Type 0
Then First Next talk missed =
    (before later : List Access) × (first : Option Miss) × (talk ≡ before ++ later)
    × First before first × After first Next later missed

-- The PRDT has no room for some bytes.
abbrev pub runs_short : Option Miss → Bool
runs_short None = false
runs_short (Some misses.List) = false
runs_short (Some misses.Table) = false
runs_short (Some misses.Block) = false
runs_short (Some misses.Overflow) = true
runs_short (Some misses.Fis) = false

-- What ends a command of which data were laid: they end at the end of the PRDT, and that is no fatal
-- error (3.3.5, OFS; 6.1).
abbrev pub ending : Option Miss → Option Miss
ending None = None
ending (Some misses.List) = Some misses.List
ending (Some misses.Table) = Some misses.Table
ending (Some misses.Block) = Some misses.Block
ending (Some misses.Overflow) = None
ending (Some misses.Fis) = Some misses.Fis

-- The count is written, and then FISes, unless the data ended by what was missed.
abbrev pub EndsBy : Option Miss → (List Access → Option Miss → Type 0)
    → (List Access → Option Miss → Type 0) → List Access → Option Miss → Type 0
EndsBy None Counting Posting talk missed = Then Counting Posting talk missed
EndsBy (Some miss) Counting Posting talk missed =
    (untold : Option Miss) × Counting talk untold × (missed ≡ Some miss)

-- What an act gives reaches the memory: its data, as far as the PRDT and the memory go; the count of
-- the bytes that moved, where so many were brought; and its FISes. DPS is told of
-- blocks of either direction.
abbrev pub Delivers : Place → Moved → List Fis → List ℕ → List Access → Arrival → Type 0
Delivers place brought fises bytes talk arrival =
    (before later : List Access) × (laid : Option Miss) × (talk ≡ before ++ later)
    × Scatters (descriptors_of place.header) place.header.entries bytes before laid
    × (arrival.is_short ≡ runs_short laid)
    × (arrival.is_processed
    ≡ (takes_data fises && brought.is_processed || has_processed before))
    × EndsBy (ending laid)
    (Counts place.at (data_taken fises brought.len + written_by before)) (PostsTo place.to fises)
    later arrival.missed
