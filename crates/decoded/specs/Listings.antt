-- Lists of like lines: the words of IDENTIFY DEVICE that are not 0 (ACS-3, section 7.12), the logs that have pages (ACS-3,
-- General Purpose Log Directory), and of the IDENTIFY DEVICE data log the pages that a list names, and the quadwords of a
-- page that are not 0. Words and quadwords have the lowest byte first.
use Rattle.std.specs.Prelude.{ℕ, zero, suc, ◌+◌, ◌*◌, ◌==◌, Bool, ◌&&◌, ◌||◌, nat_le, List, [], ◌∷◌, ◌++◌, slice_index, codes, decimal, if◌then◌else◌}
use Rattle.decoded.specs.declared.listing.Listing.{Listing}
use Rattle.decoded.specs.declared.listing.Listing.TheVariants.{Words, Logs, Pages, Qwords}
use Rattle.decoded.specs.Fields.{octets_number, prefixed_hex, field_line}

-- the lines of the numbers below a bound
unfoldable pub lines_below : (ℕ → List ℕ) → ℕ → List ℕ
lines_below line zero = []
lines_below line (suc n) = lines_below line n ++ line n

-- the bytes of a word and of a quadword, the highest first
abbrev pub word_octets : List ℕ → ℕ → List ℕ
word_octets bytes n = slice_index bytes (2 * n + 1) ∷ slice_index bytes (2 * n) ∷ []

abbrev pub qword_octets : List ℕ → ℕ → List ℕ
qword_octets bytes n =
    slice_index bytes (8 * n + 7) ∷ slice_index bytes (8 * n + 6) ∷ slice_index bytes (8 * n + 5)
    ∷ slice_index bytes (8 * n + 4) ∷ slice_index bytes (8 * n + 3)
    ∷ slice_index bytes (8 * n + 2) ∷ slice_index bytes (8 * n + 1) ∷ slice_index bytes (8 * n)
    ∷ []

-- words 10 to 19 and 23 to 46 have the characters of names, which are told as texts
abbrev pub is_in_text : ℕ → Bool
is_in_text word = (nat_le 10 word && nat_le word 19) || (nat_le 23 word && nat_le word 46)

-- `Word 48 0x4001`
abbrev pub word_line : List ℕ → ℕ → List ℕ
word_line bytes n =
    if is_in_text n || (octets_number (word_octets bytes n) == 0) then []
    else field_line (codes "Word " ++ decimal n) (prefixed_hex (word_octets bytes n))

-- `Log 0x10 1`: how many pages a log has, by its address; word 0 is the version
abbrev pub log_pages_line : List ℕ → ℕ → List ℕ
log_pages_line bytes n =
    if (n == 0) || (octets_number (word_octets bytes n) == 0) then []
    else field_line (codes "Log " ++ prefixed_hex (n ∷ []))
    (decimal (octets_number (word_octets bytes n)))

-- `SupportedPage 0x06`: the numbers of pages stand behind how many there are
abbrev pub supported_page_line : List ℕ → ℕ → List ℕ
supported_page_line bytes n =
    field_line (codes "SupportedPage") (prefixed_hex (slice_index bytes (9 + n) ∷ []))

-- `Qword 5 0x8000000000000001`; quadword 0 is the header
abbrev pub qword_line : List ℕ → ℕ → List ℕ
qword_line bytes n =
    if (n == 0) || (octets_number (qword_octets bytes n) == 0) then []
    else field_line (codes "Qword " ++ decimal n) (prefixed_hex (qword_octets bytes n))

abbrev pub listing_line : Listing → List ℕ → ℕ → List ℕ
listing_line Words bytes n = word_line bytes n
listing_line Logs bytes n = log_pages_line bytes n
listing_line Pages bytes n = supported_page_line bytes n
listing_line Qwords bytes n = qword_line bytes n

abbrev pub listing_lines : Listing → List ℕ → ℕ → List ℕ
listing_lines listing bytes count = lines_below (listing_line listing bytes) count
