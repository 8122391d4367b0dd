-- Sectors that nothing has written: what is read of them stands whatever bytes the writes before wrote. And random bytes,
-- which are others by another seed.
use Rattle.std.specs.Prelude.{ℕ, suc, ◌+◌, ◌-◌, ◌*◌, ◌^◌, ◌%◌, ◌==◌, nat_le, Bool, true, false, not, ◌&&◌, ◌||◌, List, [], ◌∷◌, ◌++◌, map, take, length, codes, Option, None, Some, if◌then◌else◌}
use Rattle.std.specs.Str.{bytes_eq}
use Rattle.script_lines.specs.Words.{nth_word, after_words}
use Rattle.sp_cells.specs.Config.{Config, seeded_config}
use Rattle.compacket.specs.Frames.{headers_size}
use Rattle.judged.specs.SessionNumbers.{data_place}
use Rattle.judged.specs.Transcripts.{with_line_end, remarks_text}
use Rattle.judged.specs.declared.entry.Entry.{Entry}

-- a hex digit for another one, of which no bit is the same
abbrev pub other_digit : ℕ → ℕ
other_digit byte =
    if nat_le 48 byte && nat_le byte 53 then 150 - byte
    else if nat_le 54 byte && nat_le byte 57 then 111 - byte
    else if nat_le 97 byte && nat_le byte 102 then 150 - byte
    else if nat_le 65 byte && nat_le byte 70 then 118 - byte
    else byte

-- which word of a line, from 0, says the byte that it writes
abbrev pub byte_place : List ℕ → Option ℕ
byte_place line =
    if bytes_eq (nth_word 0 line) (codes "dwrite") then Some 4
    else if bytes_eq (nth_word 0 line) (codes "write") then Some 5
    else if bytes_eq (nth_word 0 line) (codes "put")
    && (bytes_eq (nth_word 3 line) (codes "write") || bytes_eq (nth_word 3 line) (codes "dwrite"))
    then Some 6
    else None

-- a line, of which what stands behind so many words has other digits
abbrev pub with_other_digits : ℕ → List ℕ → List ℕ
with_other_digits words line =
    take (length line - length (after_words words line)) line
    ++ map other_digit (after_words words line)

-- a line that writes another byte, where it writes one
abbrev pub other_line_by : Option ℕ → List ℕ → List ℕ
other_line_by None line = line
other_line_by (Some words) line = with_other_digits words line

abbrev pub other_line : List ℕ → List ℕ
other_line line = other_line_by (byte_place line) line

-- an `expect` line, which looks at what was printed
abbrev pub expects : List ℕ → Bool
expects line = bytes_eq (nth_word 0 line) (codes "expect")

-- the text of a script in which every line writes another byte: without what is expected, and without
-- remarks behind a line
abbrev pub other_text : Entry → List ℕ
other_text entry =
    if entry.number == 0 then remarks_text entry
    else if expects entry.line then []
    else with_line_end (other_line entry.line)

-- the first of some lines, or an empty one
abbrev pub first_answer : List (List ℕ) → List ℕ
first_answer [] = []
first_answer (line ∷ lines) = line

-- a hex digit, as it is printed
abbrev pub is_digit : ℕ → Bool
is_digit byte = (nat_le 48 byte && nat_le byte 57) || (nat_le 97 byte && nat_le byte 102)

-- a digit for one that is zero, also where other bytes were written
abbrev pub is_blank_digit : ℕ → ℕ → ℕ → Bool
is_blank_digit heard wanted other = is_digit heard && wanted == 48 && other == 48

abbrev pub may_be : ℕ → ℕ → ℕ → Bool
may_be heard wanted other = heard == wanted || is_blank_digit heard wanted other

-- two lines differ in such digits alone
abbrev pub differs_in_blanks : List ℕ → List ℕ → List ℕ → Bool
differs_in_blanks [] [] [] = true
differs_in_blanks [] [] (z ∷ zs) = false
differs_in_blanks [] (y ∷ ys) other = false
differs_in_blanks (x ∷ xs) [] other = false
differs_in_blanks (x ∷ xs) (y ∷ ys) [] = false
differs_in_blanks (x ∷ xs) (y ∷ ys) (z ∷ zs) =
    may_be x y z && differs_in_blanks xs ys zs

-- a read that was served, and differs in such digits alone
abbrev pub differs_by_blanks : List ℕ → List ℕ → List ℕ → Bool
differs_by_blanks heard wanted other =
    bytes_eq (take 3 wanted) (codes "ok ") && differs_in_blanks heard wanted other

-- A drive whose random bytes are others. A byte is the top byte of a sum with the seed, so that each one has 88h more, and
-- both of its digits are others.
abbrev pub other_seed : ℕ → ℕ
other_seed seed = (seed + 0x88 * 2 ^ 56) % 2 ^ 64

abbrev pub other_config : Config → Config
other_config config = seeded_config config (other_seed config.seed)

-- a digit of tokens, behind the headers, at its place of a line `data HEX`, for one that is another where random bytes are
-- others
abbrev pub is_random_digit : ℕ → ℕ → ℕ → ℕ → Bool
is_random_digit place heard wanted other =
    nat_le (data_place + 2 * headers_size) place && is_digit heard && not (wanted == other)

abbrev pub may_be_random : ℕ → ℕ → ℕ → ℕ → Bool
may_be_random place heard wanted other =
    heard == wanted || is_random_digit place heard wanted other

-- two lines, from this place on, differ in such digits alone
abbrev pub differs_in_random : ℕ → List ℕ → List ℕ → List ℕ → Bool
differs_in_random place [] [] [] = true
differs_in_random place [] [] (z ∷ zs) = false
differs_in_random place [] (y ∷ ys) other = false
differs_in_random place (x ∷ xs) [] other = false
differs_in_random place (x ∷ xs) (y ∷ ys) [] = false
differs_in_random place (x ∷ xs) (y ∷ ys) (z ∷ zs) =
    may_be_random place x y z && differs_in_random (suc place) xs ys zs

-- a response that differs in such digits alone
abbrev pub differs_by_random : List ℕ → List ℕ → List ℕ → Bool
differs_by_random heard wanted other =
    bytes_eq (take data_place wanted) (codes "data ") && differs_in_random 0 heard wanted other
