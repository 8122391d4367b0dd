-- What blank sectors were shown to hold: nothing has written them, or they were erased, and what they hold stays until a line may
-- change it.
use Rattle.std.specs.Prelude.{ℕ, zero, suc, ◌+◌, ◌-◌, ◌*◌, ◌/◌, ◌==◌, nat_le, nat_lt, Bool, true, false, not, ◌&&◌, ◌||◌, List, [], ◌∷◌, ◌++◌, length, take, drop, filter, codes, decimal, Option, None, Some, if◌then◌else◌}
use Rattle.std.specs.List.{fold, flat_map}
use Rattle.std.specs.Str.{bytes_eq}
use Rattle.basics.specs.Addresses.{address_limit}
use Rattle.script_lines.specs.Numbers.{largest, number_up_to}
use Rattle.script_lines.specs.Words.{nth_word}
use Rattle.judged.specs.declared.shown.ShownSector.{ShownSector}

-- which word of a line, from 0, is the first sector that it reads, or that it writes
abbrev pub read_place : List ℕ → Option ℕ
read_place line =
    if bytes_eq (nth_word 0 line) (codes "dread") then Some 2
    else if bytes_eq (nth_word 0 line) (codes "read") then Some 3
    else None

abbrev pub write_place : List ℕ → Option ℕ
write_place line =
    if bytes_eq (nth_word 0 line) (codes "dwrite") then Some 2
    else if bytes_eq (nth_word 0 line) (codes "write") then Some 3
    else None

-- and which one says how many it writes
abbrev pub count_place : List ℕ → Option ℕ
count_place line =
    if bytes_eq (nth_word 0 line) (codes "dwrite") then Some 3
    else if bytes_eq (nth_word 0 line) (codes "write") then Some 4
    else None

-- the number in a place
abbrev pub number_in_place : List ℕ → Option ℕ → Option ℕ
number_in_place line None = None
number_in_place line (Some place) = number_up_to (largest 64) (nth_word place line)

abbrev pub first_read : List ℕ → Option ℕ
first_read line = number_in_place line (read_place line)

-- A line that changes nothing that a sector holds, nor which sectors the shadow MBR hides: it reads.
abbrev pub only_looks : List ℕ → Bool
only_looks line = bytes_eq (nth_word 0 line) (codes "dread")
    || bytes_eq (nth_word 0 line) (codes "read") || bytes_eq (nth_word 0 line) (codes "recv")
    || bytes_eq (nth_word 0 line) (codes "secin") || bytes_eq (nth_word 0 line) (codes "identify")
    || bytes_eq (nth_word 0 line) (codes "log") || bytes_eq (nth_word 0 line) (codes "expect")

-- how many sectors a command names, of which 0 stands for 65,536 (ACS-3)
abbrev pub sector_count : ℕ → ℕ
sector_count count = if count == 0 then 65536 else count

abbrev pub is_in_extent : ℕ → ℕ → ℕ → Bool
is_in_extent first count sector = nat_le first sector && nat_lt (sector - first) count

-- what a line may change: one that writes, its sectors; any other that does more than look, all
abbrev pub is_changed : Option ℕ → Option ℕ → ℕ → Bool
is_changed (Some first) (Some count) sector = is_in_extent first (sector_count count) sector
is_changed (Some first) None sector = true
is_changed None count sector = true

abbrev pub is_changed_by : List ℕ → ShownSector → Bool
is_changed_by line shown = is_changed (number_in_place line (write_place line))
    (number_in_place line (count_place line)) shown.sector

-- what still stands behind a line
abbrev pub kept_behind : List ℕ → List ShownSector → List ShownSector
kept_behind line shown =
    if only_looks line then shown
    else filter (λ sector. not (is_changed_by line sector)) shown

-- Where the digits of a sector stand in `ok HHHHHHHH ..`, which has eight of each, from the first on: one command reads 65,536 at
-- most.
abbrev pub digits_place : ℕ → ℕ → Option ℕ
digits_place first sector =
    if is_in_extent first 65536 sector then Some (3 + 9 * (sector - first)) else None

abbrev pub sector_digits : ℕ → List ℕ → List ℕ
sector_digits place line = take 8 (drop place line)

abbrev pub zero_digits : List ℕ
zero_digits = codes "00000000"

-- the model reads zeros there, and would whatever bytes the writes before wrote
abbrev pub is_blank_at : List ℕ → List ℕ → ℕ → Bool
is_blank_at wanted other place = bytes_eq (sector_digits place wanted) zero_digits
    && bytes_eq (sector_digits place other) zero_digits

abbrev pub blank_place_by : List ℕ → List ℕ → Option ℕ → Option ℕ
blank_place_by wanted other None = None
blank_place_by wanted other (Some place) =
    if is_blank_at wanted other place then Some place else None

-- where a sector stands as a blank one in the answer to a read from this first sector on
abbrev pub blank_place : ℕ → List ℕ → List ℕ → ShownSector → Option ℕ
blank_place first wanted other shown = blank_place_by wanted other (digits_place first shown.sector)

-- a text with other bytes from a place on
abbrev pub put_over : ℕ → List ℕ → List ℕ → List ℕ
put_over place bytes text = take place text ++ (bytes ++ drop (place + length bytes) text)

-- a line with other digits in such a place
abbrev pub with_digits : List ℕ → List ℕ → Option ℕ → List ℕ
with_digits digits line None = line
with_digits digits line (Some place) = put_over place digits line

-- what must be said: a blank sector holds what it was shown to hold
abbrev pub with_shown : List ShownSector → ℕ → List ℕ → List ℕ → List ℕ
with_shown shown first wanted other =
    fold (λ line sector. with_digits sector.digits line (blank_place first wanted other sector))
    wanted shown

-- and its digits are left open no more
abbrev pub told_digits : List ℕ
told_digits = codes "--------"

abbrev pub with_told : List ShownSector → ℕ → List ℕ → List ℕ → List ℕ
with_told shown first wanted other =
    fold (λ line sector. with_digits told_digits line (blank_place first wanted other sector))
    other shown

-- What must be said to a line whose first read sector is this, and what is left open in it.
abbrev pub shown_wanted : List ShownSector → Option ℕ → List ℕ → List ℕ → List ℕ
shown_wanted shown None wanted other = wanted
shown_wanted shown (Some first) wanted other = with_shown shown first wanted other

abbrev pub shown_other : List ShownSector → Option ℕ → List ℕ → List ℕ → List ℕ
shown_other shown None wanted other = other
shown_other shown (Some first) wanted other = with_told shown first wanted other

-- the first of the lines that are said to a line tells what was read
abbrev pub shown_lines : List ShownSector → Option ℕ → List ℕ → List (List ℕ) → List (List ℕ)
shown_lines shown first other [] = []
shown_lines shown first other (wanted ∷ lines) = shown_wanted shown first wanted other ∷ lines

-- why it must be said, where an answer of the same form has other digits
abbrev pub words_and_number : List ℕ → ℕ → List ℕ
words_and_number words number = words ++ decimal number

abbrev pub changed_front : ShownSector → List ℕ
changed_front shown = words_and_number (codes "because line ") shown.line
    ++ words_and_number (codes " showed sector ") shown.sector

abbrev pub changed_text : ShownSector → List ℕ
changed_text shown = changed_front shown ++ codes " as " ++ shown.digits
    ++ codes ", and no line since may have changed it" ++ 10 ∷ []

abbrev pub changed_at : List ℕ → ShownSector → Option ℕ → List ℕ
changed_at heard shown None = []
changed_at heard shown (Some place) =
    if bytes_eq (sector_digits place heard) shown.digits then [] else changed_text shown

abbrev pub changed_texts : List ShownSector → ℕ → List ℕ → List ℕ → List ℕ → List ℕ
changed_texts shown first heard wanted other =
    flat_map (λ sector. changed_at heard sector (blank_place first wanted other sector)) shown

abbrev pub changed_reasons : List ShownSector → Option ℕ → List ℕ → List ℕ → List ℕ → List ℕ
changed_reasons shown None heard wanted other = []
changed_reasons shown (Some first) heard wanted other =
    if length heard == length wanted then changed_texts shown first heard wanted other else []

-- how many sectors an answer shows
abbrev pub sectors_shown : List ℕ → ℕ
sectors_shown heard = (length heard - 2) / 9

-- a blank sector that an answer shows: what stands there, if it has eight digits
abbrev pub sector_shown : ℕ → ℕ → List ℕ → Bool → List ShownSector
sector_shown number sector digits false = []
sector_shown number sector digits true =
    if length digits == 8
    then record { sector = sector; digits = digits; line = number } ∷ [] else []

-- so many, of which the first, with this number, stands at this place
abbrev pub shown_from : ℕ → ℕ → ℕ → ℕ → List ℕ → List ℕ → List ℕ → List ShownSector
shown_from zero number sector place heard wanted other = []
shown_from (suc left) number sector place heard wanted other =
    sector_shown number sector (sector_digits place heard) (is_blank_at wanted other place)
    ++ shown_from left number (suc sector) (9 + place) heard wanted other

-- what the right answer to a line shows that was not shown before: one of this number, whose first read sector is this
abbrev pub newly_shown : ℕ → ℕ → List ℕ → List ℕ → List ℕ → List ShownSector
newly_shown number first heard wanted other =
    if nat_lt first address_limit
    then shown_from (sectors_shown heard) number first 3 heard wanted other else []
