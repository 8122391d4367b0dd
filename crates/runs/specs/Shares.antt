-- Parts of a search: which lists fall to which part, and what a part finds behind them.
use Rattle.std.specs.Prelude.{◌≤◌, ℕ, suc, zero, ◌+◌, ◌-◌, ◌*◌, ◌/◌, ◌==◌, nat_lt, nat_le, Bool, not, ◌||◌, ◌&&◌, false, true, List, [], ◌∷◌, ◌++◌, take, drop, length, if◌then◌else◌, Option, None, Some}
use Rattle.std.specs.List.{fold, prefix_len}
use Rattle.sp_cells.specs.Config.{Config}
use Rattle.script_lines.specs.Numbers.{number_up_to}
use Rattle.runs.specs.Findings.{nothing_found}
use Rattle.runs.specs.Lists.{with_longer, with_list_tried}
use Rattle.runs.specs.declared.explored.findings.Findings.{Findings}
use Rattle.runs.specs.declared.explored.front.Front.{Front}
use Rattle.runs.specs.declared.explored.search.Search.{Search}
use Rattle.runs.specs.declared.explored.share.Share.{Share}

-- the most parts of a search
abbrev pub most_parts : ℕ
most_parts = 100000

-- one of so many parts; the first has the number 1
abbrev pub IsShare : Share → Type 0
IsShare share = (1 ≤ share.number) × (share.number ≤ share.count)

-- the text in front of a byte, and what stands behind that byte
abbrev pub size_before : ℕ → List ℕ → ℕ
size_before byte text = prefix_len (λ b. not (b == byte)) text

abbrev pub text_before_byte : ℕ → List ℕ → List ℕ
text_before_byte byte text = take (size_before byte text) text

abbrev pub text_behind_byte : ℕ → List ℕ → List ℕ
text_behind_byte byte text = drop (size_before byte text + 1) text

-- a part with a number from 1 to how many there are
abbrev pub share_of_numbers : Option ℕ → Option ℕ → Option Share
share_of_numbers (Some number) (Some count) =
    if nat_le 1 number && nat_le number count then Some (record { number = number; count = count })
    else None
share_of_numbers (Some number) None = None
share_of_numbers None count = None

-- `K/N`, as it is written
abbrev pub share_written : List ℕ → Option Share
share_written text =
    share_of_numbers (number_up_to most_parts (text_before_byte 47 text))
    (number_up_to most_parts (text_behind_byte 47 text))

-- lists are divided at the first length that has so many for each part
abbrev pub lists_for_each : ℕ
lists_for_each = 16

-- where the lists of a part end, of so many lists
abbrev pub edge : ℕ → ℕ → ℕ → ℕ
edge count size number = number * size / count

-- the lists of a part: those behind the lists of the parts before it
abbrev pub own_lists : Share → List (List ℕ) → List (List ℕ)
own_lists share lists =
    take (edge share.count (length lists) share.number
    - edge share.count (length lists) (share.number - 1))
    (drop (edge share.count (length lists) (share.number - 1)) lists)

-- short lists are every part's; long ones are divided
abbrev pub divided : Share → Front → Front
divided share front =
    if front.is_divided || nat_lt (length front.lists) (lists_for_each * share.count) then front
    else record { lists = own_lists share front.lists; is_divided = true }

-- the lists that are one letter longer
abbrev pub next_front : Config → Search → Front → Front
next_front config search front = record {
  lists = fold (with_longer config search) [] front.lists;
  is_divided = front.is_divided;
}

-- the lists of so many letters that a part meets
unfoldable pub front_of : Config → Search → Share → ℕ → Front
front_of config search share zero = record { lists = [] ∷ []; is_divided = false }
front_of config search share (suc size) =
    next_front config search (divided share (front_of config search share size))

-- those of which it tells: what is every part's is told by the first
abbrev pub told_in : Share → Front → List (List ℕ)
told_in share front = if front.is_divided || share.number == 1 then front.lists else []

abbrev pub told_lists : Config → Search → Share → ℕ → List (List ℕ)
told_lists config search share size =
    told_in share (divided share (front_of config search share size))

-- what is found behind them
abbrev pub segment_of : Config → Search → Share → ℕ → Findings
segment_of config search share size =
    fold (with_list_tried config search) nothing_found (told_lists config search share size)
