-- What a part of a search prints, and how the parts are joined.
use Rattle.std.specs.Prelude.{◌≡◌, ◌≢◌, ◌≤◌, ◌<◌, ℕ, suc, zero, ◌+◌, ◌%◌, ◌^◌, ◌==◌, nat_lt, nat_le, Bool, true, false, ◌&&◌, List, [], ◌∷◌, ◌++◌, length, map, codes, decimal, if◌then◌else◌, Option, None, Some, IfSome, option_map, option_and_then}
use Rattle.std.specs.List.{fold}
use Rattle.std.specs.Str.{bytes_eq}
use Rattle.basics.specs.declared.profile.Profile.{Profile}
use Rattle.basics.specs.declared.profile.Profile.TheVariants.{Base, Field, Opal}
use Rattle.sp_cells.specs.Config.{Config}
use Rattle.tool.specs.Outcomes.{RunOutcome, Yields, ends, run_outcome_of}
use Rattle.tool.specs.Scripts.{script_lines}
use Rattle.runs.specs.Alphabets.{opening_lines_text, text_of_lines, with_line}
use Rattle.runs.specs.Findings.{nothing_found}
use Rattle.runs.specs.Lists.{lists_of}
use Rattle.runs.specs.Plans.{most_letters}
use Rattle.runs.specs.Rows.{line_of_row, row_written, segment_rows, sum_of_lines}
use Rattle.runs.specs.Shares.{front_of, segment_of, most_parts}
use Rattle.runs.specs.Tellings.{is_unfit, search_by, told_of, exploration_of}
use Rattle.runs.specs.declared.explored.findings.Findings.{Findings}
use Rattle.runs.specs.declared.explored.kinds.Kind.{Kind}
use Rattle.runs.specs.declared.explored.part.Part.{Part}
use Rattle.runs.specs.declared.explored.plan.Plan.{Plan}
use Rattle.runs.specs.declared.explored.rows.Row.{Row}
use Rattle.runs.specs.declared.explored.rows.RowName.{RowName}
use Rattle.runs.specs.declared.explored.rows.RowName.TheVariants.{Check, Place, Asked, Lists, State, Found}
use Rattle.runs.specs.declared.explored.search.Search.{Search}
use Rattle.runs.specs.declared.explored.share.Share.{Share}

-- a part leaves no list out: it has no rows where lists of one length reach the limit
abbrev pub with_segment : Config → Search → Share → ℕ → List Row → Option (List Row)
with_segment config search share size rows =
    if nat_lt (length (front_of config search share size).lists) search.limit
    then Some (rows ++ segment_rows size (segment_of config search share size)) else None

-- the rows of what a part finds by lists of at most so many letters
unfoldable pub rows_found : Config → Search → Share → ℕ → Option (List Row)
rows_found config search share zero = Some []
rows_found config search share (suc size) =
    option_and_then (with_segment config search share size)
    (rows_found config search share size)

-- what is searched: the drive, and the script
abbrev pub profile_word : Profile → List ℕ
profile_word Base = codes "base"
profile_word Field = codes "field"
profile_word Opal = codes "opal"

abbrev pub drive_asked : Config → List ℕ
drive_asked config =
    text_of_lines
    (decimal config.sectors
    ∷ decimal config.mbr_sectors
    ∷ config.msid
    ∷ profile_word config.profile
    ∷ config.serial
    ∷ config.model
    ∷ config.psid
    ∷ decimal config.datastore
    ∷ decimal config.seed
    ∷ [])

abbrev pub search_asked : Config → Search → List ℕ
search_asked config search =
    drive_asked config ++ search.opening ++ codes "# letters" ++ 10 ∷ text_of_lines search.letters

-- the rows in front: the sum over the others, which part it is, what is searched
abbrev pub check_row : ℕ → Row
check_row sum = record { name = Check; size = 0; count = sum; text = []; list = [] }

abbrev pub place_row : Share → Row
place_row share =
    record { name = Place; size = share.number; count = share.count; text = []; list = [] }

abbrev pub asked_row : Config → Search → ℕ → Row
asked_row config search steps = record {
  name = Asked;
  size = steps;
  count = 0;
  text = search.find;
  list = search_asked config search;
}

-- rows as a text, behind the sum over them
abbrev pub summed_text : List (List ℕ) → List ℕ
summed_text lines = text_of_lines (line_of_row (check_row (sum_of_lines lines)) ∷ lines)

abbrev pub part_text : Config → Search → ℕ → Share → List Row → List ℕ
part_text config search steps share rows =
    summed_text (map line_of_row (place_row share ∷ asked_row config search steps ∷ rows))

-- what a part prints
abbrev pub part_told : Config → Search → ℕ → Share → Option (List Row) → RunOutcome
part_told config search steps share (Some rows) =
    record { text = part_text config search steps share rows; status = 0 }
part_told config search steps share None = ends 2

abbrev pub part_of_search : Config → Search → ℕ → Share → RunOutcome
part_of_search config search steps share =
    part_told config search steps share (rows_found config search share steps)

abbrev pub part_of_lines : Config → Plan → Share → List (List ℕ) → RunOutcome
part_of_lines config plan share lines =
    if is_unfit lines then ends 2 else part_of_search config (search_by plan lines) plan.steps share

abbrev pub part_behind : Config → Plan → Share → List (List ℕ) → ℕ → RunOutcome
part_behind config plan share lines status =
    if status == 0 then part_of_lines config plan share lines else ends status

-- what a part of the exploration of a script comes to
abbrev pub part_outcome_of : Config → Plan → Share → List ℕ → RunOutcome
part_outcome_of config plan share text =
    part_behind config plan share (script_lines text)
    (run_outcome_of config (opening_lines_text (script_lines text))).status

abbrev pub ExploresPart : Config → Plan → Share → Option (List ℕ) → ℕ → Option (List ℕ)
    → Option (List ℕ) → Type 0
ExploresPart config plan share input status before after =
    IfSome input (λ text. Yields (part_outcome_of config plan share text) status before after)

-- the rows that lines write
abbrev pub with_row_written : Option (List Row) → List ℕ → Option (List Row)
with_row_written None line = None
with_row_written (Some rows) line = option_map (λ row. rows ++ row ∷ []) (row_written line)

abbrev pub rows_written : List (List ℕ) → Option (List Row)
rows_written lines = fold with_row_written (Some []) lines

abbrev pub is_check : RowName → Bool
is_check Check = true
is_check Place = false
is_check Asked = false
is_check Lists = false
is_check State = false
is_check Found = false

abbrev pub is_place : RowName → Bool
is_place Check = false
is_place Place = true
is_place Asked = false
is_place Lists = false
is_place State = false
is_place Found = false

abbrev pub is_asked_row : RowName → Bool
is_asked_row Check = false
is_asked_row Place = false
is_asked_row Asked = true
is_asked_row Lists = false
is_asked_row State = false
is_asked_row Found = false

-- what the rows behind the sum say
abbrev pub part_of_rows : Option Row → Option Row → Option (List Row) → Option Part
part_of_rows (Some place) (Some asked) (Some rows) =
    if is_place place.name && is_asked_row asked.name && nat_le asked.size most_letters
    then Some (record { number = place.size; count = place.count; asked = asked; rows = rows })
    else None
part_of_rows (Some place) (Some asked) None = None
part_of_rows (Some place) None rows = None
part_of_rows None asked rows = None

abbrev pub has_its_sum : ℕ → Option Row → Bool
has_its_sum sum None = false
has_its_sum sum (Some row) = is_check row.name && row.count == sum

-- the part that lines are; none where their sum is not the sum over them
abbrev pub part_of_written : List (List ℕ) → Option Part
part_of_written [] = None
part_of_written (check ∷ []) = None
part_of_written (check ∷ place ∷ []) = None
part_of_written (check ∷ place ∷ asked ∷ lines) =
    if has_its_sum (sum_of_lines (place ∷ asked ∷ lines)) (row_written check)
    then part_of_rows (row_written place) (row_written asked) (rows_written lines) else None

abbrev pub part_in : List ℕ → Option Part
part_in text = part_of_written (script_lines text)

abbrev pub with_part_in : Option (List Part) → List ℕ → Option (List Part)
with_part_in None text = None
with_part_in (Some parts) text = option_map (λ part. parts ++ part ∷ []) (part_in text)

abbrev pub parts_in : List (List ℕ) → Option (List Part)
parts_in texts = fold with_part_in (Some []) texts

-- of the same search, and as far
abbrev pub is_same_search : Row → Row → Bool
is_same_search a b = a.size == b.size && bytes_eq a.text b.text && bytes_eq a.list b.list

-- a part of the same search as the first, in this place
abbrev pub has_its_place : Part → ℕ → Part → Bool
has_its_place first place part =
    part.count == first.count && part.number == place && is_same_search first.asked part.asked

abbrev pub all_fit : Part → ℕ → List Part → Bool
all_fit first place [] = true
all_fit first place (part ∷ parts) =
    has_its_place first place part && all_fit first (place + 1) parts

-- all parts of one search, each once, in their order
abbrev pub are_all_parts : List Part → Bool
are_all_parts [] = false
are_all_parts (first ∷ parts) =
    first.count == length (first ∷ parts) && all_fit first 1 (first ∷ parts)

-- kinds of which each stands once, with one that a part has found
abbrev pub with_counted : List Kind → Kind → List Kind
with_counted [] more = more ∷ []
with_counted (kind ∷ kinds) more =
    if bytes_eq kind.text more.text
    then record kind { times = (kind.times + more.times) % 2 ^ 64 } ∷ kinds
    else kind ∷ with_counted kinds more

-- with what a row tells
abbrev pub kind_of_row : Row → Kind
kind_of_row row = record { text = row.text; times = row.count; list = row.list }

abbrev pub with_row_named : RowName → Findings → Row → Findings
with_row_named Check found row = found
with_row_named Place found row = found
with_row_named Asked found row = found
with_row_named Lists found row = record found { lists = (found.lists + row.count) % 2 ^ 64 }
with_row_named State found row = record found { states = with_line found.states row.text }
with_row_named Found found row =
    record found { kinds = with_counted found.kinds (kind_of_row row) }

-- with those rows that tell of lists of so many letters
abbrev pub with_row_at : ℕ → Findings → Row → Findings
with_row_at size found row = if row.size == size then with_row_named row.name found row else found

abbrev pub with_part_at : ℕ → Findings → Part → Findings
with_part_at size found part = fold (with_row_at size) found part.rows

-- what the parts found, from the shortest lists on
unfoldable pub merged : List Part → ℕ → Findings
merged parts zero = nothing_found
merged parts (suc size) = fold (with_part_at size) (merged parts size) parts

abbrev pub merged_by : List Part → Row → Findings
merged_by parts asked = merged parts asked.size

abbrev pub merge_of_parts : List Part → RunOutcome
merge_of_parts [] = ends 2
merge_of_parts (first ∷ parts) =
    if are_all_parts (first ∷ parts)
    then told_of first.asked.text (merged (first ∷ parts) first.asked.size) else ends 2

abbrev pub merge_of_read : Option (List Part) → RunOutcome
merge_of_read None = ends 2
merge_of_read (Some parts) = merge_of_parts parts

-- what texts of parts are joined to
abbrev pub merge_of : List (List ℕ) → RunOutcome
merge_of texts = merge_of_read (parts_in texts)

-- the parts with the numbers from 1 on, of so many
abbrev pub shares_up_to : ℕ → ℕ → List Share
shares_up_to count zero = []
shares_up_to count (suc number) =
    shares_up_to count number ++ record { number = number + 1; count = count } ∷ []

-- what all parts print
abbrev pub part_texts : Config → Plan → ℕ → List ℕ → List (List ℕ)
part_texts config plan count text =
    map (λ share. (part_outcome_of config plan share text).text) (shares_up_to count count)

-- the opening runs to its end, and there is something to explore
abbrev pub IsExplored : Config → List ℕ → Type 0
IsExplored config text =
    ((run_outcome_of config (opening_lines_text (script_lines text))).status ≡ 0)
    × (is_unfit (script_lines text) ≡ false)

-- the limit leaves no list out, as far as lists are gone on from
abbrev pub LeavesNoneOut : Config → Search → ℕ → Type 0
LeavesNoneOut config search steps =
    (size : ℕ) → size < steps → length (lists_of config search size) < search.limit
