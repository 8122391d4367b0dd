-- What parts print is read, and joined to the whole.
use Rattle.std.proofs.Common.{◌≡◌, ℕ, zero, suc, ◌<◌, ◌≤◌, ◌+◌, ◌%◌, ◌^◌, ◌==◌, Bool, true, false, ◌&&◌, nat_le, List, [], ◌∷◌, ◌++◌, cond, length, map, refl, sym, ap, ap₂, subst, ◌∙◌, arith, append-nil, Option, None, Some}
use Rattle.std.proofs.lemmas.Bool.Decides.{nat_tests}
use Rattle.std.proofs.lemmas.List.{append_assoc, map-append, length-append}
use Rattle.std.proofs.lemmas.List.Sums.{fold-append}
use Rattle.std.specs.Prelude.{option_map}
use Rattle.std.specs.List.{fold}
use Rattle.std.specs.Str.{bytes_eq}
use Rattle.sp_cells.specs.Config.{Config}
use Rattle.tool.specs.Scripts.{lines_of_text, script_lines}
use Rattle.tool.specs.Outcomes.{ends}
use Rattle.runs.specs.Alphabets.{text_of_lines}
use Rattle.runs.specs.Answers.{tries_behind}
use Rattle.runs.specs.Findings.{kind_text, is_wanted, with_kind, with_printed, noting_try, nothing_found, seen_again, first_seen}
use Rattle.runs.specs.Lists.{with_list_tried, lists_of, findings_of}
use Rattle.runs.specs.Merges.{place_row, asked_row, check_row, summed_text, part_text, with_row_written, rows_written, has_its_sum, part_of_rows, part_of_written, part_in, with_part_in, parts_in, is_same_search, has_its_place, all_fit, are_all_parts, with_row_at, with_part_at, merged, merge_of_parts, shares_up_to}
use Rattle.runs.specs.Plans.{most_letters}
use Rattle.runs.specs.Rows.{line_of_row, row_written, segment_rows, lists_row, state_row, kind_row, summed_byte, summed_line, sum_of_lines}
use Rattle.runs.specs.Shares.{segment_of, told_lists, front_of}
use Rattle.runs.specs.Stepped.{WholeLines}
use Rattle.runs.specs.Tellings.{told_of}
use Rattle.runs.specs.declared.explored.findings.Findings.{Findings}
use Rattle.runs.specs.declared.explored.kinds.Kind.{Kind}
use Rattle.runs.specs.declared.explored.part.Part.{Part}
use Rattle.runs.specs.declared.explored.rows.Row.{Row}
use Rattle.runs.specs.declared.explored.search.Search.{Search}
use Rattle.runs.specs.declared.explored.share.Share.{Share}
use Rattle.runs.specs.declared.explored.tries.Try.{Try}
use Rattle.runs.proofs.WholeTexts.{ended-whole, none-whole}
use Rattle.runs.proofs.explored.JoinedKinds.{same_bytes}
use Rattle.runs.proofs.explored.PartLists.{gathered, share_at}
use Rattle.runs.proofs.explored.RowTexts.{IsSmall, row_back, row_is_line}
use Rattle.runs.proofs.explored.SegmentRows.{joined, tried_behind, counted_small, all_rows, rows_at}

-- rows whose numbers have 64 bits
abbrev pub AllSmall : List Row → Type 0
AllSmall [] = Unit {0}
AllSmall (row ∷ rows) = IsSmall row × AllSmall rows

small_append : (one other : List Row) → AllSmall one → AllSmall other → AllSmall (one ++ other)
small_append [] other a b = b
small_append (row ∷ rows) other a b = (a.0, small_append rows other a.1 b)

-- the lines of rows
abbrev with_end : List ℕ → List ℕ → List ℕ
with_end text line = text ++ line ++ 10 ∷ []

lines_from : (rows : List Row) (text : List ℕ) → WholeLines text → AllSmall rows
    → script_lines (fold with_end text (map line_of_row rows)) ≡ script_lines text ++ map line_of_row rows
lines_from [] text whole small = sym (append-nil (script_lines text))
lines_from (row ∷ rows) text whole small =
    lines_from rows (text ++ line_of_row row ++ 10 ∷ []) (ended-whole (text ++ line_of_row row)) small.1
    ∙ ap (λ ls. ls ++ map line_of_row rows)
    (ap script_lines (append_assoc text (line_of_row row) (10 ∷ []))
    ∙ whole (line_of_row row ++ 10 ∷ [])
    ∙ ap (λ ls. script_lines text ++ ls) (row_is_line row small.0))
    ∙ append_assoc (script_lines text) (line_of_row row ∷ []) (map line_of_row rows)

lines_of_rows : (rows : List Row) → AllSmall rows → script_lines (text_of_lines (map line_of_row rows)) ≡ map line_of_row rows
unfolding lines_of_text
lines_of_rows rows small = lines_from rows [] none-whole small

rows_back : (rows before : List Row) → AllSmall rows → fold with_row_written (Some before) (map line_of_row rows) ≡ Some (before ++ rows)
rows_back [] before small = ap Some (sym (append-nil before))
rows_back (row ∷ rows) before small =
    ap (λ o. fold with_row_written (option_map (λ r. before ++ r ∷ []) o) (map line_of_row rows)) (row_back row small.0)
    ∙ rows_back rows (before ++ row ∷ []) small.1
    ∙ ap Some (append_assoc before (row ∷ []) rows)

byte_small : (sum byte : ℕ) → summed_byte sum byte < 2 ^ 64
unfolding summed_byte
byte_small sum byte = omega arith

sum_small : (lines : List (List ℕ)) (sum : ℕ) → sum < 2 ^ 64 → fold summed_line sum lines < 2 ^ 64
sum_small [] sum small = small
sum_small (line ∷ lines) sum small = sum_small lines (summed_line sum line) (byte_small (fold summed_byte sum line) 10)

same_number : (n : ℕ) → (n == n) ≡ true
same_number n = grind (arith, nat_tests)

within : (n most : ℕ) → n ≤ most → nat_le n most ≡ true
within n most less = grind (arith, nat_tests)

abbrev pub part_made : Share → Row → List Row → Part
part_made share asked rows = record { number = share.number; count = share.count; asked = asked; rows = rows }

-- a part that is written is read
pub part_back : (config : Config) (search : Search) (steps : ℕ) (share : Share) (rows : List Row)
    → steps ≤ most_letters → share.number < 2 ^ 64 → share.count < 2 ^ 64 → AllSmall rows
    → part_in (part_text config search steps share rows) ≡ Some (part_made share (asked_row config search steps) rows)
part_back config search steps share rows less number count small =
    let place = place_row share in
    let asked = asked_row config search steps in
    let behind : List (List ℕ) = map line_of_row (place ∷ asked ∷ rows) in
    let check = check_row (sum_of_lines behind) in
    let asked_small : IsSmall asked = (omega (arith, less), omega arith) in
    let place_small : IsSmall place = (number, count) in
    let check_small : IsSmall check = (omega arith, sum_small behind 0 (omega arith)) in
    ap part_of_written (lines_of_rows (check ∷ place ∷ asked ∷ rows) (check_small, (place_small, (asked_small, small))))
    ∙ ap (λ o. cond (has_its_sum (sum_of_lines behind) o)
    (part_of_rows (row_written (line_of_row place)) (row_written (line_of_row asked)) (rows_written (map line_of_row rows))) None)
    (row_back check check_small)
    ∙ ap (λ t. cond t
    (part_of_rows (row_written (line_of_row place)) (row_written (line_of_row asked)) (rows_written (map line_of_row rows))) None)
    (same_number (sum_of_lines behind))
    ∙ ap (λ o. part_of_rows o (row_written (line_of_row asked)) (rows_written (map line_of_row rows))) (row_back place place_small)
    ∙ ap (λ o. part_of_rows (Some place) o (rows_written (map line_of_row rows))) (row_back asked asked_small)
    ∙ ap (part_of_rows (Some place) (Some asked)) (rows_back rows [] small)
    ∙ ap (λ t. cond t (Some (part_made share asked rows)) None) (within steps most_letters less)

-- kinds that were seen at most so often
abbrev AllTimes : List Kind → Type 0
AllTimes [] = Unit {0}
AllTimes (kind ∷ kinds) = (kind.times < 2 ^ 64) × AllTimes kinds

times_with : (kinds : List Kind) (text list : List ℕ) → AllTimes kinds → AllTimes (with_kind kinds text list)
times_with [] text list all = (omega arith, tt)
times_with (kind ∷ kinds) text list all = at (bytes_eq kind.text text) (times_with kinds text list all.1)
  where
    at : (t : Bool) → AllTimes (with_kind kinds text list) → AllTimes (cond t (seen_again kind ∷ kinds) (kind ∷ with_kind kinds text list))
    at true behind = (omega arith, all.1)
    at false behind = (all.0, behind)

times_lines : (find list : List ℕ) (lines : List (List ℕ)) (kinds : List Kind) → AllTimes kinds
    → AllTimes (fold (with_printed find list) kinds lines)
times_lines find list [] kinds all = all
times_lines find list (line ∷ lines) kinds all = times_lines find list lines (with_printed find list kinds line) (at (is_wanted find (kind_text line)))
  where
    at : (t : Bool) → AllTimes (cond t (with_kind kinds (kind_text line) list) kinds)
    at true = times_with kinds (kind_text line) list all
    at false = all

times_tries : (find : List ℕ) (tries : List Try) (kinds : List Kind) → AllTimes kinds → AllTimes (fold (noting_try find) kinds tries)
times_tries find [] kinds all = all
times_tries find (try ∷ tries) kinds all =
    times_tries find tries (noting_try find kinds try) (times_lines find try.list (script_lines try.answer) kinds all)

times_found : (config : Config) (search : Search) (lists : List (List ℕ)) (found : Findings) → AllTimes found.kinds
    → AllTimes (fold (with_list_tried config search) found lists).kinds
times_found config search [] found all = all
times_found config search (list ∷ lists) found all =
    times_found config search lists (with_list_tried config search found list)
    (times_tries search.find (tries_behind config search.opening search.letters list) found.kinds all)

states_small : (size : ℕ) (states : List (List ℕ)) → size < 2 ^ 64 → AllSmall (map (state_row size) states)
states_small size [] small = tt
states_small size (state ∷ states) small = ((small, omega arith), states_small size states small)

kinds_small : (size : ℕ) (kinds : List Kind) → size < 2 ^ 64 → AllTimes kinds → AllSmall (map (kind_row size) kinds)
kinds_small size [] small all = tt
kinds_small size (kind ∷ kinds) small all = ((small, all.0), kinds_small size kinds small all.1)

pub all_small : (config : Config) (search : Search) (share : Share) (steps : ℕ) → steps ≤ most_letters
    → AllSmall (all_rows config search share steps)
all_small config search share zero less = tt
all_small config search share (suc steps) less =
    let lists = told_lists config search share steps in
    let small : steps < 2 ^ 64 = omega (arith, less) in
    small_append (all_rows config search share steps) (segment_rows steps (segment_of config search share steps))
    (all_small config search share steps (omega (arith, less))) (
      (small, counted_small config search lists nothing_found (omega arith)),
      small_append (map (state_row steps) (segment_of config search share steps).states)
          (map (kind_row steps) (segment_of config search share steps).kinds)
          (states_small steps (segment_of config search share steps).states small)
          (kinds_small steps (segment_of config search share steps).kinds small (times_found config search lists nothing_found tt)),
    )

module _ (config : Config) (search : Search) (count steps : ℕ) where
  abbrev asked : Row
  asked = asked_row config search steps

  abbrev pub part_at : ℕ → Part
  part_at number = part_made (share_at count number) asked (all_rows config search (share_at count number) steps)

  abbrev pub parts_up_to : ℕ → List Part
  parts_up_to zero = []
  parts_up_to (suc number) = parts_up_to number ++ part_at (number + 1) ∷ []

  -- the texts of the parts are read
  pub parts_back : (n : ℕ) (text : Share → List ℕ)
      → ((k : ℕ) → 1 ≤ k → k ≤ n → part_in (text (share_at count k)) ≡ Some (part_at k))
      → parts_in (map text (shares_up_to count n)) ≡ Some (parts_up_to n)
  parts_back zero text each = refl
  parts_back (suc n) text each =
      ap (fold with_part_in (Some [])) (map-append text (shares_up_to count n) (share_at count (n + 1) ∷ []))
      ∙ fold-append with_part_in (Some []) (map text (shares_up_to count n)) (text (share_at count (n + 1)) ∷ [])
      ∙ ap (λ o. with_part_in o (text (share_at count (n + 1)))) (parts_back n text (λ k a b. each k a (omega (arith, b))))
      ∙ ap (option_map (λ part. parts_up_to n ++ part ∷ [])) (each (n + 1) (omega arith) (omega arith))

  -- all are of one search, and each in its place
  abbrev AllSame : List Part → Type 0
  AllSame [] = Unit {0}
  AllSame (part ∷ parts) = (part.count ≡ count) × ((part.asked ≡ asked) × AllSame parts)

  same_append : (parts : List Part) (part : Part) → AllSame parts → part.count ≡ count → part.asked ≡ asked → AllSame (parts ++ part ∷ [])
  same_append [] part all is_count is_asked = (is_count, (is_asked, tt))
  same_append (p ∷ parts) part all is_count is_asked = (all.0, (all.1.0, same_append parts part all.1.1 is_count is_asked))

  all_same : (n : ℕ) → AllSame (parts_up_to n)
  all_same zero = tt
  all_same (suc n) = same_append (parts_up_to n) (part_at (n + 1)) (all_same n) refl refl

  how_many : (n : ℕ) → length (parts_up_to n) ≡ n
  how_many zero = refl
  how_many (suc n) = length-append (parts_up_to n) (part_at (n + 1) ∷ []) ∙ omega (arith, how_many n)

  fit_append : (first : Part) (place : ℕ) (parts : List Part) (part : Part) → all_fit first place parts ≡ true
      → has_its_place first (place + length parts) part ≡ true → all_fit first place (parts ++ part ∷ []) ≡ true
  fit_append first place [] part fit has =
      let zero_more : place + 0 ≡ place = omega arith in
      ap (λ t. t && true) (sym (ap (λ n. has_its_place first n part) zero_more) ∙ has)
  fit_append first place (p ∷ parts) part fit has = at (has_its_place first place p) fit (fit_append first (place + 1) parts part)
    where
      at : (t : Bool) → (t && all_fit first (place + 1) parts) ≡ true
          → (all_fit first (place + 1) parts ≡ true → has_its_place first (place + 1 + length parts) part ≡ true
          → all_fit first (place + 1) (parts ++ part ∷ []) ≡ true)
          → (t && all_fit first (place + 1) (parts ++ part ∷ [])) ≡ true
      at true fit behind =
          let next : place + suc (length parts) ≡ place + 1 + length parts = omega arith in
          behind fit (sym (ap (λ n. has_its_place first n part) next) ∙ has)
      at false fit behind = fit

  same_asked : (row : Row) → is_same_search row row ≡ true
  same_asked row =
      ap₂ (λ a b. (a && b) && bytes_eq row.list row.list) (same_number row.size) (same_bytes row.text)
      ∙ same_bytes row.list

  placed : (first : Part) (n : ℕ) → first.count ≡ count → first.asked ≡ asked → has_its_place first (1 + n) (part_at (n + 1)) ≡ true
  placed first n is_count is_asked =
      let number : n + 1 ≡ 1 + n = omega arith in
      ap₂ (λ c a. ((count == c) && (n + 1 == 1 + n)) && is_same_search a asked) is_count is_asked
      ∙ ap₂ (λ a b. (a && b) && is_same_search asked asked) (same_number count) (ap (λ k. k == 1 + n) number ∙ same_number (1 + n))
      ∙ same_asked asked

  all_placed : (first : Part) (n : ℕ) → first.count ≡ count → first.asked ≡ asked → all_fit first 1 (parts_up_to n) ≡ true
  all_placed first zero is_count is_asked = refl
  all_placed first (suc n) is_count is_asked =
      fit_append first 1 (parts_up_to n) (part_at (n + 1)) (all_placed first n is_count is_asked)
      (ap (λ m. has_its_place first (1 + m) (part_at (n + 1))) (how_many n) ∙ placed first n is_count is_asked)

  joined_as : (parts : List Part) → 0 < length parts → length parts ≡ count → AllSame parts
      → ((first : Part) → first.count ≡ count → first.asked ≡ asked → all_fit first 1 parts ≡ true)
      → merge_of_parts parts ≡ told_of search.find (merged parts steps)
  joined_as [] some is all fit = absurd (omega (arith, some))
  joined_as (first ∷ parts) some is all fit =
      let counted : (first.count == length (first ∷ parts)) ≡ true =
      ap₂ (λ a b. a == b) all.0 is ∙ same_number count in
      ap₂ (λ a b. cond (a && b) (told_of first.asked.text (merged (first ∷ parts) first.asked.size)) (ends 2)) counted (fit first all.0 all.1.0)
      ∙ ap (λ (row : Row). told_of row.text (merged (first ∷ parts) row.size)) all.1.0

  pub all_joined : 1 ≤ count → merge_of_parts (parts_up_to count) ≡ told_of search.find (merged (parts_up_to count) steps)
  all_joined some =
      joined_as (parts_up_to count) (omega (arith, some, how_many count)) (how_many count) (all_same count)
      (λ first a b. all_placed first count a b)

  -- length by length they found what the whole finds
  at_length : (size n : ℕ) (found : Findings) → size < steps → found.lists < 2 ^ 64
      → fold (with_part_at size) found (parts_up_to n)
      ≡ fold (with_list_tried config search) found (gathered n (λ k. told_lists config search (share_at count k) size))
  at_length size zero found less small = refl
  at_length size (suc n) found less small =
      let told = λ (k : ℕ). told_lists config search (share_at count k) size in
      let before : Findings = fold (with_list_tried config search) found (gathered n told) in
      fold-append (with_part_at size) found (parts_up_to n) (part_at (n + 1) ∷ [])
      ∙ ap (λ f. with_part_at size f (part_at (n + 1))) (at_length size n found less small)
      ∙ rows_at config search (share_at count (n + 1)) size steps before less
      ∙ sym (tried_behind config search (told (n + 1)) before (counted_small config search (gathered n told) found small))
      ∙ sym (fold-append (with_list_tried config search) found (gathered n told) (told (n + 1)))

  found_small : (size : ℕ) → (findings_of config search size).lists < 2 ^ 64
  unfolding findings_of
  found_small zero = omega arith
  found_small (suc size) = counted_small config search (lists_of config search size) (findings_of config search size) (found_small size)

  pub found_whole : (size : ℕ) → size ≤ steps
      → ((s : ℕ) → s < steps → gathered count (λ k. told_lists config search (share_at count k) s) ≡ lists_of config search s)
      → merged (parts_up_to count) size ≡ findings_of config search size
  unfolding merged findings_of
  found_whole zero less each = refl
  found_whole (suc size) less each =
      ap (λ f. fold (with_part_at size) f (parts_up_to count)) (found_whole size (omega (arith, less)) each)
      ∙ at_length size count (findings_of config search size) (omega (arith, less)) (found_small size)
      ∙ ap (fold (with_list_tried config search) (findings_of config search size)) (each size (omega (arith, less)))
