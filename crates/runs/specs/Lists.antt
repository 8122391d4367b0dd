-- The lists of letters that are tried, from the shortest on.
use Rattle.std.specs.Prelude.{ℕ, suc, zero, nat_lt, ◌&&◌, List, [], ◌∷◌, ◌++◌, length, if◌then◌else◌}
use Rattle.std.specs.List.{fold}
use Rattle.sp_cells.specs.Config.{Config}
use Rattle.runs.specs.Answers.{tries_behind, goes_on}
use Rattle.runs.specs.Findings.{nothing_found, noting_tries}
use Rattle.runs.specs.declared.explored.findings.Findings.{Findings}
use Rattle.runs.specs.declared.explored.search.Search.{Search}
use Rattle.runs.specs.declared.explored.tries.Try.{Try}

-- lists of one length that are gone on from, with one more, where it goes on and the limit has room
abbrev pub with_list : ℕ → List (List ℕ) → Try → List (List ℕ)
with_list limit lists try =
    if goes_on try.answer && nat_lt (length lists) limit then lists ++ try.list ∷ [] else lists

-- with those that are one letter longer than a list
abbrev pub with_longer : Config → Search → List (List ℕ) → List ℕ → List (List ℕ)
with_longer config search lists list =
    fold (with_list search.limit) lists (tries_behind config search.opening search.letters list)

-- the lists of so many letters that are gone on from
unfoldable pub lists_of : Config → Search → ℕ → List (List ℕ)
lists_of config search zero = [] ∷ []
lists_of config search (suc size) =
    fold (with_longer config search) [] (lists_of config search size)

-- with what the letters behind a list print
abbrev pub with_list_tried : Config → Search → Findings → List ℕ → Findings
with_list_tried config search findings list =
    noting_tries search.find findings (tries_behind config search.opening search.letters list)

-- what is found by lists of at most so many letters
unfoldable pub findings_of : Config → Search → ℕ → Findings
findings_of config search zero = nothing_found
findings_of config search (suc size) =
    fold (with_list_tried config search) (findings_of config search size)
    (lists_of config search size)
