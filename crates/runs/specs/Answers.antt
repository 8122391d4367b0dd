-- What the letters behind a list print.
use Rattle.std.specs.Prelude.{ℕ, Bool, not, List, [], ◌∷◌, ◌++◌, drop, length, map, codes}
use Rattle.std.specs.Str.{bytes_eq}
use Rattle.sp_cells.specs.Config.{Config}
use Rattle.script_lines.specs.Words.{nth_word}
use Rattle.tool.specs.Outcomes.{run_outcome_of}
use Rattle.runs.specs.declared.explored.tries.Try.{Try}

-- what a script of these bytes prints
abbrev pub printed_text : Config → List ℕ → List ℕ
printed_text config text = (run_outcome_of config text).text

-- a list of letters with one letter more
abbrev pub longer : List ℕ → List ℕ → List ℕ
longer list letter = list ++ letter ++ 10 ∷ []

-- what a letter prints behind a list: what the longer list prints behind what the list prints
abbrev pub answer_behind : Config → List ℕ → List ℕ → List ℕ → List ℕ
answer_behind config opening list letter =
    drop (length (printed_text config (opening ++ list)))
    (printed_text config (opening ++ longer list letter))

-- a list with this letter behind it, and what the letter prints
abbrev pub try_behind : Config → List ℕ → List ℕ → List ℕ → Try
try_behind config opening list letter = record {
  list = longer list letter;
  answer = answer_behind config opening list letter;
}

abbrev pub tries_behind : Config → List ℕ → List (List ℕ) → List ℕ → List Try
tries_behind config opening letters list = map (try_behind config opening list) letters

-- a step that a port refuses leaves all as it was, so nothing comes behind it that does not come
-- without it
abbrev pub goes_on : List ℕ → Bool
goes_on answer = not (bytes_eq (nth_word 0 answer) (codes "refused"))
