-- What small scripts come to, computed from the definitions alone.
use Rattle.std.proofs.Common.{◌≡◌, List, [], ◌∷◌, ◌++◌, ℕ, codes, refl}
use Rattle.sp_cells.specs.Config.{Config, base_config}
use Rattle.tool.specs.Scripts.{lines_of_text, without_remarks, with_numbers}
use Rattle.tool.specs.Outcomes.{RunOutcome, ends, outcome_on, outcome_from, run_outcome_of}

abbrev drive : Config
drive = base_config 1000 8 (codes "OPALMSID")

-- the texts of lines, each with its line feed
abbrev script : List (List ℕ) → List ℕ
script [] = []
script (line ∷ lines) = line ++ 10 ∷ script lines

abbrev prints : List (List ℕ) → ℕ → RunOutcome
prints texts status = record { text = script texts; status = status }

no_line : run_outcome_of drive [] ≡ ends 0
unfolding outcome_on outcome_from lines_of_text without_remarks with_numbers
no_line = refl

-- a line that says nothing, in front
bad_first : run_outcome_of drive (script (codes "stop" ∷ codes "reset 0 0" ∷ [])) ≡ ends 2
unfolding outcome_on outcome_from lines_of_text without_remarks with_numbers
bad_first = refl

-- before anything is printed the last line is the empty text
expect_first : run_outcome_of drive (script (codes "expect" ∷ codes "expect ok" ∷ codes "stop" ∷ [])) ≡ ends 1
unfolding outcome_on outcome_from lines_of_text without_remarks with_numbers
expect_first = refl

-- an expectation is held against the last printed line; a last line needs no line feed
expectations : run_outcome_of drive (script (codes "reset 7 0" ∷ codes "expect ok" ∷ codes "reset 7 1" ∷ []) ++ codes "expect ok")
    ≡ prints (codes "ok" ∷ codes "ok" ∷ []) 0
unfolding outcome_on outcome_from lines_of_text without_remarks with_numbers
expectations = refl

-- behind a line that ends the run nothing is printed
ended : run_outcome_of drive (script (codes "reset 7 0" ∷ codes "stop" ∷ codes "reset 7 0" ∷ [])) ≡ prints (codes "ok" ∷ []) 2
unfolding outcome_on outcome_from lines_of_text without_remarks with_numbers
ended = refl

late_range : run_outcome_of drive (script (codes "reset 7 0" ∷ codes "range 1 0 0 0 0 0 0" ∷ codes "reset 7 0" ∷ [])) ≡ prints (codes "ok" ∷ []) 2
unfolding outcome_on outcome_from lines_of_text without_remarks with_numbers
late_range = refl

-- in a script whose first line begins with `#`, blank lines and comments do nothing, wherever they stand
with_remarks : run_outcome_of drive (script (codes "# two" ∷ [] ∷ codes "reset 7 0" ∷ codes "  # ok" ∷ codes "expect ok" ∷ codes " " ∷ codes "reset 7 1" ∷ codes "#" ∷ []))
    ≡ prints (codes "ok" ∷ codes "ok" ∷ []) 0
unfolding outcome_on outcome_from lines_of_text without_remarks with_numbers
with_remarks = refl

remarks_alone : run_outcome_of drive (script (codes "#" ∷ [] ∷ codes "# expect ok" ∷ [])) ≡ ends 0
unfolding outcome_on outcome_from lines_of_text without_remarks with_numbers
remarks_alone = refl

-- a line with a comment behind it is none
remark_behind : run_outcome_of drive (script (codes "#" ∷ codes "reset 7 0 # off and on" ∷ [])) ≡ ends 2
unfolding outcome_on outcome_from lines_of_text without_remarks with_numbers
remark_behind = refl

-- the first line that is no remark may be `port`: on a drive there is no line `put`
port_behind : run_outcome_of drive (script (codes "# a port" ∷ [] ∷ codes "port" ∷ codes "# fine" ∷ codes "put 1 0 identify" ∷ []))
    ≡ prints (codes "ok" ∷ []) 0
unfolding outcome_on outcome_from lines_of_text without_remarks with_numbers
port_behind = refl

-- in any other script they are lines that say nothing
comment_elsewhere : run_outcome_of drive (script (codes "reset 7 0" ∷ codes "# on" ∷ codes "reset 7 0" ∷ [])) ≡ prints (codes "ok" ∷ []) 2
unfolding outcome_on outcome_from lines_of_text without_remarks with_numbers
comment_elsewhere = refl

blank_elsewhere : run_outcome_of drive (script (codes "reset 7 0" ∷ [] ∷ codes "reset 7 0" ∷ [])) ≡ prints (codes "ok" ∷ []) 2
unfolding outcome_on outcome_from lines_of_text without_remarks with_numbers
blank_elsewhere = refl

blank_in_front : run_outcome_of drive (script ([] ∷ codes "# off" ∷ codes "reset 7 0" ∷ [])) ≡ ends 2
unfolding outcome_on outcome_from lines_of_text without_remarks with_numbers
blank_in_front = refl
