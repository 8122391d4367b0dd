-- How far a script is explored, as it is written.
use Rattle.std.specs.Prelude.{◌≡◌, ℕ, List, Some}
use Rattle.script_lines.specs.Numbers.{number_up_to}
use Rattle.runs.specs.declared.explored.plan.Plan.{Plan}

-- the most letters of a list, and the most lists of one length that are gone on from
abbrev pub most_letters : ℕ
most_letters = 1000

abbrev pub most_lists : ℕ
most_lists = 10000000

-- two decimal numbers within their limits, and a text that is looked for
abbrev pub WritesPlan : List ℕ → List ℕ → List ℕ → Plan → Type 0
WritesPlan steps limit find plan = (number_up_to most_letters steps ≡ Some plan.steps)
    × (number_up_to most_lists limit ≡ Some plan.limit) × (plan.find ≡ find)

-- the numbers are such
abbrev pub WritesSomePlan : List ℕ → List ℕ → Type 0
WritesSomePlan steps limit = (count : ℕ) × (most : ℕ)
    × (number_up_to most_letters steps ≡ Some count) × (number_up_to most_lists limit ≡ Some most)
