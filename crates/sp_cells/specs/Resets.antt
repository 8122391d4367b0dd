-- The resets that a column names (Core 2.01, section 5.1.3, the type reset_types).
use Rattle.std.specs.Prelude.{◌==◌, nat_le, ◌++◌, ℕ, Bool, ◌||◌, ◌&&◌, List, [], ◌∷◌, count_by, if◌then◌else◌}
use Rattle.std.specs.List.{list_all, list_any}
use Rattle.sp_cells.specs.declared.cells.ResetTypes.{ResetTypes}

-- the numbers of the resets of this drive
abbrev pub power_cycle : ℕ
power_cycle = 0

abbrev pub hardware : ℕ
hardware = 1

abbrev pub programmatic : ℕ
programmatic = 3

-- it is one of them
abbrev pub is_reset : ℕ → Bool
is_reset n = (n == power_cycle) || (n == hardware) || (n == programmatic)

-- the number stands there at most once
abbrev pub is_once : List ℕ → ℕ → Bool
is_once numbers number = nat_le (count_by (λ n. n == number) numbers) 1

-- each of them stands there at most once, and nothing else does
abbrev pub is_reset_set : List ℕ → Bool
is_reset_set numbers =
    is_once numbers power_cycle && is_once numbers hardware && is_once numbers programmatic
    && list_all is_reset numbers

-- the set of the numbers that stand there
abbrev pub reset_set : List ℕ → ResetTypes
reset_set numbers = record {
  power_cycle = list_any (λ n. n == power_cycle) numbers;
  hardware = list_any (λ n. n == hardware) numbers;
  programmatic = list_any (λ n. n == programmatic) numbers;
}

-- the numbers of a set, rising
abbrev pub reset_numbers : ResetTypes → List ℕ
reset_numbers r =
    (if r.power_cycle then power_cycle ∷ [] else [])
    ++ (if r.hardware then hardware ∷ [] else [])
    ++ (if r.programmatic then programmatic ∷ [] else [])
