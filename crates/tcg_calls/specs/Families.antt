-- The families of objects that have a number, as a table of the code has them (Opal SSC 2.01, sections 4.2 and 4.3).
use Rattle.std.specs.Prelude.{◌+◌, ◌*◌, ◌==◌, ℕ, List, Option, unwrap_or, if◌then◌else◌}
use Rattle.sp_cells.specs.declared.names.TheConstants.{RANGES}
use Rattle.sp_cells.specs.declared.names.Uid.{Uid}
use Rattle.sp_cells.specs.Names.{uid}
use Rattle.tcg_calls.specs.declared.tcg_names.families.Family.{Family}
use Rattle.tcg_calls.specs.declared.tcg_names.families.Numbers.{Numbers}
use Rattle.tcg_calls.specs.declared.tcg_names.families.Numbers.TheVariants.{UpTo, OfRanges}
use Rattle.tcg_calls.specs.Objects.{Named, of_numbers, of_ranges, number_between, range_between, number_making}

-- the object whose name follows from the number, and the object of the number: that of 0 can have a name apart
abbrev pub following : Family → ℕ → Uid
following f n = uid (f.table * 0x100000000 + f.number + n)

abbrev pub member : Family → ℕ → Uid
member f n = if n == 0 then unwrap_or f.zero (following f n) else following f n

-- the members with their names
abbrev pub names_for : Numbers → Family → List Named
names_for (UpTo last) f = of_numbers (member f) f.before.now f.behind.now last
names_for OfRanges f = of_ranges (member f) f.before.now f.behind.now

abbrev pub names_of : Family → List Named
names_of f = names_for f.numbers f

-- the number of the member that has a name
abbrev pub number_for : Numbers → Family → List ℕ → Option ℕ
number_for (UpTo last) f name =
    number_making (number_between f.before.now f.behind.now) 1 last name
number_for OfRanges f name =
    number_making (range_between f.before.now f.behind.now) 0 (RANGES + 1) name

abbrev pub number_of : Family → List ℕ → Option ℕ
number_of f name = number_for f.numbers f name
