-- Which object of a table of families has a name.
use Rattle.std.proofs.Common.{◌≡◌, ℕ, suc, ◌+◌, ◌<◌, List, length, get_or, drop, drop-cons, add-one, Option, Some, None, option_map, sym, ◌∙◌, ap}
use Rattle.std.specs.Option.{option_or}
use Rattle.std.specs.List.{flat_map}
use Rattle.sp_cells.specs.declared.names.Uid.{Uid}
use Rattle.tcg_calls.specs.declared.tcg_names.families.Family.{Family}
use Rattle.tcg_calls.specs.declared.tcg_names.families.Numbers.{Numbers}
use Rattle.tcg_calls.specs.declared.tcg_names.families.Numbers.TheVariants.{UpTo, OfRanges}
use Rattle.tcg_calls.specs.Objects.{object_in}
use Rattle.tcg_calls.specs.Families.{member, names_for, names_of, number_for, number_of}
use Rattle.tcg_calls.proofs.tcg_names.Joins.{object_in-append}
use Rattle.tcg_calls.proofs.tcg_names.Numbers.{of_numbers-object, of_ranges-object}

-- the member of a family by the number in its name
object-for : (k : Numbers) (f : Family) (name : List ℕ) → object_in (names_for k f) name ≡ option_map (member f) (number_for k f name)
object-for (UpTo last) f name = of_numbers-object (member f) f.before.now f.behind.now last name
object-for OfRanges f name = of_ranges-object (member f) f.before.now f.behind.now name

pub object-of : (f : Family) (name : List ℕ) → object_in (names_of f) name ≡ option_map (member f) (number_of f name)
object-of f name = object-for f.numbers f name

-- one more family of the rest
next : (fs : List Family) (i : ℕ) (d : Family) (name : List ℕ) → i < length fs → object_in (flat_map names_of (drop i fs)) name ≡ option_or (object_in (names_of (get_or fs i d)) name) (object_in (flat_map names_of (drop (i + 1) fs)) name)
next fs i d name lt = rw (drop-cons fs i d lt, add-one) (object_in-append (names_of (get_or fs i d)) (flat_map names_of (drop (suc i) fs)) name)

joined : (fs : List Family) (i : ℕ) (d : Family) (name : List ℕ) (x : Option Uid) → i < length fs → object_in (flat_map names_of fs) name ≡ object_in (flat_map names_of (drop i fs)) name → x ≡ object_in (names_of (get_or fs i d)) name → object_in (flat_map names_of fs) name ≡ option_or x (object_in (flat_map names_of (drop (i + 1) fs)) name)
joined fs i d name x lt inv h = inv ∙ next fs i d name lt ∙ ap (λ q. option_or q (object_in (flat_map names_of (drop (i + 1) fs)) name)) (sym h)

-- the search has found the object
pub seen : (fs : List Family) (i : ℕ) (d : Family) (name : List ℕ) (x : Option Uid) (o : Uid) → i < length fs → object_in (flat_map names_of fs) name ≡ object_in (flat_map names_of (drop i fs)) name → x ≡ object_in (names_of (get_or fs i d)) name → x ≡ Some o → Some o ≡ object_in (flat_map names_of fs) name
seen fs i d name x o lt inv h is = sym (joined fs i d name x lt inv h ∙ ap (λ q. option_or q (object_in (flat_map names_of (drop (i + 1) fs)) name)) is)

-- the search goes on
pub passed : (fs : List Family) (i : ℕ) (d : Family) (name : List ℕ) (x : Option Uid) → i < length fs → object_in (flat_map names_of fs) name ≡ object_in (flat_map names_of (drop i fs)) name → x ≡ object_in (names_of (get_or fs i d)) name → x ≡ None → object_in (flat_map names_of fs) name ≡ object_in (flat_map names_of (drop (i + 1) fs)) name
passed fs i d name x lt inv h is = joined fs i d name x lt inv h ∙ ap (λ q. option_or q (object_in (flat_map names_of (drop (i + 1) fs)) name)) is

pub ruleset members = (object-of)
