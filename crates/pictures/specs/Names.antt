-- Names of what a sample shows: words, and a number where there are several.
use Rattle.std.specs.Prelude.{ℕ, List, [], ◌++◌, Option, Some, None, decimal}

abbrev pub digits_of : Option ℕ → List ℕ
digits_of None = []
digits_of (Some number) = decimal number

abbrev pub numbered_name : List ℕ → Option ℕ → List ℕ
numbered_name word number = word ++ digits_of number
