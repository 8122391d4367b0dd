-- The numbers and the names of faults, as the program prints them.
use Rattle.std.specs.Prelude.{ℕ, List, codes}
use Rattle.tcg_tokens.specs.declared.error.TokenError.{TokenError}
use Rattle.tcg_tokens.specs.declared.error.TokenError.TheVariants.{Truncated, Reserved, Signed, Continued, TooBig, Unbalanced, Extra, Deep, OutOfMemory}

abbrev pub code_of_fault : TokenError → ℕ
code_of_fault Truncated = 1
code_of_fault Reserved = 2
code_of_fault Signed = 3
code_of_fault Continued = 4
code_of_fault TooBig = 5
code_of_fault Unbalanced = 6
code_of_fault Extra = 7
code_of_fault Deep = 8
code_of_fault OutOfMemory = 9

abbrev pub name_of_fault : TokenError → List ℕ
name_of_fault Truncated = codes "Truncated"
name_of_fault Reserved = codes "Reserved"
name_of_fault Signed = codes "Signed"
name_of_fault Continued = codes "Continued"
name_of_fault TooBig = codes "TooBig"
name_of_fault Unbalanced = codes "Unbalanced"
name_of_fault Extra = codes "Extra"
name_of_fault Deep = codes "Deep"
name_of_fault OutOfMemory = codes "OutOfMemory"
