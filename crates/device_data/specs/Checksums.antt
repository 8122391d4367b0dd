-- A byte behind others that makes the sum of all a multiple of 256 (ACS-3, NCQ Command Error log and IDENTIFY DEVICE word 255).
use Rattle.std.specs.Prelude.{ℕ, ◌-◌, ◌%◌, List, [], ◌∷◌, ◌++◌}
use Rattle.basics.specs.Sums.{byte_sum}

abbrev pub with_sum : List ℕ → List ℕ
with_sum content = content ++ (256 - byte_sum content % 256) % 256 ∷ []
