-- Tables of the code, as they are named here.
use Rattle.std.specs.Prelude.{ℕ, List, map}
use Rattle.std.specs.Borrow.{Bor}
use Rattle.sp_cells.specs.declared.names.Uid.{Uid}
use Rattle.tcg_calls.specs.Objects.{Named}

abbrev pub pairs : List (Uid × Bor (List ℕ)) → List Named
pairs table = map (λ e. (e.0, e.1.now)) table
