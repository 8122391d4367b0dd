use Rattle.std.proofs.Common.{rules, sym}
use Rattle.std.specs.Cmp.Rules.{comparing}
use Rattle.std.proofs.lemmas.Slice.Eq.{slice_eq-Decides}
use Rattle.sp_cells.proofs.cells.Columns.is.Goals as goal

pub returns : goal.returns
returns c = rw (sym c.as_slice.ensures, sym c.as_slice-2.ensures) (slice_eq-Decides (λ a b. search (comparing, rules)) _ _ _ c.eq.ensures)
