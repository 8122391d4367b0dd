-- What a drive can start from: the factory's tables, or those of an Activate with some rows of ranges.
use Rattle.std.specs.Prelude.{◌≡◌, List, Ok}
use Rattle.sp_cells.specs.Config.{Config}
use Rattle.locking.specs.declared.range.RangeRow.{RangeRow}
use Rattle.history.specs.Opening.{Origin, origin_with}

-- Some rows, set one after the other, make it.
pub record IsOpening (o : Origin) : Type 0 where
  pub config : Config
  pub rows : List RangeRow
  pub made : origin_with config rows ≡ Ok o
