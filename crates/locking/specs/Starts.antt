-- Where the ranges that have sectors start, in rising order: what is kept beside the rows.
use Rattle.std.specs.Prelude.{ℕ, ◌≡◌, ◌+◌, ◌≤◌, ◌<◌, List, length, map, slice_index_or}
use Rattle.std.specs.List.{All, AllPairs, insert}
use Rattle.locking.specs.declared.range.RangeRow.{RangeRow}
use Rattle.locking.specs.declared.numbered.Start.{Start}
use Rattle.locking.specs.Range.{row_in}

-- the row at its place
abbrev pub row_from : List RangeRow → RangeRow → Start → RangeRow
row_from rows other start = slice_index_or rows start.place other

-- It is the start of a row with sectors.
pub record IsStartOf (rows : List RangeRow) (start : Start) : Type 0 where
  pub inside : start.place < length rows
  pub first : (other : RangeRow) → start.sector ≡ (row_from rows other start).start
  pub some : (other : RangeRow) → 0 < (row_from rows other start).length

-- Its row's sectors end before those that start at `later`.
abbrev pub EndsBefore : List RangeRow → Start → Start → Type 0
EndsBefore rows start later =
    (other : RangeRow) → (row_from rows other start).start + (row_from rows other start).length
    ≤ later.sector

-- Each is a start, and they rise; a search in their rows finds what a search in all rows finds.
pub record AreStarts (rows : List RangeRow) (starts : List Start) : Type 0 where
  pub few : length starts ≤ length rows
  pub each : All (IsStartOf rows) starts
  pub rising : AllPairs (EndsBefore rows) starts
  pub same : (other global : RangeRow) (sector : ℕ)
      → row_in (map (row_from rows other) starts) global sector ≡ row_in rows global sector

-- One more start, behind those that stand at or before its sector.
pub record AddsStart (old new : List Start) (start : Start) : Type 0 where
  pub index : ℕ
  pub within : index ≤ length old
  pub before : (k : ℕ) (d : Start) → k < index → (slice_index_or old k d).sector ≤ start.sector
  pub behind : (k : ℕ) (d : Start) → index ≤ k → k < length old
      → start.sector < (slice_index_or old k d).sector
  pub added : new ≡ insert old index start
