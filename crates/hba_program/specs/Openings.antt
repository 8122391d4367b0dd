-- The drive that the options open.
use Rattle.std.specs.Prelude.{◌≡◌, ℕ, List, [], ◌∷◌, ◌++◌, codes, Result, Ok, Err}
use Rattle.sp_cells.specs.Config.{Config}
use Rattle.locking.specs.declared.range.RangeRow.{RangeRow}
use Rattle.history.specs.Opening.{Origin, opened_with}
use Rattle.script_lines.specs.Lines.{line_said}
use Rattle.script_lines.specs.declared.fault.LineFault.{LineFault}
use Rattle.script_lines.specs.declared.line.Line.{Line}
use Rattle.script_lines.specs.declared.line.Line.TheVariants as lines
use Rattle.hba_program.specs.declared.hba_tool.opening.RangeFault.{RangeFault}
use Rattle.hba_program.specs.declared.hba_tool.opening.RangeFault.TheVariants as faults

-- the row of a range line
abbrev pub row_of_said : Result Line LineFault → Result RangeRow RangeFault
row_of_said (Ok (lines.Range row)) = Ok row
row_of_said (Ok line) = Err faults.Other
row_of_said (Err fault) = Err (faults.Line fault)

-- the row that the words of a range line write, without their first
abbrev pub option_row : List ℕ → Result RangeRow RangeFault
option_row text = row_of_said (line_said (codes "range " ++ text))

abbrev pub row_before : RangeRow → Result (List RangeRow) RangeFault
    → Result (List RangeRow) RangeFault
row_before row (Ok rows) = Ok (row ∷ rows)
row_before row (Err fault) = Err fault

abbrev pub row_then : Result RangeRow RangeFault → Result (List RangeRow) RangeFault
    → Result (List RangeRow) RangeFault
row_then (Ok row) rows = row_before row rows
row_then (Err fault) rows = Err fault

-- the rows that texts write; the first text that writes none decides
abbrev pub option_rows : List (List ℕ) → Result (List RangeRow) RangeFault
option_rows [] = Ok []
option_rows (text ∷ texts) = row_then (option_row text) (option_rows texts)

-- a row is refused
abbrev pub IsRangeFault : Config → List RangeRow → RangeFault → Type 0
IsRangeFault config rows (faults.Refused error) = opened_with config rows ≡ Err error
IsRangeFault config rows fault = ⊥

-- by what the texts of the ranges write
abbrev pub OpensAs : Config → Result (List RangeRow) RangeFault → Origin → Type 0
OpensAs config (Ok rows) o = opened_with config rows ≡ Ok o
OpensAs config (Err fault) o = ⊥

abbrev pub IsFaultOf : Config → Result (List RangeRow) RangeFault → RangeFault → Type 0
IsFaultOf config (Ok rows) fault = IsRangeFault config rows fault
IsFaultOf config (Err first) fault = fault ≡ first

-- rows in front of these
abbrev pub rows_behind : List RangeRow → Result (List RangeRow) RangeFault
    → Result (List RangeRow) RangeFault
rows_behind front (Ok rows) = Ok (front ++ rows)
rows_behind front (Err fault) = Err fault
