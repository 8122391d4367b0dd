-- How a script goes on behind a line, whatever it runs on.
use Rattle.std.specs.Prelude.{◌≡◌, ℕ, List, ◌++◌, Result, Ok, Err}
use Rattle.script_lines.specs.Texts.{printed, last_of}
use Rattle.script_lines.specs.declared.report.Report.{Report}
use Rattle.drive_scripts.specs.declared.turn.Turn.{Turn}
use Rattle.drive_scripts.specs.declared.turn.Turn.TheVariants as turns

-- the course of a script with what a line did, the lines that are printed, and the reasons that are
-- told behind them, as lines with their line feeds
pub record AdvanceOf (Course : Type 0) : Type 0 where
  pub course : Course
  pub lines : List (List ℕ)
  pub reasons : List ℕ

-- these lines are printed, and these reasons told behind them; the last line is that of the lines
pub record PrintsWithReasons (before after : Report) (lines : List (List ℕ))
    (reasons : List ℕ) : Type 0 where
  pub pending : after.pending.items ≡ before.pending.items ++ (printed lines ++ reasons)
  pub last : after.last.items ≡ last_of before.last.items lines

-- what runs stands as the course of the advance leaves it, and says so
pub record AdvancesBy (Course : Type 0) (Runs : Course → Type 0) (before after : Report)
    (made : AdvanceOf Course) : Type 0 where
  pub runs : Runs made.course
  pub tells : PrintsWithReasons before after made.lines made.reasons

-- a turn is what the line does, or the status that it ends the run with
abbrev pub StepsBy : (Course : Type 0) → (Course → Type 0) → Turn → Result (AdvanceOf Course) ℕ
    → Report → Report → Type 0
StepsBy Course Runs (turns.Goes aborted) (Ok made) before after =
    AdvancesBy Course Runs before after made
StepsBy Course Runs turns.ExpectationFailed (Err status) before after =
    (status ≡ 1) × (after ≡ before)
StepsBy Course Runs (turns.Bad fault) (Err status) before after = (status ≡ 2) × (after ≡ before)
StepsBy Course Runs turn result before after = ⊥
