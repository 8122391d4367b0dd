use Rattle.std.proofs.Common.{◌≡◌, drop, map}
use Rattle.hba_program.specs.Openings.{option_rows, rows_behind}
use Rattle.hba_program.proofs.hba_tool.opening.rows_of.Given as goal

abbrev pub invariant-loop-i : goal.invariant-loop-i
invariant-loop-i l =
    rows_behind l.rows.items (option_rows (map (λ text. text.now) (drop l.i l.texts))) ≡ option_rows (map (λ text. text.now) l.texts)
