use Rattle.std.proofs.Common.{◌≡◌, ◌++◌, take}
use Rattle.drawing.specs.Svg.{rows_text}
use Rattle.drawing.proofs.svg.append_rows.Given as goal

abbrev pub invariant-loop-row : goal.invariant-loop-row
invariant-loop-row l = l.text.items ≡ l.fn.text.items ++ rows_text 0 (take l.row l.rows)
