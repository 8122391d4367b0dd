use Rattle.std.proofs.Common.{◌≡◌, ◌-◌, map}
use Rattle.tcg_tokens.specs.Tree.{tree}
use Rattle.script_lines.specs.Said.{cells_up_to, most_cells}
use Rattle.script_lines.proofs.named_lines.Cells.{cells_behind}
use Rattle.script_lines.proofs.named_lines.phrase.cells_said.Given as goal

abbrev pub invariant-loop-number : goal.invariant-loop-number
invariant-loop-number l =
    cells_behind (map tree l.cells.items) (cells_up_to (most_cells - l.number) l.table l.words.rest.now)
    ≡ cells_up_to most_cells l.table l.initial.words.rest.now
