use Rattle.std.proofs.Common.{◌≡◌, ◌++◌, map, drop}
use Rattle.runs.specs.Rows.{state_row}
use Rattle.runs.proofs.explored.part_rows.append_states.Given as goal

abbrev pub invariant-loop-state : goal.invariant-loop-state
invariant-loop-state l = l.rows ++ map (state_row l.size) (drop l.state-index l.states) ≡ l.fn.rows ++ map (state_row l.size) l.states
