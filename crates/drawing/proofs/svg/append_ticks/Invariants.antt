use Rattle.std.proofs.Common.{◌≡◌, ◌++◌}
use Rattle.drawing.specs.Svg.{ticks_text}
use Rattle.drawing.proofs.svg.append_ticks.Given as goal

abbrev pub invariant-loop-tick : goal.invariant-loop-tick
invariant-loop-tick l = l.text.items ≡ l.fn.text.items ++ ticks_text l.width l.rows l.tick
