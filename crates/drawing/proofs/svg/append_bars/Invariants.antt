use Rattle.std.proofs.Common.{◌≡◌, ◌++◌, take}
use Rattle.std.specs.List.{flat_map}
use Rattle.drawing.specs.Svg.{bar_text}
use Rattle.drawing.proofs.svg.append_bars.Given as goal

abbrev pub invariant-loop-bar : goal.invariant-loop-bar
invariant-loop-bar l = l.text.items ≡ l.fn.text.items ++ flat_map (bar_text l.width) (take l.bar-index l.bars)
