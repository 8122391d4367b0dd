use Rattle.std.proofs.Common.{◌≡◌, ◌++◌, ◌-◌, ◌*◌, ◌/◌, length, drop}
use Rattle.script_lines.specs.Texts.{each_head, heads_text}
use Rattle.script_lines.proofs.report.append_heads.Given as goal

abbrev pub invariant-loop-head : goal.invariant-loop-head
invariant-loop-head l =
    l.line.items ++ each_head (length l.heads / 4 - l.head) (drop (4 * l.head) l.heads) ≡ l.initial.line.items ++ heads_text l.heads
