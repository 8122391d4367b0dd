use Rattle.std.proofs.Common.{◌≡◌, ◌++◌, take}
use Rattle.reasons.specs.Remedies.{more_ways_text}
use Rattle.reasons.proofs.remedies.ways.append_more_ways.Given as goal

abbrev pub invariant-loop-ace : goal.invariant-loop-ace
invariant-loop-ace g l = l.text.items ≡ l.fn.text.items ++ more_ways_text (g.R.Rows.look_up l.rows) l.sp l.before (take l.ace-index l.aces)
