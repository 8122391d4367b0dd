use Rattle.std.proofs.Common.{◌≡◌, ◌++◌, take}
use Rattle.audit.specs.Names.{others_text}
use Rattle.audit.proofs.names.append_others.Given as goal

abbrev pub invariant-loop-other : goal.invariant-loop-other
invariant-loop-other l = l.text.items ≡ l.fn.text.items ++ others_text (take l.other-index l.others)
