use Rattle.std.proofs.Common.{◌≡◌, ◌++◌, take}
use Rattle.reasons.specs.Holdings.{more_names_text}
use Rattle.reasons.proofs.holdings.append_more_names.Given as goal

abbrev pub invariant-loop-object : goal.invariant-loop-object
invariant-loop-object l = l.text.items ≡ l.fn.text.items ++ more_names_text (take l.object-index l.objects)
