use Rattle.std.proofs.Common.{◌≡◌, drop}
use Rattle.std.specs.List.{list_any}
use Rattle.judged.specs.Freedoms.{has_digit}
use Rattle.judged.proofs.freedom.has_some_digit.Given as goal

abbrev pub invariant-loop-span : goal.invariant-loop-span
invariant-loop-span l = list_any (has_digit l.place) (drop l.span-index l.spans) ≡ list_any (has_digit l.place) l.spans
