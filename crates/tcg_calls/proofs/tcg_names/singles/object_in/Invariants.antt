use Rattle.std.proofs.Common.{◌≡◌, drop}
use Rattle.tcg_calls.specs.Objects.{object_in}
use Rattle.tcg_calls.specs.Tables.{pairs}
use Rattle.tcg_calls.proofs.tcg_names.singles.object_in.Given as goal

abbrev pub invariant-loop-named : goal.invariant-loop-named
invariant-loop-named l = object_in (pairs l.table) l.name ≡ object_in (pairs (drop l.named-index l.table)) l.name
