use Rattle.std.proofs.Common.{◌≡◌, drop}
use Rattle.tcg_calls.specs.Objects.{name_in}
use Rattle.tcg_calls.specs.Tables.{pairs}
use Rattle.tcg_calls.proofs.tcg_names.singles.name_in.Given as goal

abbrev pub invariant-loop-named : goal.invariant-loop-named
invariant-loop-named l = name_in (pairs l.table) l.object ≡ name_in (pairs (drop l.named-index l.table)) l.object
