use Rattle.std.proofs.Common.{◌≡◌, ◌+◌, ◌-◌}
use Rattle.sp_cells.specs.declared.names.TheConstants.{RANGES}
use Rattle.tcg_calls.specs.Objects.{range_between, number_making}
use Rattle.tcg_calls.proofs.tcg_names.families.range_named.Given as goal

abbrev pub invariant-loop-number : goal.invariant-loop-number
invariant-loop-number l =
    number_making (range_between l.before l.behind) 0 (RANGES + 1) l.name
    ≡ number_making (range_between l.before l.behind) l.number (RANGES + 1 - l.number) l.name
