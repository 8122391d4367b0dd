use Rattle.std.proofs.Common.{◌≡◌, ◌+◌, ◌-◌}
use Rattle.tcg_calls.specs.Objects.{number_between, number_making}
use Rattle.tcg_calls.proofs.tcg_names.families.number_named.Given as goal

abbrev pub invariant-loop-number : goal.invariant-loop-number
invariant-loop-number l =
    number_making (number_between l.before l.behind) 1 l.last l.name
    ≡ number_making (number_between l.before l.behind) l.number (l.last + 1 - l.number) l.name
