use Rattle.std.proofs.Common.{◌≡◌, ◌++◌, map, take, drop}
use Rattle.library_calls.specs.Listed.{ready_numbers}
use Rattle.library_calls.proofs.port_calls.ready.list_out.Given as goal

abbrev pub invariant-loop-i : goal.invariant-loop-i
invariant-loop-i l = l.into ≡ map ready_numbers (take l.i l.steps) ++ drop l.i l.fn.into
