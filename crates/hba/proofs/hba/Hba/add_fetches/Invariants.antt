use Rattle.std.proofs.Common.{◌≡◌, ◌≤◌, ◌+◌, ◌++◌, length}
use Rattle.hba.specs.Ready.{is_ready_on, fetches}
use Rattle.hba.proofs.hba.Hba.add_fetches.Given as goal

abbrev pub invariant-loop-number : goal.invariant-loop-number
invariant-loop-number l = record {
  items : l.works.items ≡ l.initial.works.items ++ fetches (is_ready_on l.self) l.number;
  few : length l.works.items ≤ 1 + l.number;
}
