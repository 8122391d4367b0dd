use Rattle.std.proofs.Common.{◌≡◌, ◌≤◌, ◌+◌, ◌++◌, length}
use Rattle.hba.specs.Ready.{is_ready_on, completions}
use Rattle.hba.proofs.hba.Hba.add_completions.Given as goal

abbrev pub invariant-loop-number : goal.invariant-loop-number
invariant-loop-number l = record {
  items : l.works.items ≡ l.initial.works.items ++ completions (is_ready_on l.self) l.number;
  few : length l.works.items ≤ 33 + l.number;
}
