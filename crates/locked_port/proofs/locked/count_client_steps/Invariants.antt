use Rattle.std.proofs.Common.{◌≡◌, ◌+◌, ◌≤◌, drop}
use Rattle.locked_port.specs.Counts.{client_steps}
use Rattle.locked_port.proofs.locked.count_client_steps.Given as goal

abbrev pub invariant-loop-place : goal.invariant-loop-place
invariant-loop-place l = record {
  within : l.count ≤ l.place;
  counted : l.count + client_steps (drop l.place l.history.items) ≡ client_steps l.history.items;
}
