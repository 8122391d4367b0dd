use Rattle.std.proofs.Common.{◌≡◌, ◌*◌, ◌≤◌}
use Rattle.std.specs.Prelude.{vec_len}
use Rattle.port_threads.specs.Rounds.{steps_of_round, AreRounds}
use Rattle.port_threads.proofs.work.make_rounds.Given as goal

abbrev pub invariant-loop-round : goal.invariant-loop-round
invariant-loop-round g l =
    AreRounds l.pass.client l.round l.log.receipts.items
    × (l.pass.client ≡ l.initial.pass.client)
    × (steps_of_round * l.round ≤ vec_len l.log.receipts)
