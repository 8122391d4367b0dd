use Rattle.std.proofs.Common.{◌≡◌, ◌*◌, ◌≤◌, map, length}
use Rattle.std.specs.Prelude.{vec_len}
use Rattle.port_threads.specs.Rounds.{steps_of_round, rounds_of, receipts_of}
use Rattle.port_threads.proofs.run.gather.Given as goal

abbrev pub invariant-loop-work : goal.invariant-loop-work
invariant-loop-work g l =
    (l.rounds ≡ rounds_of (map (λ w. (w.rounds, w.receipts.items)) l.yielded))
    × (l.receipts.items ≡ receipts_of (map (λ w. (w.rounds, w.receipts.items)) l.yielded))
    × (vec_len l.passes ≡ length l.yielded)
    × (steps_of_round * l.rounds ≤ vec_len l.receipts)
