use Rattle.std.proofs.Common.{rules, ◌≡◌, ◌+◌, ◌<◌, true, false, length, drop, arith}
use Rattle.locked_port.specs.Counts.{client_steps}
use Rattle.locked_port.proofs.Clients.{steps_from}
use Rattle.locked_port.proofs.locked.count_client_steps.Goals.{then-is_client_at, else-is_client_at}
use Rattle.locked_port.proofs.locked.count_client_steps.Goals as goal

pub loop-place-preserved : goal.loop-place-preserved
loop-place-preserved c =
    let history = c.args.history.now.items in
    let place = c.loop-place.place in
    let inv = c.loop-place.invariant in
    let within : place < length history = search rules in
    elim c.if-is_client_at.branch [
      | then-is_client_at w ↦
          let more : client_steps (drop place history) ≡ 1 + client_steps (drop (place + 1) history) = steps_from history place c.is_client_at.result true c.is_client_at.ensures w.if-is_client_at.true within in
          record {
            within = omega (arith, inv.within, w.count-is);
            counted = omega (arith, inv.counted, w.count-is, more);
          }
      | else-is_client_at w ↦
          let more : client_steps (drop place history) ≡ 0 + client_steps (drop (place + 1) history) = steps_from history place c.is_client_at.result false c.is_client_at.ensures w.if-is_client_at.false within in
          record {
            within = omega (arith, inv.within, w.count-is);
            counted = omega (arith, inv.counted, w.count-is, more);
          }
    ]
