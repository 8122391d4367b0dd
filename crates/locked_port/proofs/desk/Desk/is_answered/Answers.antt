use Rattle.std.proofs.Common.{length}
use Rattle.locked_port.proofs.Awaits.{within}
use Rattle.locked_port.proofs.Counts.{stage_number}
use Rattle.locked_port.proofs.desk.Desk.is_answered.Goals as goal

pub returns-clause-number : goal.returns-clause-number
returns-clause-number g c =
    let d = c.args.self.now in
    let s = stage_number d.port d.book.total c.args.ticket.now.tag d.stands c.stage-stage.ensures.slot in
    rw c.awaited.ensures.told (within c.is_full-full.result c.args.client c.args.ticket.now c.stage-stage.result (length d.port.history) (rw c.stage-stage.ensures.value s))
