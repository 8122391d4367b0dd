use Rattle.std.proofs.Common.{◌∙◌, ap, sym, is_some}
use Rattle.drive.specs.Queue.{slot_at}
use Rattle.drive.specs.State.{kept_facts}
use Rattle.drive.proofs.Commands.{admits-read, admits-write}
use Rattle.drive.proofs.drive.Drive.queued.Goals as goal

pub returns-in-ReadQueued-clause-event : goal.returns-in-ReadQueued-clause-event
returns-in-ReadQueued-clause-event c = λ f payload.
    c.queued_transfer.ensures.event f payload
    ∙ admits-read (kept_facts c.args.self.now f) c.args.h.now c.args.tag c.in-ReadQueued.lba c.in-ReadQueued.count c.args.command c.by.result
    (slot_at c.args.self.now.queue.slots c.args.tag) c.in-ReadQueued.is c.by.ensures (ap is_some (sym c.held.ensures.value) ∙ sym c.if-is_some.ensures)

pub returns-in-WriteQueued-clause-event : goal.returns-in-WriteQueued-clause-event
returns-in-WriteQueued-clause-event c = λ f payload.
    c.queued_transfer-in-WriteQueued.ensures.event f payload
    ∙ admits-write (kept_facts c.args.self.now f) c.args.h.now c.args.tag c.in-WriteQueued.lba c.in-WriteQueued.count c.args.command c.by-in-WriteQueued.result
    (slot_at c.args.self.now.queue.slots c.args.tag) c.in-WriteQueued.is c.by-in-WriteQueued.ensures (ap is_some (sym c.held.ensures.value) ∙ sym c.if-is_some.ensures)
