use Rattle.std.proofs.Common.{◌∙◌, refl}
use Rattle.locking.specs.declared.range.Op.TheVariants.{Read, Write}
use Rattle.drive.specs.declared.transfer.Way.TheVariants as ways
use Rattle.drive.specs.State.{kept_facts}
use Rattle.drive.proofs.Commands.{unqueued-so}
use Rattle.drive.proofs.drive.Drive.unqueued.Goals as goal

pub returns-in-ReadDma-clause-event : goal.returns-in-ReadDma-clause-event
returns-in-ReadDma-clause-event c = λ f payload.
    c.unqueued_transfer.ensures.event f payload
    ∙ unqueued-so (kept_facts c.args.self.now f) payload ways.Dma Read c.in-ReadDma.lba c.in-ReadDma.count c.args.command c.by.result tt c.in-ReadDma.is c.by.ensures

pub returns-in-WriteDma-clause-event : goal.returns-in-WriteDma-clause-event
returns-in-WriteDma-clause-event c = λ f payload.
    c.unqueued_transfer-in-WriteDma.ensures.event f payload
    ∙ unqueued-so (kept_facts c.args.self.now f) payload ways.Dma Write c.in-WriteDma.lba c.in-WriteDma.count c.args.command c.by-in-WriteDma.result tt c.in-WriteDma.is c.by-in-WriteDma.ensures

pub returns-in-ReadPio-clause-event : goal.returns-in-ReadPio-clause-event
returns-in-ReadPio-clause-event c = λ f payload.
    c.unqueued_transfer-in-ReadPio.ensures.event f payload
    ∙ unqueued-so (kept_facts c.args.self.now f) payload ways.Pio Read c.in-ReadPio.lba c.in-ReadPio.count c.args.command c.by-in-ReadPio.result tt c.in-ReadPio.is c.by-in-ReadPio.ensures

pub returns-in-WritePio-clause-event : goal.returns-in-WritePio-clause-event
returns-in-WritePio-clause-event c = λ f payload.
    c.unqueued_transfer-in-WritePio.ensures.event f payload
    ∙ unqueued-so (kept_facts c.args.self.now f) payload ways.Pio Write c.in-WritePio.lba c.in-WritePio.count c.args.command c.by-in-WritePio.result tt c.in-WritePio.is c.by-in-WritePio.ensures

pub returns-in-Verify-clause-event : goal.returns-in-Verify-clause-event
returns-in-Verify-clause-event c = λ f payload.
    c.unqueued_transfer-in-Verify.ensures.event f payload
    ∙ unqueued-so (kept_facts c.args.self.now f) payload ways.Verify Read c.in-Verify.lba c.in-Verify.count c.args.command c.by-in-Verify.result refl c.in-Verify.is c.by-in-Verify.ensures
