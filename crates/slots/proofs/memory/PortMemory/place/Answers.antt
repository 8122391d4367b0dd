-- What is laid is found again, and all else is as it was.
use Rattle.slots.proofs.Placed.{placed_holds, placed_apart}
use Rattle.slots.proofs.memory.PortMemory.place.Goals as goal

pub returns-clause-holds : goal.returns-clause-holds
returns-clause-holds c =
    let e = c.lay_command.ensures in
    rw e.exact (placed_holds c.args.self.now c.args.tag c.args.command.now c.args.write c.args.len e.memory_len e.tag e.command_len)

pub returns-clause-elsewhere : goal.returns-clause-elsewhere
returns-clause-elsewhere c = λ place n first second.
    let e = c.lay_command.ensures in
    rw e.exact (placed_apart c.args.self.now c.args.tag c.args.command.now c.args.write c.args.len place n e.memory_len e.tag e.command_len first second)
