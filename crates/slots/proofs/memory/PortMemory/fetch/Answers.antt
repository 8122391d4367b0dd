-- A slot that holds a command gives it.
use Rattle.std.proofs.Common.{◌∙◌}
use Rattle.slots.proofs.Held.{held}
use Rattle.slots.proofs.memory.PortMemory.fetch.Goals as goal

pub returns-clause-held : goal.returns-clause-held
returns-clause-held c = λ command write len size is pairs fits holds.
    c.read_slot.ensures.exact ∙ held c.args.self.now c.args.tag command write len c.read_slot.ensures.tag size is pairs fits holds
