-- What is laid stands among the received FISes.
use Rattle.slots.proofs.Posted.{posted_apart, posted_stands, posted_beside}
use Rattle.slots.proofs.memory.PortMemory.post.Goals as goal

pub returns-clause-elsewhere : goal.returns-clause-elsewhere
returns-clause-elsewhere c = λ place n h.
    let e = c.store.ensures in
    rw e.exact.2 (posted_apart c.args.self.now c.args.fis.now e.exact.0 e.exact.1 e.memory_len place n h)

pub returns-clause-stands : goal.returns-clause-stands
returns-clause-stands c =
    let e = c.store.ensures in
    rw e.exact.2 (posted_stands c.args.self.now c.args.fis.now e.exact.0 e.exact.1 e.memory_len)

pub returns-clause-beside : goal.returns-clause-beside
returns-clause-beside c = λ place n h.
    let e = c.store.ensures in
    rw e.exact.2 (posted_beside c.args.self.now c.args.fis.now e.exact.0 e.exact.1 e.memory_len place n h)
