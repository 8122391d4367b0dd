-- The drive is that of the act, which is counted.
use Rattle.history.specs.History.{Accept}
use Rattle.hba.specs.History.{all_acts, acts_of}
use Rattle.hba.proofs.hba.Hba.take.Goals as goal

pub returns-clause-acted : goal.returns-clause-acted
returns-clause-acted c = λ o list a.
    let b = rw (← c.self.view_is) at a in
    record {
      drive = c.in_ok-lent.ensures.agrees o.origin (all_acts o (acts_of o list)) b.acted.drive;
      count = c.one_more-self-inside.ensures (acts_of o list) (Accept c.args.fis.now c.args.payload.now) b.acted.count;
    }
