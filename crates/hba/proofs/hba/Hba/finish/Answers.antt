-- The drive is that of the act, which is counted.
use Rattle.history.specs.History.{Complete}
use Rattle.hba.specs.History.{all_acts, acts_of}
use Rattle.hba.proofs.hba.Hba.finish.Goals as goal

pub returns-clause-acted : goal.returns-clause-acted
returns-clause-acted c = λ o list a.
    let b = rw (← c.self.view_is) at a in
    record {
      drive = c.in-Ok.ensures.agrees o.origin (all_acts o (acts_of o list)) b.acted.drive;
      count = c.one_more-self-inside.ensures (acts_of o list) (Complete c.args.tag c.args.payload.now) b.acted.count;
    }
