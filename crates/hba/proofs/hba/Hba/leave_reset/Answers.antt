-- The drive is that of the software reset, which is counted.
use Rattle.std.proofs.Common.{◌∙◌, ap}
use Rattle.history.specs.History.{SoftwareReset}
use Rattle.hba.specs.declared.registers.Registers.{Registers}
use Rattle.hba.specs.SoftwareReset.{reset_ended}
use Rattle.hba.specs.History.{all_acts, acts_of}
use Rattle.hba.proofs.hba.Hba.leave_reset.Goals as goal

pub returns : goal.returns
returns c = λ o list a.
    let b = rw (← c.self.view_is) at a in
    record {
      acted = record {
        drive = c.software_reset.ensures.agrees o.origin (all_acts o (acts_of o list)) b.acted.drive;
        count = c.one_more-self-inside.ensures (acts_of o list) SoftwareReset b.acted.count;
      };
      registers = c.leave_reset.ensures ∙ ap (λ (r : Registers). reset_ended c.args.tag r) b.registers;
    }
