-- The drive is that of the reset, which is counted.
use Rattle.std.proofs.Common.{ap, ◌∙◌}
use Rattle.hba.specs.declared.registers.Registers.{Registers}
use Rattle.hba.specs.Registers.{reset_registers}
use Rattle.sp_cells.specs.Resets.{power_cycle}
use Rattle.history.specs.History.{Reset}
use Rattle.hba.specs.History.{all_acts, acts_of}
use Rattle.hba.proofs.hba.Hba.power_cycle.Goals as goal

pub returns : goal.returns
returns c = λ o list a.
    let b = rw (← c.self.view_is) at a in
    record {
      acted = record {
        drive = c.reset.ensures.agrees o.origin (all_acts o (acts_of o list)) b.acted.drive;
        count = c.one_more-self-inside.ensures (acts_of o list) (Reset power_cycle) b.acted.count;
      };
      registers =
          c.new-self-inside.ensures
          ∙ ap reset_registers (c.width.ensures ∙ ap (λ (r : Registers). r.width) b.registers);
    }
