-- It is told as it was taken.
use Rattle.std.proofs.Common.{None}
use Rattle.hba.specs.declared.work.Done.TheVariants as dones
use Rattle.hba.specs.Engine.{Controls}
use Rattle.hba.proofs.Turns.{told_as}
use Rattle.hba.proofs.hba.Hba.control.Goals as goal

pub returns : goal.returns
returns g c =
    told_as g.M.HostMemory.does (λ o a. Controls a c.args.tag c.args.fis.now) c.args.self.now c.args.memory.now c.take_control.new.self c.take_control.new.memory
    c.of_control.result dones.Control None c.of_control.ensures c.take_control.ensures
