-- The signature goes where received FISes go.
use Rattle.std.proofs.Common.{[], ◌∷◌, List, ap, ◌∙◌}
use Rattle.std.specs.Result.{result_err}
use Rattle.fis.specs.declared.any.Fis.{Fis}
use Rattle.hba.specs.History.{State}
use Rattle.hba.specs.Engine.{fises_at}
use Rattle.hba.proofs.SoftwareResets.{restarts}
use Rattle.hba.proofs.hba.Hba.restart.Goals as goal

pub returns : goal.returns
returns g c =
    restarts g.M.HostMemory.does c.args.self.now c.args.memory.now c.leave_reset.new.self c.post_all.new.memory c.args.tag c.received_at-to.result
    (c.signature_fis.result ∷ []) (result_err c.post_all.result) (ap (λ (f : Fis). let fs : List Fis = f ∷ [] in fs) c.signature_fis.ensures)
    (c.received_at-to.ensures ∙ ap (λ (s : State). fises_at s.registers) c.self.view_is) (rw c.width.ensures at c.post_all.ensures) c.leave_reset.ensures
