-- The signature goes where received FISes go.
use Rattle.std.proofs.Common.{[], ◌∷◌, List, ap}
use Rattle.std.specs.Result.{result_err}
use Rattle.fis.specs.declared.any.Fis.{Fis}
use Rattle.hba.proofs.Turns.{signs}
use Rattle.hba.proofs.hba.Hba.sign.Goals as goal

pub returns : goal.returns
returns g c =
    signs g.M.HostMemory.does c.args.self.now c.args.memory.now c.note_signature.new.self c.post_all.new.memory c.received_at-to.result
    (c.signature_fis.result ∷ []) (result_err c.post_all.result) (ap (λ (f : Fis). let fs : List Fis = f ∷ [] in fs) c.signature_fis.ensures)
    c.received_at-to.ensures (rw c.width.ensures at c.post_all.ensures) c.note_signature.ensures
