-- A dump that is wanted goes on.
use Rattle.std.proofs.Common.{[], ◌∷◌, Some, subst, sym}
use Rattle.std.proofs.lemmas.Result.{IfOk-weaker}
use Rattle.hba_waves.specs.Looks.{moment_after}
use Rattle.hba_waves.specs.Written.{GoesOnIf}
use Rattle.hba_waves.proofs.writer.show_if.Goals as goal

pub returns-in-Some : goal.returns-in-Some
returns-in-Some g c =
    IfOk-weaker c.show.result _ _
    (λ done goes. λ o list agrees.
    subst (λ old. GoesOnIf g.D.Write.contents (moment_after o c.args.time list ∷ []) old (Some c.show.new.self)) (sym c.in-Some.is)
    (goes o list agrees))
    c.show.ensures
