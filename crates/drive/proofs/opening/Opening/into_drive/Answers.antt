use Rattle.std.proofs.Common.{[], subst, IfOk}
use Rattle.history.specs.Opening.{Origin, origin_on}
use Rattle.drive.specs.State.{Agrees}
use Rattle.drive.proofs.Starts.{opening-no-tries, opening-known, if-ok}
use Rattle.drive.proofs.opening.Opening.into_drive.Goals as goal

pub returns : goal.returns
returns c =
    let o : Origin = origin_on c.self.inside.tables in
    subst (λ (x : Origin). IfOk c.over.result (λ drive. Agrees drive x [])) c.self.view_is
    (if-ok c.over.result c.over.ensures (λ drive kept. kept (opening-no-tries o c.self.invariant) (opening-known o c.self.invariant)))
