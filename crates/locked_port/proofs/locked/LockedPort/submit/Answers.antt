use Rattle.std.proofs.Common.{◌≡◌, ◌∙◌}
use Rattle.locked_port.specs.Hands.{claimed}
use Rattle.locked_port.proofs.Hands.{frees_claimed, refused_same}
use Rattle.locked_port.proofs.locked.LockedPort.submit.Goals.{in-Ok, in-Err}
use Rattle.locked_port.proofs.locked.LockedPort.submit.Goals as goal

pub returns-in-Err-put-clause-hand : goal.returns-in-Err-put-clause-hand
returns-in-Err-put-clause-hand g c =
    let same : c.match-build.pass ≡ claimed c.in-Some.tag c.args.pass.now = elim c.match-build.branch [
      | in-Ok w ↦ w.pass-is ∙ refused_same w.submit-put.result c.match-build.put c.in-Err-put.error _ _ c.in-Err-put.is w.put-is w.submit-put.ensures.hand ∙ c.in-Some.ensures.1
      | in-Err w ↦ w.pass-is ∙ c.in-Some.ensures.1
    ] in
    frees_claimed c.in-Some.tag c.args.pass.now c.match-build.pass c.release.new.self same c.in-Some.ensures.0 c.release.ensures
