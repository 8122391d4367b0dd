use Rattle.std.proofs.Common.{ap, ◌∙◌}
use Rattle.locked_port.specs.Counts.{client_steps}
use Rattle.locked_port.proofs.Counts.{recounted}
use Rattle.locked_port.proofs.locked.LockedPort.close.Goals as goal

pub returns-clause-stands : goal.returns-clause-stands
returns-clause-stands g c =
    let parts = c.into_parts-port.result in
    recounted parts.1.total c.count_client_steps-client_steps.result parts.0 c.into_parts-port.ensures.stands (c.count_client_steps-client_steps.ensures ∙ ap client_steps c.history.ensures)
