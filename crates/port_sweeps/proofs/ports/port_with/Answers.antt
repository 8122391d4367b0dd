-- A port over a drive that agrees with an opening stands, and no client has done a step.
use Rattle.std.proofs.Common.{[], ap}
use Rattle.port.specs.Agreement.{PortAgrees}
use Rattle.locked_port.specs.Counts.{client_steps}
use Rattle.port_sweeps.proofs.ports.port_with.Goals as goal

pub returns : goal.returns
returns c =
    let drive = c.in-Ok.ensures.agrees in
    let port : PortAgrees c.in_ok-port.port drive.0 [] = c.in_ok-port.ensures.agrees drive.0 drive.2 in
    ∣ record { origin = drive.0; list = []; agrees = port; counted = ap client_steps port.history } ∣₁
