use Rattle.history.specs.Opening.{factory_origin}
use Rattle.locked_port.proofs.Counts.{opened}
use Rattle.port_threads.proofs.run.default_port.Goals as goal

pub returns-clause-stands : goal.returns-clause-stands
returns-clause-stands c =
    let o = factory_origin c.unwrap-config.result in
    opened o c.in-Ok-new.port (c.in-Ok-new.ensures.agrees o c.in-Ok.ensures.agrees)
