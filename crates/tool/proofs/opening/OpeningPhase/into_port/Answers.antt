use Rattle.tool.specs.Openings.{origin_of}
use Rattle.tool.proofs.opening.OpeningPhase.into_port.Goals as goal

pub returns : goal.returns
returns c =
    let o = origin_of c.args.self in
    c.new-2.ensures o (c.in-Ok.ensures.agrees o c.in_ok-drive.ensures)
