use Rattle.std.proofs.Common.{◌≡◌, rules}
use Rattle.slots.specs.Fetch.{HoldsCommand}
use Rattle.port_history.specs.Requests.{command_fis}
use Rattle.port.proofs.Memory.{laid_here}
use Rattle.port.proofs.host.lay_block.Goals as goal

pub returns-clause-laid : goal.returns-clause-laid
returns-clause-laid c =
    let fis : c.args.fis.now ≡ command_fis c.args.command c.args.tag = c.requires.built in
    let here : HoldsCommand c.place.new.self c.args.tag c.args.fis.now c.is_to_device.result c.bytes_moved.result = c.place.ensures.holds in
    laid_here c.place.new.self c.fill.new.memory c.args.tag c.args.command c.args.bytes.now
    (search rules) (rw (← fis, ← c.is_to_device.ensures, ← c.bytes_moved.ensures) here) c.fill.ensures.elsewhere c.fill.ensures.filled
