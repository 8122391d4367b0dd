use Rattle.std.proofs.Common.{ap, ◌∙◌, rules}
use Rattle.port_history.specs.Requests.{fis_bytes}
use Rattle.port_history.proofs.Fises.{spelled}
use Rattle.port.proofs.host.block.Goals as goal

pub returns : goal.returns
returns c =
    spelled c.to_fis.result c.to_bytes.result c.to_bytes.ensures (search rules) (search rules)
    ∙ ap fis_bytes c.to_fis.ensures.exact
