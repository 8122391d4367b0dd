use Rattle.std.proofs.Common.{None, length, refl}
use Rattle.host_memory.specs.Access.{Asked, read_answer}
use Rattle.host_memory.proofs.SeveralWindows.{read_stands, none_stands}
use Rattle.host_memory.proofs.windows.read_in.Goals as goal

pub returns-in_default : goal.returns-in_default
returns-in_default c =
    none_stands c.args.windows.now (Asked c.args.at (length c.args.into.now) None) c.in_default.ensures.first refl

pub returns : goal.returns
returns c =
    read_stands c.args.windows.now c.args.at (length c.args.into.now) c.in-Some.place _
    (read_answer c.fill.result c.fill.new.into) c.in-Some.ensures.first c.fill.ensures
