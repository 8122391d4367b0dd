use Rattle.std.proofs.Common.{false, refl}
use Rattle.host_memory.specs.Access.{Laid}
use Rattle.host_memory.proofs.SeveralWindows.{write_stands, none_stands}
use Rattle.host_memory.proofs.windows.write_in.Goals as goal

pub returns-in_default : goal.returns-in_default
returns-in_default c =
    none_stands c.args.windows.now (Laid c.args.at c.args.bytes.now false) c.in_default.ensures.first refl

pub returns : goal.returns
returns c =
    write_stands c.args.windows.now c.args.at c.args.bytes.now c.write.result c.in-Some.place _ c.write.new.self
    c.in-Some.ensures.first c.write.ensures
