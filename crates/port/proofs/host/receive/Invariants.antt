use Rattle.std.proofs.Common.{List, ◌++◌, reverse, take}
use Rattle.fis.specs.declared.any.Fis.{Fis}
use Rattle.port.specs.Host.{AreSameButReceived, IsReceived}
use Rattle.port.proofs.host.receive.Given as goal

abbrev pub invariant-loop-fis : goal.invariant-loop-fis
invariant-loop-fis l =
    AreSameButReceived l.initial.memory l.memory
    × ((sent : List Fis) → IsReceived l.initial.memory sent
    → IsReceived l.memory (reverse (take l.fis-index l.fises) ++ sent))
