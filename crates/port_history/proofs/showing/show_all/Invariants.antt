use Rattle.std.proofs.Common.{◌≡◌, drop}
use Rattle.port_history.specs.Registers.{all_shown}
use Rattle.port_history.proofs.showing.show_all.Given as goal

abbrev pub invariant-loop-fis : goal.invariant-loop-fis
invariant-loop-fis l =
    all_shown l.tag l.regs (drop l.fis-index l.fises) ≡ all_shown l.tag l.initial.regs l.fises
