use Rattle.std.proofs.Common.{sym, subst}
use Rattle.port_scripts.specs.PortActs.{bare_steps}
use Rattle.port_scripts.proofs.PortActs.{named-so}
use Rattle.port_scripts.proofs.ahead.ahead_of.Goals as goal

pub returns : goal.returns
returns c = λ o past agrees lawful. record {
  put = rw c.put_in_slot-put.ensures
      (named-so c.args.port.now o (bare_steps past) c.args.step.now c.slot_of.result agrees c.slot_of.ensures.value
      c.slot_of.ensures.slot);
  place = c.denials-place.ensures.told o (bare_steps past) agrees;
  brings = c.in_ok-brought.ensures o (bare_steps past) agrees lawful;
}
