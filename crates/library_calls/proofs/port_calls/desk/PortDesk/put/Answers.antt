use Rattle.std.proofs.Common.{rules, refl, arith}
use Rattle.library_calls.proofs.port_calls.Steps.{put}
use Rattle.library_calls.proofs.port_calls.desk.PortDesk.put.Goals as goal

pub returns-in-Ok : goal.returns-in-Ok
returns-in-Ok c = put _ _ _ _ _ _ _ _ _ (search (arith, rules)) c.in-Some.ensures.value c.in-Ok.ensures c.told.ensures
    c.put.ensures.agrees c.put.ensures.number c.put.ensures.refused c.put.ensures.err refl
