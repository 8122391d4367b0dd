use Rattle.std.proofs.Common.{refl, ap, subst}
use Rattle.tcg_tokens.specs.Message.{end_session}
use Rattle.sessions.specs.Deeds.{Ended, says}
use Rattle.tper.specs.Items.{OfSession}
use Rattle.tper.specs.Tper.{Tper}
use Rattle.tper.proofs.trusted.Tper.break_off.Goals as goal

pub returns-clause-ends : goal.returns-clause-ends
returns-clause-ends c = record {
  said = c.end_session.result;
  met =
      subst (λ (t : Tper). OfSession (λ f its. says (Ended its.sp) end_session) c.args.id c.end_session.result t.store c.end_session.new.store t.live c.end_session.new.sessions) c.self.view_is
      c.end_session.ensures.met;
  waiting = ap (λ (t : Tper). t.waiting) c.self.view_is;
  denied = refl;
  rule = refl;
  erases = c.none.ensures;
}
