use Rattle.std.proofs.Common.{◌≡◌, ◌∙◌, subst}
use Rattle.sessions.specs.Live.{AreNumbered, lives_on}
use Rattle.history.proofs.KeptSessionsStart.{lives-past}
use Rattle.tper.specs.Tper.{Tper}
use Rattle.tper.proofs.trusted.Tper.has_session.Goals as goal

pub returns-clause-told : goal.returns-clause-told
returns-clause-told c = λ o past k.
    subst (λ (t : Tper). c.any_on.result ≡ lives_on c.args.sp t.live) c.self.view_is c.any_on.ensures
    ∙ lives-past past c.args.self.now.live c.args.sp k.sessions
    (subst (λ (t : Tper). AreNumbered t.live) c.self.view_is c.numbered.ensures)
