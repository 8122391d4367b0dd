use Rattle.std.proofs.Common.{◌≡◌, true, false, sym, ap, ◌∙◌}
use Rattle.std.specs.Prelude.{Ok}
use Rattle.tcg_tokens.specs.Message.{end_session}
use Rattle.tcg_tokens.specs.Reading.{reading}
use Rattle.tper.proofs.Items.{ended, unended}
use Rattle.tper.proofs.item.in_session.Goals as goal

pub returns-then-ends_session-clause-met : goal.returns-then-ends_session-clause-met
returns-then-ends_session-clause-met c =
    ended c.args.tokens.now c.args.session c.end_session.result _ _ _ _ (sym c.ends_session.ensures ∙ c.if-ends_session.true) c.end_session.ensures.met

pub returns-clause-met : goal.returns-clause-met
returns-clause-met c =
    unended c.args.tokens.now c.args.session c.in_ok-outcome.outcome _ _ _ _ (sym c.ends_session.ensures ∙ c.if-ends_session.false) c.in_ok-outcome.ensures.met
