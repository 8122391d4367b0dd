use Rattle.std.proofs.Common.{◌≡◌, rules}
use Rattle.std.specs.Prelude.{Ok}
use Rattle.tcg_tokens.specs.Message.{begin, end, end_session}
use Rattle.tcg_tokens.specs.Reading.{reading}
use Rattle.tper.proofs.Items.{read-in}
use Rattle.tper.proofs.item.read_in_session.Goals as goal

pub returns-in-Ok-Begin-clause-met : goal.returns-in-Ok-Begin-clause-met
returns-in-Ok-Begin-clause-met c =
    let is : reading c.args.tokens.now ≡ Ok (begin c.in-Ok-Begin.field-0-0) = search rules in
    read-in _ (Ok (begin c.in-Ok-Begin.field-0-0)) c.args.session c.begin.result _ _ _ _ is (c.begin.ensures.met c.args.sessions.now)

pub returns-in-Ok-End-clause-met : goal.returns-in-Ok-End-clause-met
returns-in-Ok-End-clause-met c =
    let is : reading c.args.tokens.now ≡ Ok (end c.in-Ok-End.number) = search rules in
    read-in _ (Ok (end c.in-Ok-End.number)) c.args.session c.end.result _ _ _ _ is (c.end.ensures.met c.args.sessions.now)

pub returns-in-Ok-EndSession-clause-met : goal.returns-in-Ok-EndSession-clause-met
returns-in-Ok-EndSession-clause-met c =
    let is : reading c.args.tokens.now ≡ Ok end_session = search rules in
    read-in _ (Ok end_session) c.args.session c.end_session.result _ _ _ _ is c.end_session.ensures.met
