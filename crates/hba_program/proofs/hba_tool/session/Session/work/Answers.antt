-- A work that was done, and what is told of its operation.
use Rattle.std.proofs.Common.{◌∙◌}
use Rattle.hba_program.specs.Steps.{stand}
use Rattle.hba_program.proofs.hba_tool.Steps.{works_of}
use Rattle.hba_program.proofs.hba_tool.session.Session.work.Goals as goal

pub returns-clause-works : goal.returns-clause-works
returns-clause-works g c =
    works_of g.R.Read.remaining g.W.Write.contents c.args.number c.args.choice c.in_ok-told.told c.in-Some.turned
    (stand c.args.self.now c.args.wire.now) (stand c.told.new.self c.turn_heard.new.memory) c.turn_heard.new.self
    (rw c.in-Some.is at c.in_ok-turned.ensures.picked)
    (rw c.in-Some.is at c.in_ok-turned.ensures.done)
    c.in_ok-told.ensures.hba
    c.in_ok-told.ensures.reply
    c.in_ok-told.ensures.kept
    (λ old operation is works hears. c.in_ok-told.ensures.explains old operation (c.acts-acts.ensures.stands ∙ is) works hears)
    c.in_ok-stands.ensures
