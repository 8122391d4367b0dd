use Rattle.std.proofs.Common.{rules, ◌≡◌, ◌↔◌, IsTrue}
use Rattle.port_history.specs.contracts.request.AnswerPartialEq.TheImpl as answers
use Rattle.port_history.specs.contracts.step.StepPartialEq.TheImpl as steps
use Rattle.port_history.proofs.laws.laws_of_equality.Goals as goal

pub returns-clause-entries : goal.returns-clause-entries
returns-clause-entries c x y =
    let its_step : IsTrue ((steps.ghosts).eq x.step y.step) ↔ (x.step ≡ y.step) = search rules in
    let its_reply : IsTrue ((answers.ghosts).eq x.reply y.reply) ↔ (x.reply ≡ y.reply) = search rules in
    search (its_step, its_reply, rules)
