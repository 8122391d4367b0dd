use Rattle.std.proofs.lemmas.Bool.{lt-ltb}
use Rattle.port_history.specs.declared.step.Step.TheVariants as steps
use Rattle.port.specs.Answers.{outcome_at}
use Rattle.port.specs.State.{IsTaken, taken_entry}
use Rattle.port.proofs.Agreeing.{take_agrees}
use Rattle.port.proofs.Living.{refused_call, answered_call, agrees_call, served_call}
use Rattle.port.proofs.live.LivePort.take.Goals as goal

pub returns-clause-agrees : goal.returns-clause-agrees
returns-clause-agrees c =
    agrees_call (λ p q. IsTaken p q c.args.client c.args.tag) c.args.self.now c.do_take.new.self (steps.Take c.args.client c.args.tag)
    (taken_entry c.args.client c.args.tag c.args.self.now.bare.memory (outcome_at c.args.self.now.bare.outcomes c.args.tag)) c.do_take.result
    (lt-ltb c.args.tag 32 c.do_take.ensures.slot) (λ o list h. c.do_take.ensures.refused) c.do_take.ensures.state
    (λ p q o list h lawful made. take_agrees p q o list c.args.client c.args.tag c.do_take.ensures.slot h lawful made)

pub returns-clause-answer : goal.returns-clause-answer
returns-clause-answer c = answered_call c.do_take.result c.args.self.now c.args.tag c.do_take.ensures.slot c.do_take.ensures.number

pub returns-clause-refused : goal.returns-clause-refused
returns-clause-refused c = λ o list h. refused_call c.args.self.now o list (steps.Take c.args.client c.args.tag) c.do_take.result (lt-ltb c.args.tag 32 c.do_take.ensures.slot) h c.do_take.ensures.refused

pub returns-clause-served : goal.returns-clause-served
returns-clause-served c =
    served_call c.do_take.result c.args.self.now c.args.tag
    (answered_call c.do_take.result c.args.self.now c.args.tag c.do_take.ensures.slot c.do_take.ensures.number)
