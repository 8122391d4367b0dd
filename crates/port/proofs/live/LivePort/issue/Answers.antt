use Rattle.std.proofs.lemmas.Bool.{lt-ltb}
use Rattle.port_history.specs.declared.step.Step.TheVariants as steps
use Rattle.port.specs.State.{IsIssued, entry_of}
use Rattle.port.proofs.Agreeing.{issue_agrees}
use Rattle.port.proofs.Living.{refused_call, numbered, agrees_call}
use Rattle.port.proofs.live.LivePort.issue.Goals as goal

pub returns-clause-agrees : goal.returns-clause-agrees
returns-clause-agrees c =
    agrees_call (λ p q. IsIssued p q c.args.tag) c.args.self.now c.do_issue.new.self (steps.Issue c.args.tag) (entry_of (steps.Issue c.args.tag)) c.do_issue.result
    (lt-ltb c.args.tag 32 c.do_issue.ensures.slot) (λ o list h. c.do_issue.ensures.refused) c.do_issue.ensures.state
    (λ p q o list h lawful made. issue_agrees p q o list c.args.tag c.do_issue.ensures.slot h lawful made)

pub returns-clause-number : goal.returns-clause-number
returns-clause-number c = numbered c.do_issue.result c.args.self.now c.do_issue.ensures.number

pub returns-clause-refused : goal.returns-clause-refused
returns-clause-refused c = λ o list h. refused_call c.args.self.now o list (steps.Issue c.args.tag) c.do_issue.result (lt-ltb c.args.tag 32 c.do_issue.ensures.slot) h c.do_issue.ensures.refused
