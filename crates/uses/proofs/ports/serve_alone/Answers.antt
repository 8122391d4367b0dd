use Rattle.uses.proofs.ports.serve_alone.Goals as goal

pub returns-clause-agrees : goal.returns-clause-agrees
returns-clause-agrees c = λ o list k.
    c.in_ok-answer.ensures.agrees o _
    (c.in_ok-accept.ensures.agrees o _ (c.in_ok-issue.ensures.agrees o _ (c.in_ok-put.ensures.agrees o list k)))

pub returns-clause-served : goal.returns-clause-served
returns-clause-served c = λ o list k.
    c.in_ok-answer.ensures.served o _
    (c.in_ok-accept.ensures.agrees o _ (c.in_ok-issue.ensures.agrees o _ (c.in_ok-put.ensures.agrees o list k)))
