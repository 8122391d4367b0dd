-- There is an act.
use Rattle.hba.proofs.hba.count_if.Goals as goal

pub returns-then-acts : goal.returns-then-acts
returns-then-acts c = λ list act e. rw c.if-acts.true (c.one_more.ensures list act e)
