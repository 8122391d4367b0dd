use Rattle.std.proofs.Common.{◌∙◌}
use Rattle.port.proofs.Agreeing.{same_refusal}
use Rattle.port.proofs.port.Port.refuses.Goals as goal

pub returns-then-has_slot : goal.returns-then-has_slot
returns-then-has_slot c = λ o list h. c.refuses_so.ensures ∙ same_refusal c.args.self.now o list c.args.step.now h c.has_slot.ensures.slot
