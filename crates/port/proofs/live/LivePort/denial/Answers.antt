use Rattle.std.proofs.Common.{◌∙◌}
use Rattle.port.proofs.Living.{line_told}
use Rattle.port.proofs.live.LivePort.denial.Goals as goal

pub returns-clause-told : goal.returns-clause-told
returns-clause-told c = λ o list h. c.line_at.ensures ∙ line_told c.args.self.now o list c.args.place h
