use Rattle.port_history.proofs.Acted.{tcg_for_ports}
use Rattle.history.specs.Tcg.{tcg}
use Rattle.history.proofs.Elsewhere.{tcg_views}
use Rattle.headline.proofs.AuditLaws.{audit_law}
use Rattle.headline.proofs.MethodLaws.{method_law}
use Rattle.headline.proofs.NoTraceLaws.{open_law_of_steps, abort_law_of_steps}
use Rattle.headline.proofs.TransferLaws.{transfer_law}
use Rattle.port.proofs.live.LivePort.headline.Goals as goal

pub returns-clause-transfers : goal.returns-clause-transfers
returns-clause-transfers c = λ o list h. transfer_law tcg tcg_for_ports o list h.stands.lawful

pub returns-clause-methods : goal.returns-clause-methods
returns-clause-methods c = λ o list h. method_law o list h.stands.lawful

pub returns-clause-hidden : goal.returns-clause-hidden
returns-clause-hidden c = λ o list h. open_law_of_steps tcg tcg_views o list h.stands.lawful

pub returns-clause-forgotten : goal.returns-clause-forgotten
returns-clause-forgotten c = λ o list h. abort_law_of_steps tcg o list h.stands.lawful

pub returns-clause-audited : goal.returns-clause-audited
returns-clause-audited c = λ o list h. audit_law o list h.stands.lawful
