use Rattle.headline.proofs.AuditLaws.{audit_law}
use Rattle.headline.proofs.law_of_denials.Goals as goal

pub returns : goal.returns
returns c = record { audited = audit_law }
