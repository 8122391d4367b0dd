use Rattle.std.proofs.Common.{◌∙◌}
use Rattle.history.specs.History.{log}
use Rattle.drive.proofs.Acting.{discovery-keeps, discovery-data}
use Rattle.drive.proofs.drive.Drive.received.Goals as goal

pub returns-then-com_id-eq-DISCOVERY_COM_ID-clause-kept : goal.returns-then-com_id-eq-DISCOVERY_COM_ID-clause-kept
returns-then-com_id-eq-DISCOVERY_COM_ID-clause-kept c = λ o past blocks size k.
    discovery-keeps c.args.self.now o past c.args.com_id blocks c.if-com_id-eq-DISCOVERY_COM_ID.true k

pub returns-then-com_id-eq-DISCOVERY_COM_ID-clause-data : goal.returns-then-com_id-eq-DISCOVERY_COM_ID-clause-data
returns-then-com_id-eq-DISCOVERY_COM_ID-clause-data c = λ o acts k.
    c.in_ok-bytes.ensures ∙ discovery-data c.args.self.now o (log o acts) c.args.com_id c.args.room c.if-com_id-eq-DISCOVERY_COM_ID.true k
