use Rattle.std.proofs.Common.{◌≡◌, ◌*◌, ◌∙◌, ap, sym, subst, refl, ℕ, ◌∷◌}
use Rattle.shadow_mbr.specs.Stored.{sector_size}
use Rattle.device_data.specs.Protocols.{certificate_data}
use Rattle.device_data.specs.ErrorLog.{sized}
use Rattle.trusted_cmds.specs.declared.command.Command.{Command}
use Rattle.trusted_cmds.specs.declared.command.Command.TheVariants.{Identify, ReadLog}
use Rattle.history.specs.Decisions.{asks_certificates}
use Rattle.history.specs.Tcg.{data_of, receive_data}
use Rattle.history.specs.Facts.{Facts, facts}
use Rattle.history.specs.History.{log}
use Rattle.drive.specs.Decision.{executed, is_for_stack}
use Rattle.drive.specs.State.{KeepsDrive}
use Rattle.drive.proofs.Keeping.{seen-is, nothing-keeps, mended-keeps, chosen-keeps, power_after-keeps}
use Rattle.trusted_cmds.specs.Commands.{is_protocol_list}
use Rattle.drive.proofs.Acting.{protocols-keeps, certificates-keeps, certificates-data, received-data}
use Rattle.drive.proofs.drive.Drive.execute.Goals as goal

pub returns-in_ok-received-in-Receive-clause-kept : goal.returns-in_ok-received-in-Receive-clause-kept
returns-in_ok-received-in-Receive-clause-kept c = λ o acts k.
    subst (λ (x : Command). KeepsDrive c.received.new.self o (executed (facts o (log o acts)) c.args.payload.now x ∷ log o acts)) (sym c.in-Receive.is)
    (c.in_ok-received-in-Receive.ensures.kept o (log o acts) c.in-Receive.blocks (ap (λ (n : ℕ). sector_size * n) c.from-room.ensures) k)

pub returns-in_ok-received-in-Receive-clause-data : goal.returns-in_ok-received-in-Receive-clause-data
returns-in_ok-received-in-Receive-clause-data c = λ o acts k.
    subst (λ (x : Command). c.in_ok-received-in-Receive.field-0.items ≡ data_of (facts o (log o acts)) x) (sym c.in-Receive.is)
    (c.in_ok-received-in-Receive.ensures.data o acts k ∙ ap (λ (n : ℕ). receive_data (facts o (log o acts)) c.in-Receive.sp_specific (sector_size * n)) c.from-room.ensures
    ∙ received-data c.args.self.now o (log o acts) c.in-Receive.protocol c.in-Receive.sp_specific c.in-Receive.blocks c.in-Receive.dma
    (ap is_protocol_list (sym c.in-Receive.is) ∙ sym c.is_protocol_list.ensures ∙ c.if-is_protocol_list.false)
    (ap (is_for_stack c.args.self.now.tper.store.config.profile) (sym c.in-Receive.is) ∙ c.requires.apart)
    (ap (asks_certificates c.args.self.now.tper.store.config.profile) (sym c.in-Receive.is) ∙ sym c.asks_certificates.ensures ∙ c.if-asks_certificates.false) k)

pub returns-in_ok-identify-in-Identify-clause-kept : goal.returns-in_ok-identify-in-Identify-clause-kept
returns-in_ok-identify-in-Identify-clause-kept c = λ o acts k.
    subst (λ (x : Command). KeepsDrive c.args.self.now o (executed (facts o (log o acts)) c.args.payload.now x ∷ log o acts)) (sym c.in-Identify.is)
    (nothing-keeps c.args.self.now o (log o acts) _ refl k)

pub returns-in_ok-identify-in-Identify-clause-data : goal.returns-in_ok-identify-in-Identify-clause-data
returns-in_ok-identify-in-Identify-clause-data c = λ o acts k.
    subst (λ (x : Command). c.in_ok-identify-in-Identify.field-0.items ≡ data_of (facts o (log o acts)) x) (sym c.in-Identify.is)
    (c.in_ok-identify-in-Identify.ensures ∙ ap (λ (f : Facts). data_of f Identify) (seen-is c.args.self.now o (log o acts) k))

pub returns-in_ok-read_log-in-ReadLog10-clause-kept : goal.returns-in_ok-read_log-in-ReadLog10-clause-kept
returns-in_ok-read_log-in-ReadLog10-clause-kept c = λ o acts k.
    subst (λ (x : Command). KeepsDrive c.read_log.new.self o (executed (facts o (log o acts)) c.args.payload.now x ∷ log o acts)) (sym c.in-ReadLog10.is)
    (mended-keeps c.args.self.now c.read_log.new.self o (log o acts) c.in_ok-read_log-in-ReadLog10.ensures.mended k)

pub returns-in-Flush-clause-kept : goal.returns-in-Flush-clause-kept
returns-in-Flush-clause-kept c = λ o acts k.
    subst (λ (x : Command). KeepsDrive c.args.self.now o (executed (facts o (log o acts)) c.args.payload.now x ∷ log o acts)) (sym c.in-Flush.is)
    (nothing-keeps c.args.self.now o (log o acts) _ refl k)

pub returns-in-Control-clause-kept : goal.returns-in-Control-clause-kept
returns-in-Control-clause-kept c = λ o acts k.
    subst (λ (x : Command). KeepsDrive c.set_power.new.self o (executed (facts o (log o acts)) c.args.payload.now x ∷ log o acts)) (sym c.in-Control.is)
    (power_after-keeps c.args.self.now c.set_power.new.self o (log o acts) c.in-Control.control c.set_power.ensures k)

pub returns-in-SetFeatures-clause-kept : goal.returns-in-SetFeatures-clause-kept
returns-in-SetFeatures-clause-kept c = λ o acts k.
    subst (λ (x : Command). KeepsDrive c.choose.new.self o (executed (facts o (log o acts)) c.args.payload.now x ∷ log o acts)) (sym c.in-SetFeatures.is)
    (chosen-keeps c.args.self.now c.choose.new.self o (log o acts) c.in-SetFeatures.feature c.choose.ensures k)

pub returns-in_ok-device_log-in-ReadLog-clause-kept : goal.returns-in_ok-device_log-in-ReadLog-clause-kept
returns-in_ok-device_log-in-ReadLog-clause-kept c = λ o acts k.
    subst (λ (x : Command). KeepsDrive c.args.self.now o (executed (facts o (log o acts)) c.args.payload.now x ∷ log o acts)) (sym c.in-ReadLog.is)
    (nothing-keeps c.args.self.now o (log o acts) _ refl k)

pub returns-in_ok-device_log-in-ReadLog-clause-data : goal.returns-in_ok-device_log-in-ReadLog-clause-data
returns-in_ok-device_log-in-ReadLog-clause-data c = λ o acts k.
    subst (λ (x : Command). c.in_ok-device_log-in-ReadLog.field-0.items ≡ data_of (facts o (log o acts)) x) (sym c.in-ReadLog.is)
    (c.in_ok-device_log-in-ReadLog.ensures ∙ ap (λ (f : Facts). data_of f (ReadLog c.in-ReadLog.pages c.in-ReadLog.dma)) (seen-is c.args.self.now o (log o acts) k))

pub returns-then-is_protocol_list-clause-kept : goal.returns-then-is_protocol_list-clause-kept
returns-then-is_protocol_list-clause-kept c = λ o acts k.
    protocols-keeps c.args.self.now o (log o acts) c.args.payload.now c.args.command.now
    (sym c.is_protocol_list.ensures ∙ c.if-is_protocol_list.true) k

pub returns-then-asks_certificates-clause-kept : goal.returns-then-asks_certificates-clause-kept
returns-then-asks_certificates-clause-kept c = λ o acts k.
    certificates-keeps c.args.self.now o (log o acts) c.args.payload.now c.args.command.now _
    (sym c.asks_certificates.ensures ∙ c.if-asks_certificates.true) k

pub returns-then-asks_certificates-clause-data : goal.returns-then-asks_certificates-clause-data
returns-then-asks_certificates-clause-data c = λ o acts k.
    subst (λ (x : Command). c.in_ok-certificates-in-Receive.field-0.items ≡ data_of (facts o (log o acts)) x) (sym c.in-Receive.is)
    (c.in_ok-certificates-in-Receive.ensures ∙ ap (λ (n : ℕ). sized (sector_size * n) certificate_data) c.from-room.ensures
    ∙ certificates-data c.args.self.now o (log o acts) c.in-Receive.protocol c.in-Receive.sp_specific c.in-Receive.blocks c.in-Receive.dma
    (ap is_protocol_list (sym c.in-Receive.is) ∙ sym c.is_protocol_list.ensures ∙ c.if-is_protocol_list.false)
    (ap (is_for_stack c.args.self.now.tper.store.config.profile) (sym c.in-Receive.is) ∙ c.requires.apart)
    (ap (asks_certificates c.args.self.now.tper.store.config.profile) (sym c.in-Receive.is) ∙ sym c.asks_certificates.ensures ∙ c.if-asks_certificates.true) k)
