use Rattle.std.proofs.Common.{◌≡◌, ◌*◌, ◌∙◌, ap, sym, subst, ℕ, ◌∷◌}
use Rattle.shadow_mbr.specs.Stored.{sector_size}
use Rattle.device_data.specs.ErrorLog.{sized}
use Rattle.device_data.specs.StackReset.{stack_answer}
use Rattle.sessions.specs.Beside.{channel_of}
use Rattle.trusted_cmds.specs.declared.command.Command.{Command}
use Rattle.history.specs.Tcg.{data_of}
use Rattle.history.specs.Facts.{facts}
use Rattle.history.specs.History.{log}
use Rattle.drive.specs.Decision.{is_for_stack, asked_of_stack}
use Rattle.drive.specs.State.{KeepsDrive}
use Rattle.drive.proofs.Acting.{stack-com_id, stack-data}
use Rattle.drive.proofs.drive.Drive.asked_of_stack.Goals as goal

pub returns-in-Send-clause-kept : goal.returns-in-Send-clause-kept
returns-in-Send-clause-kept c = λ o acts k.
    subst (λ (x : Command). KeepsDrive c.send_to_stack-objection.new.self o (asked_of_stack (facts o (log o acts)) c.args.payload.now x ∷ log o acts)) (sym c.in-Send.is)
    (c.send_to_stack-objection.ensures.kept o (log o acts) k)

pub returns-in-Send-clause-denied : goal.returns-in-Send-clause-denied
returns-in-Send-clause-denied c = λ f.
    c.send_to_stack-objection.ensures.denied f ∙ ap (λ (x : Command). (asked_of_stack f c.args.payload.now x).denied) (sym c.in-Send.is)

pub returns-in-Send-clause-rule : goal.returns-in-Send-clause-rule
returns-in-Send-clause-rule c = λ f.
    c.send_to_stack-objection.ensures.rule f ∙ ap (λ (x : Command). (asked_of_stack f c.args.payload.now x).rule) (sym c.in-Send.is)

pub returns-in_ok-bytes-in-Receive-clause-kept : goal.returns-in_ok-bytes-in-Receive-clause-kept
returns-in_ok-bytes-in-Receive-clause-kept c = λ o acts k.
    subst (λ (x : Command). KeepsDrive c.receive_of_stack.new.self o (asked_of_stack (facts o (log o acts)) c.args.payload.now x ∷ log o acts)) (sym c.in-Receive.is)
    (c.in_ok-bytes-in-Receive.ensures.kept o (log o acts) k)

pub returns-in_ok-bytes-in-Receive-clause-data : goal.returns-in_ok-bytes-in-Receive-clause-data
returns-in_ok-bytes-in-Receive-clause-data c = λ o acts k.
    subst (λ (x : Command). c.in_ok-bytes-in-Receive.bytes.items ≡ data_of (facts o (log o acts)) x) (sym c.in-Receive.is)
    (c.in_ok-bytes-in-Receive.ensures.data
    ∙ ap (λ (n : ℕ). sized (sector_size * n) (stack_answer c.in-Receive.sp_specific (channel_of c.args.self.now.tper.live.beside c.in-Receive.sp_specific).was_reset)) c.from-room.ensures
    ∙ stack-data c.args.self.now o (log o acts) c.in-Receive.protocol c.in-Receive.sp_specific c.in-Receive.blocks c.in-Receive.dma
    (ap (is_for_stack c.args.self.now.tper.store.config.profile) (sym c.in-Receive.is) ∙ c.requires) k)

pub send_to_stack-objection-requires : goal.send_to_stack-objection-requires
send_to_stack-objection-requires c =
    stack-com_id c.args.self.now.tper.store.config.profile c.in-Send.protocol c.in-Send.sp_specific c.in-Send.blocks
    (ap (is_for_stack c.args.self.now.tper.store.config.profile) (sym c.in-Send.is) ∙ c.requires)

pub receive_of_stack-requires : goal.receive_of_stack-requires
receive_of_stack-requires c =
    stack-com_id c.args.self.now.tper.store.config.profile c.in-Receive.protocol c.in-Receive.sp_specific c.in-Receive.blocks
    (ap (is_for_stack c.args.self.now.tper.store.config.profile) (sym c.in-Receive.is) ∙ c.requires)
