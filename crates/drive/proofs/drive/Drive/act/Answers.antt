use Rattle.drive.proofs.Brought.{moved-size}
use Rattle.std.proofs.Common.{◌∙◌, ap, sym, subst, ℕ, true, [], ◌∷◌, List, OnOk}
use Rattle.shadow_mbr.specs.Stored.{sector_at}
use Rattle.device_data.specs.declared.settings.Settings.{Settings}
use Rattle.device_data.specs.Settings.{active}
use Rattle.trusted_cmds.specs.declared.block.SidBlock.{SidBlock}
use Rattle.history.specs.Events.{BlockedSid, did}
use Rattle.history.specs.Facts.{facts}
use Rattle.history.specs.Opening.{Origin}
use Rattle.history.specs.History.{Act, log}
use Rattle.history.specs.Answers.{answer_fis, errored, served_fises}
use Rattle.drive.specs.declared.decision.Decision.{Decision}
use Rattle.drive.specs.Decision.{IsDue, decision_event}
use Rattle.drive.specs.State.{DriveState, KeepsDrive, Agrees}
use Rattle.drive.specs.Answers.{IsDoneAndAnswered}
use Rattle.drive.proofs.Acting.{aborts-done, fails-done, holds-done, moves-done, executes-done, restarts-done, blocks-done, read-as}
use Rattle.drive.proofs.drive.Drive.act.Goals as goal

pub returns-in-Aborts-clause-done : goal.returns-in-Aborts-clause-done
returns-in-Aborts-clause-done c = λ o acts k.
    let e = c.set_failed.ensures in
    aborts-done (facts o (log o acts)) c.args.h.now c.args.self.now o (log o acts) c.args.payload.now c.in-Aborts.error c.in-Aborts.cause c.args.decision c.set_failed.new.self c.in-Aborts.is
    (record { status_is = e.status; error_is = e.error; held_is = e.held; fises_are = e.fises; bytes_are = e.bytes; denied_is = e.denied ∙ c.objection_to.ensures.denied; rule_is = e.rule ∙ c.objection_to.ensures.rule }) k

pub returns-in-FailsQueue-clause-done : goal.returns-in-FailsQueue-clause-done
returns-in-FailsQueue-clause-done c = λ o acts k.
    let e = c.set_failed-in-FailsQueue.ensures in
    fails-done (facts o (log o acts)) c.args.h.now c.args.self.now c.fail_queue.new.self o (log o acts) c.args.payload.now c.in-FailsQueue.failure c.in-FailsQueue.cause c.args.decision c.set_failed-in-FailsQueue.new.self c.in-FailsQueue.is c.fail_queue.ensures
    (record { status_is = e.status; error_is = e.error ∙ c.error_of.ensures; held_is = e.held; fises_are = e.fises ∙ ap (λ (x : ℕ). answer_fis true errored x ∷ []) c.error_of.ensures; bytes_are = e.bytes; denied_is = e.denied ∙ c.objection_to-in-FailsQueue.ensures.denied; rule_is = e.rule ∙ c.objection_to-in-FailsQueue.ensures.rule }) k

pub returns-in-Holds-clause-done : goal.returns-in-Holds-clause-done
returns-in-Holds-clause-done c = λ o acts k.
    let e = c.set_held.ensures in
    let due = subst (λ (x : Decision). IsDue c.args.self.now c.args.h.now x) c.in-Holds.is c.requires.due in
    holds-done (facts o (log o acts)) c.args.h.now c.args.self.now c.hold.new.self o (log o acts) c.args.payload.now c.in-Holds.tag c.in-Holds.held c.args.decision c.set_held.new.self due.slot c.in-Holds.is c.hold.ensures (read-as c.args.self.now o (log o acts) c.args.h.now _ k due.reads)
    (record { status_is = e.status; error_is = e.error; held_is = e.held; fises_are = e.fises; bytes_are = e.bytes; denied_is = e.denied; rule_is = e.rule }) k

pub returns-in_ok-bytes-in-Moves-clause-done : goal.returns-in_ok-bytes-in-Moves-clause-done
returns-in_ok-bytes-in-Moves-clause-done c = λ o acts k.
    let e = c.set_served.ensures in
    let m = c.in_ok-bytes-in-Moves.ensures in
    let w = c.wake.ensures in
    let due = subst (λ (x : Decision). IsDue c.args.self.now c.args.h.now x) c.in-Moves.is c.requires.due in
    moves-done c.args.h.now c.args.self.now c.wake.new.self o (log o acts) c.args.payload.now c.in-Moves.held c.in-Moves.way c.args.decision c.set_served.new.self c.in-Moves.is due
    (ap (λ (x : DriveState). x.tper) w ∙ m.tper) (ap (λ (x : DriveState). x.queue) w ∙ m.queue)
    (ap (λ (x : DriveState). x.settings) w ∙ ap active m.settings) (λ s. ap (λ (x : DriveState). sector_at x.media s) w ∙ m.media s)
    (record { status_is = e.status; error_is = e.error; held_is = e.held; fises_are = e.fises ∙ c.moved_form.ensures (facts o (log o acts)).settings; bytes_are = e.bytes ∙ m.data (facts o (log o acts)); denied_is = e.denied ∙ c.none.ensures.denied; rule_is = e.rule ∙ c.none.ensures.rule }) k

pub returns-in-Trims-clause-done : goal.returns-in-Trims-clause-done
returns-in-Trims-clause-done c =
    subst (λ (x : Decision). OnOk c.trim.result ((o : Origin) (acts : List Act) → Agrees c.args.self.now o acts
    → IsDoneAndAnswered (facts o (log o acts)) c.args.h.now (decision_event (facts o (log o acts)) c.args.payload.now x) c.trim.new.self o (log o acts) c.trim.new.answer))
    (sym c.in-Trims.is) c.trim.ensures.done

pub returns-in_ok-bytes-in-Executes-clause-done : goal.returns-in_ok-bytes-in-Executes-clause-done
returns-in_ok-bytes-in-Executes-clause-done c = λ o acts k.
    let e = c.set_served-in-Executes.ensures in
    let x = c.in_ok-bytes-in-Executes.ensures in
    let due = subst (λ (x : Decision). IsDue c.args.self.now c.args.h.now x) c.in-Executes.is c.requires.due in
    executes-done (facts o (log o acts)) c.args.h.now c.execute.new.self o (log o acts) c.args.payload.now c.in-Executes.command c.args.decision c.set_served-in-Executes.new.self c.in-Executes.is (read-as c.args.self.now o (log o acts) c.args.h.now _ k due.0, due.1)
    (record { status_is = e.status; error_is = e.error; held_is = e.held; fises_are = e.fises ∙ c.served_form.ensures ∙ ap (λ (x : Settings). served_fises x c.in-Executes.command) (c.chosen-settings.ensures ∙ k.settings); bytes_are = e.bytes ∙ x.data o acts k; denied_is = e.denied ∙ x.denied o acts k; rule_is = e.rule ∙ x.rule o acts k }) (x.kept o acts k)

pub returns-in-Restarts-clause-done : goal.returns-in-Restarts-clause-done
returns-in-Restarts-clause-done c = λ o acts k.
    let e = c.set_done.ensures in
    let due = subst (λ (x : Decision). IsDue c.args.self.now c.args.h.now x) c.in-Restarts.is c.requires.due in
    restarts-done (facts o (log o acts)) c.args.h.now c.restart.new.self o (log o acts) c.args.payload.now c.in-Restarts.command c.args.decision c.set_done.new.self c.in-Restarts.is (read-as c.args.self.now o (log o acts) c.args.h.now _ k due.0, due.1)
    (record { status_is = e.status; error_is = e.error; held_is = e.held; fises_are = e.fises ∙ c.served_form-in-Restarts.ensures ∙ ap (λ (x : Settings). served_fises x c.in-Restarts.command) (c.chosen-settings.ensures ∙ k.settings); bytes_are = e.bytes; denied_is = e.denied; rule_is = e.rule }) (c.restart.ensures o (log o acts) k)

pub returns-in-Blocks-clause-done : goal.returns-in-Blocks-clause-done
returns-in-Blocks-clause-done c = λ o acts k.
    let e = c.set_done-in-Blocks.ensures in
    let due = subst (λ (x : Decision). IsDue c.args.self.now c.args.h.now x) c.in-Blocks.is c.requires.due in
    let kept = subst (λ (b : SidBlock). KeepsDrive c.block_sid.new.self o (did (BlockedSid b) ∷ log o acts)) c.asked.ensures (c.block_sid.ensures o (log o acts) k) in
    blocks-done (facts o (log o acts)) c.args.h.now c.block_sid.new.self o (log o acts) c.args.payload.now c.args.self.now.tper.store.config.profile c.in-Blocks.command c.args.decision c.set_done-in-Blocks.new.self c.in-Blocks.is (read-as c.args.self.now o (log o acts) c.args.h.now _ k due.0, due.1)
    (record { status_is = e.status; error_is = e.error; held_is = e.held; fises_are = e.fises ∙ c.served_form-in-Blocks.ensures ∙ ap (λ (x : Settings). served_fises x c.in-Blocks.command) (c.chosen-settings.ensures ∙ k.settings); bytes_are = e.bytes; denied_is = e.denied; rule_is = e.rule }) kept

pub returns-in-AsksStack-clause-done : goal.returns-in-AsksStack-clause-done
returns-in-AsksStack-clause-done c =
    subst (λ (x : Decision). OnOk c.ask_stack.result ((o : Origin) (acts : List Act) → Agrees c.args.self.now o acts
    → IsDoneAndAnswered (facts o (log o acts)) c.args.h.now (decision_event (facts o (log o acts)) c.args.payload.now x) c.ask_stack.new.self o (log o acts) c.ask_stack.new.answer))
    (sym c.in-AsksStack.is) c.ask_stack.ensures.done

pub move_so-requires-clause-length : goal.move_so-requires-clause-length
move_so-requires-clause-length c =
    let due = subst (λ (x : Decision). IsDue c.args.self.now c.args.h.now x) c.in-Moves.is c.requires.due in
    c.requires.payload ∙ moved-size c.args.self.now.tper.store.config.profile c.args.h.now c.in-Moves.way c.in-Moves.held.transfer due.goes due.reads

pub move_so-requires-clause-goes : goal.move_so-requires-clause-goes
move_so-requires-clause-goes c =
    let due = subst (λ (x : Decision). IsDue c.args.self.now c.args.h.now x) c.in-Moves.is c.requires.due in
    due.goes
