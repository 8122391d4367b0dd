use Rattle.std.proofs.Common.{◌≡◌, ◌≤◌, ◌+◌, ◌∙◌, subst, sym, ap, slice_index, Some}
use Rattle.fis.specs.H2d.{h2d_at}
use Rattle.fis.specs.Types.{h2d_type}
use Rattle.trusted_cmds.specs.Profiles.{payload_length_in}
use Rattle.history.specs.Events.{Event}
use Rattle.history.specs.Facts.{facts}
use Rattle.history.specs.History.{log}
use Rattle.history.proofs.Payloads.{payload-of-command}
use Rattle.drive.specs.Answers.{IsDoneAndAnswered}
use Rattle.drive.specs.Decision.{IsDue, decision_event}
use Rattle.drive.specs.Lending.{IsDoneAndGiven}
use Rattle.drive.specs.State.{DriveState}
use Rattle.drive.specs.declared.decision.Decision.{Decision}
use Rattle.drive.proofs.Acting.{event-is}
use Rattle.drive.proofs.Lent.{lent-done, lent-there, may-lend, never-lends, own-given}
use Rattle.drive.proofs.drive.Drive.carry.Goals as goal

pub act-requires-clause-payload : goal.act-requires-clause-payload
act-requires-clause-payload c =
    let kind : slice_index c.args.fis.now 0 ≡ h2d_type = c.requires.kind in
    c.requires.payload ∙ payload-of-command c.args.self.now.tper.store.config c.args.fis.now kind ∙ ap (payload_length_in c.args.self.now.tper.store.config.profile) (sym c.requires.read)

pub returns-clause-done : goal.returns-clause-done
returns-clause-done c =
    let kind : slice_index c.args.fis.now 0 ≡ h2d_type = c.requires.kind in
    let is : c.args.h.now ≡ h2d_at c.args.fis.now = c.requires.read in
    λ o acts k.
    let f = facts o (log o acts) in
    own-given f (h2d_at c.args.fis.now) _ c.act.new.self o (log o acts) c.act.new.answer
    (subst (λ (ev : Event). IsDoneAndAnswered f (h2d_at c.args.fis.now) ev c.act.new.self o (log o acts) c.act.new.answer)
    (event-is c.args.self.now o (log o acts) c.args.fis.now c.args.payload.now c.args.h.now c.args.decision kind is c.requires.event k)
    (subst (λ h. IsDoneAndAnswered f h (decision_event f c.args.payload.now c.args.decision) c.act.new.self o (log o acts) c.act.new.answer) is (c.in_ok-act.ensures.done o acts k)))

pub returns-in-Some-clause-done : goal.returns-in-Some-clause-done
returns-in-Some-clause-done c =
    let kind : slice_index c.args.fis.now 0 ≡ h2d_type = c.requires.kind in
    let is : c.args.h.now ≡ h2d_at c.args.fis.now = c.requires.read in
    let e = c.set_done.ensures in
    let moves = c.in-Some.ensures.0 in
    let due = subst (λ (x : Decision). IsDue c.args.self.now c.args.h.now x) moves c.requires.due in
    let lends = may-lend c.args.lends c.in-Some.held c.in-Some.way c.in-Some.run' c.in-Some.ensures.1 in
    λ o acts k.
    let f = facts o (log o acts) in
    subst (λ (ev : Event). IsDoneAndGiven f (h2d_at c.args.fis.now) ev c.wake.new.self o (log o acts) c.set_done.new.self (Some c.in-Some.run'))
    (event-is c.args.self.now o (log o acts) c.args.fis.now c.args.payload.now c.args.h.now c.args.decision kind is c.requires.event k)
    (subst (λ h. IsDoneAndGiven f h (decision_event f c.args.payload.now c.args.decision) c.wake.new.self o (log o acts) c.set_done.new.self (Some c.in-Some.run')) is
    (lent-done c.args.h.now c.args.self.now c.wake.new.self o (log o acts) c.args.payload.now c.in-Some.held c.in-Some.way c.args.decision c.in-Some.run' c.set_done.new.self
    moves due lends c.wake.ensures
    (record { status_is = e.status; error_is = e.error; held_is = e.held; fises_are = e.fises ∙ c.moved_form.ensures f.settings; bytes_are = e.bytes; denied_is = e.denied; rule_is = e.rule }) k))

pub returns-in-Some-clause-there : goal.returns-in-Some-clause-there
returns-in-Some-clause-there c =
    let due = subst (λ (x : Decision). IsDue c.args.self.now c.args.h.now x) c.in-Some.ensures.0 c.requires.due in
    let lends = may-lend c.args.lends c.in-Some.held c.in-Some.way c.in-Some.run' c.in-Some.ensures.1 in
    let there = lent-there c.args.self.now.tper.store.config.sectors c.args.self.now.tper.store.config.mbr_sectors c.in-Some.held c.in-Some.way c.in-Some.run' lends due.within in
    subst (λ (x : DriveState). c.in-Some.run'.lba + c.in-Some.run'.count ≤ x.tper.store.config.sectors) (sym c.wake.ensures) there

pub returns-in-Some-clause-kept : goal.returns-in-Some-clause-kept
returns-in-Some-clause-kept c = λ no.
    absurd (never-lends c.args.lends c.in-Some.held c.in-Some.way c.in-Some.run' c.in-Some.ensures.1 no)
