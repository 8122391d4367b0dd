use Rattle.std.proofs.Common.{◌≡◌, subst, refl, slice_index}
use Rattle.fis.specs.H2d.{h2d_at}
use Rattle.fis.specs.Types.{h2d_type}
use Rattle.history.specs.Events.{Event}
use Rattle.history.specs.Facts.{facts}
use Rattle.history.specs.History.{log}
use Rattle.drive.specs.Answers.{IsDoneAndAnswered}
use Rattle.drive.specs.Decision.{decision_event}
use Rattle.drive.specs.declared.decision.Decision.{Decision}
use Rattle.drive.specs.declared.decision.Decision.TheVariants.{Holds}
use Rattle.drive.proofs.Acting.{event-is, holds-done, read-as}
use Rattle.drive.proofs.drive.Drive.hold_so.Goals as goal

pub returns : goal.returns
returns c =
    let kind : slice_index c.args.fis.now 0 ≡ h2d_type = c.requires.kind in
    let is : c.args.h.now ≡ h2d_at c.args.fis.now = c.requires.read in
    let made : Decision = Holds c.args.tag c.args.held in
    let due = c.requires.due in
    let e = c.set_held.ensures in
    λ o acts k.
    let f = facts o (log o acts) in
    let done = holds-done f c.args.h.now c.args.self.now c.hold.new.self o (log o acts) c.args.payload.now c.args.tag c.args.held made c.set_held.new.self due.slot refl c.hold.ensures (read-as c.args.self.now o (log o acts) c.args.h.now _ k due.reads)
    (record { status_is = e.status; error_is = e.error; held_is = e.held; fises_are = e.fises; bytes_are = e.bytes; denied_is = e.denied; rule_is = e.rule }) k in
    subst (λ (ev : Event). IsDoneAndAnswered f (h2d_at c.args.fis.now) ev c.hold.new.self o (log o acts) c.set_held.new.self)
    (event-is c.args.self.now o (log o acts) c.args.fis.now c.args.payload.now c.args.h.now made kind is c.requires.event k)
    (subst (λ h. IsDoneAndAnswered f h (decision_event f c.args.payload.now made) c.hold.new.self o (log o acts) c.set_held.new.self) is done)
