use Rattle.std.proofs.Common.{◌≡◌, ◌∙◌, sym, Some}
use Rattle.drive.specs.declared.transfer.Held.{Held}
use Rattle.drive.specs.Queue.{slot_at}
use Rattle.drive.proofs.Completions.{finished-some}
use Rattle.drive.proofs.drive.Drive.finish.Goals as goal

pub returns-in_ok-bytes-in-Some-clause-done : goal.returns-in_ok-bytes-in-Some-clause-done
returns-in_ok-bytes-in-Some-clause-done c =
    let old = c.args.self.now in
    let its : Held = c.in-Some.held in
    let m = c.in_ok-bytes-in-Some.ensures in
    let at : slot_at old.queue.slots c.args.tag ≡ Some its = sym c.held.ensures.value ∙ c.in-Some.is in
    finished-some (λ bytes. bytes) c.args.tag c.args.payload.now _ its old c.carry_out.new.self c.release.new.self _ at m.tper m.queue m.settings m.media c.release.ensures
    c.of.ensures.fises (λ f. c.of.ensures.bytes ∙ m.data f)
