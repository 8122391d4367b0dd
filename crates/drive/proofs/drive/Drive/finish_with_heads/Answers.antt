use Rattle.std.proofs.Common.{◌≡◌, ◌∙◌, ℕ, sym, ap, Some}
use Rattle.std.proofs.Common.{replicate}
use Rattle.shadow_mbr.specs.Stored.{heads, sector_at}
use Rattle.history.specs.Answers.{expected}
use Rattle.drive.specs.Transfer.{sector_then}
use Rattle.drive.specs.Queue.{held_at}
use Rattle.drive.specs.declared.transfer.Held.{Held}
use Rattle.drive.specs.Queue.{slot_at}
use Rattle.drive.proofs.Completions.{brought-by, finished-some}
use Rattle.drive.proofs.drive.Drive.finish_with_heads.Goals as goal

pub returns-in_ok-bytes-in-Some-clause-done : goal.returns-in_ok-bytes-in-Some-clause-done
returns-in_ok-bytes-in-Some-clause-done c =
    let old = c.args.self.now in
    let its : Held = c.in-Some.held in
    let m = c.in_ok-bytes-in-Some.ensures in
    let at : slot_at old.queue.slots c.args.tag ≡ Some its = sym c.held.ensures.value ∙ c.in-Some.is in
    finished-some heads c.args.tag (replicate (expected (held_at old.queue c.args.tag)) c.args.byte) _ its old c.carry_out_with_heads.new.self c.release.new.self _ at m.tper m.queue m.settings (λ s. m.media s ∙ ap (λ (n : ℕ). sector_then its.transfer (replicate n c.args.byte) (sector_at old.media s) s) (brought-by old.queue c.args.tag its at)) c.release.ensures
    c.of.ensures.fises (λ f. c.of.ensures.bytes ∙ m.data f)
