use Rattle.std.proofs.Common.{rules, ◌≡◌, ◌↔◌, ℕ, List, [], true, refl, ap, ap₂}
use Rattle.port_history.specs.declared.request.Request.TheVariants.{Read, Write}
use Rattle.port_threads.specs.Rounds.{filled}
use Rattle.port_threads.proofs.Told.{tells_as, round_told}
use Rattle.port_threads.proofs.log.Log.round.Goals as goal

pub returns-clause-steps : goal.returns-clause-steps
returns-clause-steps g c =
    let client = c.args.pass.now.client in
    let lba : c.from-lba.result ≡ c.args.pass.now.client = search rules in
    let asked : Write c.from-lba.result c.in_ok-bytes.bytes ≡ Write c.args.pass.now.client (filled c.args.byte) = ap₂ (λ (l : ℕ) (b : List ℕ). Write l b) lba c.in_ok-bytes.ensures in
    let reads : Read c.from-lba.result 1 ≡ Read c.args.pass.now.client 1 = ap (λ (l : ℕ). Read l 1) lba in
    let same : c.transfer.new.pass.client ≡ c.args.pass.now.client = search rules in
    let sector : c.as_slice.result.now ≡ filled c.args.byte = search rules in
    let w = tells_as client client (Write c.from-lba.result c.in_ok-bytes.bytes) (Write client (filled c.args.byte)) [] [] c.args.self.now.receipts.items c.transfer.new.self.receipts.items c.in_ok-is_written.is_written c.in_ok-is_written.ensures.steps refl asked refl in
    let r = tells_as c.transfer.new.pass.client client (Read c.from-lba.result 1) (Read client 1) c.as_slice.result.now (filled c.args.byte) c.transfer.new.self.receipts.items c.transfer-2.new.self.receipts.items c.in_ok-is_read.is_read c.in_ok-is_read.ensures.steps same reads sector in
    let both : (c.if-is_written.result ≡ true) ↔ ((c.in_ok-is_written.is_written ≡ true) × (c.in_ok-is_read.is_read ≡ true)) = search rules in
    round_told client c.args.byte c.args.self.now.receipts.items c.transfer.new.self.receipts.items c.transfer-2.new.self.receipts.items c.in_ok-is_written.is_written c.in_ok-is_read.is_read c.if-is_written.result w r both
