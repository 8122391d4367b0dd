use Rattle.std.proofs.Common.{◌≡◌, true, sym}
use Rattle.port_history.specs.Replies.{are_zero}
use Rattle.port_history.proofs.Zeros.{are_zero-replicate}
use Rattle.port_history.proofs.reply.counted.Goals as goal

pub returns-then-are_zero : goal.returns-then-are_zero
returns-then-are_zero c =
    let h : are_zero c.args.bytes.now ≡ true = cc in
    sym (are_zero-replicate c.args.bytes.now h)
