use Rattle.std.proofs.Common.{◌≡◌, ℕ, ◌+◌, ◌*◌, ◌&&◌, Bool, true, false, List, drop, slice_range, sym, ap, ◌∙◌, arith, rules}
use Rattle.port_history.specs.Replies.{are_zero}
use Rattle.port_history.proofs.Zeros.{are_zero_block}
use Rattle.port_history.proofs.reply.are_zero.Goals as goal

pub returns-then-not-are_zero_at_once : goal.returns-then-not-are_zero_at_once
returns-then-not-are_zero_at_once c =
    let bytes : List ℕ = c.args.bytes.now in
    let at : ℕ = 512 * c.loop-i.i in
    let here : are_zero (slice_range bytes at (at + 512)) ≡ false = search rules in
    let behind : Bool = are_zero (drop (at + 512) bytes) in
    sym (sym c.loop-i.invariant ∙ are_zero_block bytes at (at + 512) (omega arith) ∙ ap (λ (b : Bool). b && behind) here)

pub loop-i-preserved : goal.loop-i-preserved
loop-i-preserved c =
    let bytes : List ℕ = c.args.bytes.now in
    let at : ℕ = 512 * c.loop-i.i in
    let here : are_zero (slice_range bytes at (at + 512)) ≡ true = search rules in
    let behind : Bool = are_zero (drop (at + 512) bytes) in
    let next : 512 * (c.loop-i.i + 1) ≡ at + 512 = omega arith in
    ap (λ (n : ℕ). are_zero (drop n bytes)) next
    ∙ sym (are_zero_block bytes at (at + 512) (omega arith) ∙ ap (λ (b : Bool). b && behind) here) ∙ c.loop-i.invariant
