-- The least bit is the one that ends the zeros.
use Rattle.std.proofs.Common.{◌≡◌, ℕ, arith, sym, subst}
use Rattle.std.specs.Int.{w32, trailing_zeros}
use Rattle.hba.specs.Ready.{IsLeast}
use Rattle.hba.proofs.Tags.{least_of}
use Rattle.hba.proofs.work.least_tag.Goals as goal

pub returns : goal.returns
returns c =
    let h = least_of c.args.tags (omega arith) (omega arith) in
    let below = h.0 in
    let same : c.low_bits.result ≡ trailing_zeros w32 c.args.tags = omega arith in
    subst (λ (t : ℕ). IsLeast c.args.tags t) (sym same) h.1
