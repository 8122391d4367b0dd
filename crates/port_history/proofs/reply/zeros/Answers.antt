use Rattle.std.proofs.Common.{◌≡◌, ℕ, take, replicate, ap, ◌∙◌, arith}
use Rattle.std.proofs.lemmas.List.{take-replicate}
use Rattle.port_history.proofs.reply.zeros.Goals as goal

pub returns : goal.returns
returns c =
    let e : c.from.result ≡ c.args.count = omega (arith, c.from.ensures) in
    ap (λ (n : ℕ). take n (replicate {A = ℕ} 65535 0)) e ∙ take-replicate {X = ℕ} c.args.count 65535 0 (omega arith)
