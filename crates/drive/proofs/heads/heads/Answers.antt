use Rattle.std.proofs.Common.{◌∙◌, ◌++◌, ℕ, List, append_assoc, append-nil, ap, sym, arith, length, ◌/◌}
use Rattle.drive.proofs.SectorHeads.{next_head, all_heads}
use Rattle.drive.proofs.heads.heads.Goals as goal

pub loop-sector-preserved : goal.loop-sector-preserved
loop-sector-preserved c =
    let bytes = c.args.bytes.now in
    let n : ℕ = length bytes / 512 in
    let i = c.loop-sector.sector in
    record {
      within = omega (arith, c.loop-sector-test.true);
      heads =
          rw c.in_ok-append_head.ensures (append_assoc c.loop-sector.heads.items _ _
          ∙ ap (λ (xs : List ℕ). c.loop-sector.heads.items ++ xs) (next_head n i bytes (omega (arith, c.loop-sector-test.true))) ∙ c.loop-sector.invariant.heads);
    }

pub returns : goal.returns
returns c =
    let bytes = c.args.bytes.now in
    let n : ℕ = length bytes / 512 in
    sym (append-nil c.loop-sector.heads.items) ∙ ap (λ (xs : List ℕ). c.loop-sector.heads.items ++ xs) (sym (all_heads n c.loop-sector.sector _ (omega (arith, c.loop-sector.invariant.within, c.loop-sector-test.false)))) ∙ c.loop-sector.invariant.heads
