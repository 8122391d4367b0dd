-- One more sector is looked at.
use Rattle.std.proofs.Common.{sym, ◌∙◌, arith}
use Rattle.shadow_mbr.specs.Stored.{kept_sector}
use Rattle.shadow_mbr.proofs.Shrunk.{listed, skipped}
use Rattle.shadow_mbr.proofs.shrinking.list_filled.Goals as goal
use Rattle.shadow_mbr.proofs.shrinking.list_filled.Goals.{then-not-is_zeros+in_ok-push, else-not-is_zeros}

pub loop-sector-preserved : goal.loop-sector-preserved
loop-sector-preserved c = elim c.if-not-is_zeros.branch [
  | then-not-is_zeros+in_ok-push w ↦
      let pushed = w.in_ok-push.ensures.items in
      rw (w.filled-is, pushed) (listed (kept_sector c.args.kept.now) c.args.sectors.now c.loop-sector.filled.items c.loop-sector.sector-index (omega arith) c.loop-sector.invariant)
  | else-not-is_zeros w ↦
      rw w.filled-is (skipped (kept_sector c.args.kept.now) c.args.sectors.now c.loop-sector.filled.items c.loop-sector.sector-index (omega arith)
      (sym c.sector.ensures.value ∙ c.is_zeros.ensures w.if-not-is_zeros.false) c.loop-sector.invariant)
]
