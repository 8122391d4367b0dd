-- Each sector gets the bytes that it has elsewhere.
use Rattle.std.proofs.Common.{◌≡◌, ℕ, get_or, ap, ◌∙◌, arith, true}
use Rattle.std.specs.Prelude.{is_some}
use Rattle.shadow_mbr.specs.Stored.{block_in, kept_sector}
use Rattle.shadow_mbr.proofs.Shrunk.{copied, is_listed, sector_put, still_kept}
use Rattle.shadow_mbr.proofs.shrinking.copy_sectors.Goals as goal

pub put-requires : goal.put-requires
put-requires c =
    let n : ℕ = get_or c.args.sectors.now c.loop-sector.sector-index 0 in
    c.loop-sector.invariant.kept n ∙ c.requires n (is_listed c.args.sectors.now c.loop-sector.sector-index (omega arith))

pub loop-sector-preserved : goal.loop-sector-preserved
loop-sector-preserved c =
    let i : ℕ = c.loop-sector.sector-index in
    let n : ℕ = get_or c.args.sectors.now i 0 in
    let there : is_some (block_in c.loop-sector.to n) ≡ true = c.loop-sector.invariant.kept n ∙ c.requires n (is_listed c.args.sectors.now i (omega arith)) in
    let given = λ (s : ℕ). rw c.sector.ensures.value at (c.put.ensures s) in
    record {
      kept = λ s. still_kept (block_in c.loop-sector.to s) s n (kept_sector c.args.from.now n) (block_in c.put.new.self s) (block_in c.loop-sector.to n) there (λ same. ap (block_in c.loop-sector.to) same) (given s) ∙ c.loop-sector.invariant.kept s;
      sectors = copied (kept_sector c.args.from.now) (kept_sector c.args.to.now) (kept_sector c.loop-sector.to) c.args.sectors.now i (kept_sector c.put.new.self) (omega arith) (λ s. sector_put (block_in c.loop-sector.to s) (block_in c.put.new.self s) s n (kept_sector c.args.from.now n) (given s)) c.loop-sector.invariant.sectors;
    }
