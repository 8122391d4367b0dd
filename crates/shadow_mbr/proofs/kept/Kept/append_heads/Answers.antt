use Rattle.std.proofs.Common.{◌≡◌, ◌++◌, ℕ, List, ap, refl, sym, ◌∙◌, append_assoc, take}
use Rattle.std.specs.Prelude.{unwrap_or, option_map}
use Rattle.std.proofs.lemmas.List.{append-nil}
use Rattle.shadow_mbr.specs.Stored.{block_in, zeros}
use Rattle.shadow_mbr.specs.Places.{place_at, block_at}
use Rattle.shadow_mbr.proofs.Blocks.{its_block}
use Rattle.shadow_mbr.proofs.Walks.{no_sector, next_sector}
use Rattle.shadow_mbr.proofs.kept.Kept.append_heads.Goals as goal

pub loop-sector-init : goal.loop-sector-init
loop-sector-init c =
    let holds : ℕ → List ℕ = λ s. take 4 (unwrap_or (block_in c.args.self.now s) zeros) in
    record {
      finder = refl;
      bytes = sym (ap (λ (xs : List ℕ). c.args.bytes.now.items ++ xs) (no_sector holds c.args.first) ∙ append-nil c.args.bytes.now.items);
    }

pub loop-sector-preserved : goal.loop-sector-preserved
loop-sector-preserved c =
    let holds : ℕ → List ℕ = λ s. take 4 (unwrap_or (block_in c.args.self.now s) zeros) in
    let n = c.loop-sector.sector in
    let place : c.at.result ≡ place_at c.self.inside.places n = c.at.ensures.value ∙ ap (λ (ps : List (ℕ × ℕ)). place_at ps n) (c.loop-sector.invariant.finder ∙ c.finder-finder.ensures) in
    let block : take 4 (unwrap_or (option_map (block_at c.deref.result.now) c.at.result) zeros) ≡ holds n = rw (sym c.self.view_is) (ap (λ (bs : List (List ℕ)). take 4 (unwrap_or (option_map (block_at bs) c.at.result) zeros)) c.deref.ensures.value ∙ ap (take 4) (its_block c.self.inside.places c.self.inside.blocks.items n c.at.result place)) in
    let added = c.in_ok-append_head.ensures in
    record {
      finder = c.at.ensures.same ∙ c.loop-sector.invariant.finder;
      bytes = rw (added, c.loop-sector.invariant.bytes, block)
          (append_assoc c.args.bytes.now.items _ (holds n) ∙ ap (λ (xs : List ℕ). c.args.bytes.now.items ++ xs) (next_sector holds c.args.first n c.loop-sector.auto.sector));
    }
