-- Each piece is written into the block of its sector.
use Rattle.std.proofs.Common.{◌≡◌, ℕ, ◌+◌, ◌-◌, ◌/◌, ◌≤◌, ◌∙◌, arith, List, length, take, drop, ap, refl}
use Rattle.std.proofs.lemmas.List.{length-take-le, length-drop}
use Rattle.shadow_mbr.specs.Stored.{kept_byte, byte_after}
use Rattle.shadow_mbr.specs.Places.{place_at, blocks_of}
use Rattle.shadow_mbr.proofs.Writes.{write_more}
use Rattle.shadow_mbr.proofs.Runs.{piece_written}
use Rattle.shadow_mbr.proofs.kept.write_blocks.Goals as goal

pub loop-done-preserved : goal.loop-done-preserved
loop-done-preserved c =
    let at = c.args.at in
    let bytes = c.args.bytes.now in
    let done = c.loop-done.done in
    let len = c.piece_len-len.result in
    let within : done + len ≤ length bytes = omega (arith, c.piece_len-len.ensures.within) in
    let size : done + len - done ≡ len = omega arith in
    let sector = (at + done) / 512 in
    let piece = take (done + len - done) (drop done bytes) in
    let whole : length piece ≡ len = rw size (length-take-le len (drop done bytes) (omega (arith, length-drop done bytes))) in
    let same : c.loop-done.finder ≡ c.args.finder.now = c.loop-done.invariant.finder in
    let found : c.at-block.result ≡ place_at c.args.finder.now sector = c.at-block.ensures.value ∙ ap (λ (ps : List (ℕ × ℕ)). place_at ps sector) same in
    let it =
    piece_written c.args.finder.now c.args.blocks.now.items c.loop-done.blocks.items c.write_piece.new.blocks.items c.at-block.result (at + done) piece
    c.loop-done.invariant.own found (c.requires.kept (at + done) (omega arith) (omega arith)) (omega (arith, whole, c.piece_len-len.ensures.fits)) c.write_piece.ensures in
    record {
      within = within;
      finder = c.at-block.ensures.same ∙ c.loop-done.invariant.finder;
      own = it.0;
      bytes = λ p.
          it.1 p
          ∙ ap (λ before. byte_after (at + done) piece before p) (c.loop-done.invariant.bytes p)
          ∙ write_more at done len bytes piece (kept_byte (blocks_of c.args.finder.now c.args.blocks.now.items) p) p within (rw size refl) whole;
    }
