use Rattle.std.proofs.Common.{arith, ◌≡◌, length, sym}
use Rattle.shadow_mbr.proofs.Blocks.{added_block, own_more, no_place, grown}
use Rattle.shadow_mbr.proofs.kept.Kept.add_all.Goals as goal

pub place_all-requires-clause-fresh : goal.place_all-requires-clause-fresh
place_all-requires-clause-fresh c = λ s listed. no_place c.self.inside.places c.self.inside.blocks.items s (rw c.self.view_is (c.requires s listed))

pub invariant_of-self-in_default : goal.invariant_of-self-in_default
invariant_of-self-in_default c =
    let old = c.self.inside.blocks.items in
    let grows = rw c.zeros.ensures at c.in_ok-resize.ensures.items in
    let size : c.len-count.result ≡ length old = omega (arith, c.len-count.ensures, c.self.inside.blocks.ok.0) in
    let adds = rw size at c.in_default.ensures.adds in
    rw (grown old c.resize.new.self.items c.len-count.result (length c.args.sectors.now) size (rw (sym c.len-count.ensures) at grows))
    (own_more c.self.inside.places c.place_all.new.places old c.args.sectors.now c.in_default.ensures.sorted c.self.invariant adds)

pub returns-clause-kept : goal.returns-clause-kept
returns-clause-kept c =
    let old = c.self.inside.blocks.items in
    let grows = rw c.zeros.ensures at c.in_ok-resize.ensures.items in
    let size : c.len-count.result ≡ length old = omega (arith, c.len-count.ensures, c.self.inside.blocks.ok.0) in
    let adds = rw size at c.in_default.ensures.adds in
    rw (sym c.self.view_is, grown old c.resize.new.self.items c.len-count.result (length c.args.sectors.now) size (rw (sym c.len-count.ensures) at grows))
    (λ s. added_block c.self.inside.places c.place_all.new.places old c.args.sectors.now s c.self.invariant adds)
