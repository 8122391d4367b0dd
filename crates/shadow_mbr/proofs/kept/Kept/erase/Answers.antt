use Rattle.std.proofs.Common.{sym}
use Rattle.shadow_mbr.specs.Erasure.{is_erased}
use Rattle.shadow_mbr.proofs.Blocks.{whole_block}
use Rattle.shadow_mbr.proofs.Cleared.{own_erased, sector_erased}
use Rattle.shadow_mbr.proofs.kept.Kept.erase.Goals as goal

pub invariant_of-self : goal.invariant_of-self
invariant_of-self c = rw c.erase.ensures (own_erased (is_erased c.args.erasure.now) c.self.inside.places c.self.inside.blocks.items c.self.invariant)

pub returns-clause-sectors : goal.returns-clause-sectors
returns-clause-sectors c =
    rw (sym c.self.view_is, c.erase.ensures)
    (λ s. sector_erased (is_erased c.args.erasure.now) c.self.inside.places c.self.inside.blocks.items s c.self.invariant)

pub returns-clause-whole : goal.returns-clause-whole
returns-clause-whole c =
    let own = own_erased (is_erased c.args.erasure.now) c.self.inside.places c.self.inside.blocks.items c.self.invariant in
    rw c.erase.ensures (λ s. whole_block c.self.inside.places _ s own)
