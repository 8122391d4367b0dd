-- What is listed is copied, and what is not listed is zeros.
use Rattle.shadow_mbr.proofs.Shrunk.{shrunk}
use Rattle.shadow_mbr.proofs.shrinking.without_zeros.Goals as goal

pub returns : goal.returns
returns c =
    let zero = rw (c.deref.ensures.value, c.in_ok-sectors.ensures) at c.in_ok-list_filled.ensures in
    let added = rw (c.deref-2.ensures.value, c.new-fewer.ensures) at c.in_ok-add_all.ensures.kept in
    let copied = rw c.deref-3.ensures.value at c.copy_sectors.ensures.sectors in
    record { sectors = shrunk c.args.kept.now _ c.copy_sectors.new.to _ added zero copied }
