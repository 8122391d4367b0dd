use Rattle.std.proofs.Common.{ℕ, ◌%◌, sym, rules}
use Rattle.shadow_mbr.proofs.Indexed.{more_indexed}
use Rattle.shadow_mbr.proofs.indexes.Indexes.insert.Goals as goal

pub invariant_of-self-2 : goal.invariant_of-self-2
invariant_of-self-2 c =
    let absent = rw (sym c.self.view_is) at c.requires in
    rw c.put_entry.ensures (more_indexed _ _ c.self.inside.recent.items _ c.args.number c.args.index (c.args.number % 64) c.self.invariant c.make_places.ensures absent (search rules))
