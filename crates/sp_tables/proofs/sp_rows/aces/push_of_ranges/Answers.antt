use Rattle.std.proofs.Common.{append_assoc}
use Rattle.sp_tables.proofs.sp_rows.aces.push_of_ranges.Goals as goal

pub returns : goal.returns
returns c =
    let first = c.in_ok-push_global.ensures in
    let rest = c.in_ok-push_family.ensures in
    rw (rest, first) (simp append_assoc)
