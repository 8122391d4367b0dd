use Rattle.std.proofs.Common.{append_assoc}
use Rattle.sp_tables.proofs.sp_rows.factory.push_admin_aces.Goals as goal

pub returns : goal.returns
returns c =
    let e0 = c.in_ok-push_entries.ensures in
    let t0 = c.admin_entries.ensures c.args.profile in
    let e1 = c.in_ok-push_entries-2.ensures in
    let t1 = c.label_entries.ensures c.args.profile in
    let e2 = c.in_ok-push_entries-3.ensures in
    let t2 = c.opal_admin_entries.ensures c.args.profile in
    rw (e2, t2, e1, t1, e0, t0) (simp append_assoc)
