use Rattle.std.proofs.Common.{append_assoc}
use Rattle.sp_tables.proofs.sp_rows.factory.push_locking_aces.Goals as goal

pub returns : goal.returns
returns c =
    let e0 = c.in_ok-push_entries.ensures in
    let t0 = c.authority_entries.ensures c.args.profile in
    let e1 = c.in_ok-push_entries-2.ensures in
    let t1 = c.pin_entries.ensures c.args.profile in
    let e2 = c.in_ok-push_entries-3.ensures in
    let t2 = c.range_entries.ensures c.args.profile in
    let e3 = c.in_ok-push_entries-4.ensures in
    let t3 = c.mbr_entries.ensures c.args.profile in
    let e4 = c.in_ok-push_entries-5.ensures in
    let t4 = c.key_entries.ensures c.args.profile in
    let e5 = c.in_ok-push_entries-6.ensures in
    let t5 = c.opal_locking_entries.ensures c.args.profile in
    rw (e5, t5, e4, t4, e3, t3, e2, t2, e1, t1, e0, t0) (simp append_assoc)
