use Rattle.std.proofs.Common.{append_assoc}
use Rattle.sp_tables.specs.Factory.{admin_pins}
use Rattle.sp_tables.proofs.sp_rows.factory.push_admin_pins.Goals as goal

pub returns : goal.returns
unfolding admin_pins
returns c =
    let e0 = c.in_ok-push_pin.ensures in
    let e1 = c.in_ok-push_pin-2.ensures in
    rw (e1, e0) (simp append_assoc)
