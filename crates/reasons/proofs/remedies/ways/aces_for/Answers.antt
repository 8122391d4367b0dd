use Rattle.std.proofs.Common.{List, subst, refl}
use Rattle.sp_cells.specs.declared.names.Uid.{Uid}
use Rattle.ace_eval.specs.Aces.{HasAce}
use Rattle.reasons.proofs.remedies.Holders.{nobody_has_ace}
use Rattle.reasons.proofs.remedies.ways.aces_for.Goals as goal

pub returns-in-Ok : goal.returns-in-Ok
returns-in-Ok g c =
    let profile = g.R.Rows.profile_of c.args.rows.now in
    let look = g.R.Rows.look_up c.args.rows.now in
    absurd (nobody_has_ace profile look c.args.sp c.args.object c.args.method c.args.column
    (subst (λ (held : List Uid). HasAce profile look c.args.sp c.args.object c.args.method c.args.column held) c.new-nobody.ensures (c.in-Ok.ensures.allowed.0 refl)))
