use Rattle.std.proofs.Common.{◌∙◌, ◌++◌, ap, codes, append_assoc}
use Rattle.reasons.specs.Remedies.{revert_text}
use Rattle.reasons.proofs.remedies.remedy.append_locked_out.Goals as goal

pub returns : goal.returns
returns g c =
    let told = revert_text (g.R.Rows.profile_of c.args.rows.now) (g.R.Rows.look_up c.args.rows.now) c.args.sp c.args.authority in
    c.in_ok-append_revert.ensures
    ∙ ap (λ l. l ++ told) c.in_ok-extend_from_slice.ensures.items
    ∙ append_assoc c.args.text.now.items (codes "a power cycle") told
