use Rattle.std.proofs.Common.{◌+◌, length, ◌∙◌, ap, length-append}
use Rattle.sp_tables.proofs.sp_rows.FamilyLemmas.{family-step}
use Rattle.sp_tables.proofs.sp_rows.entries.rows_of.Goals as goal

pub loop-i-preserved : goal.loop-i-preserved
loop-i-preserved g c =
    let so_far = c.loop-i.invariant in
    let pushed = c.in_ok-push_row.ensures in
    record {
      len = ap length pushed ∙ length-append _ _ ∙ ap (λ n. n + 1) so_far.len;
      family = family-step g.R.Row.held (g.F.Numbered.base c.args.family.now) (g.F.Numbered.values c.args.family.now) _ _ _ _ pushed c.in_ok-row.ensures so_far.len so_far.family;
    }
