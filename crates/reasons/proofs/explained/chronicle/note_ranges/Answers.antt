use Rattle.std.proofs.Common.{◌≡◌, ◌∙◌, ℕ, ◌+◌, length, slice_index_or, slice_set, subst, sym, ap, arith}
use Rattle.std.proofs.Math.ListN.{length-set}
use Rattle.std.proofs.lemmas.List.{get_or_default}
use Rattle.reasons.specs.declared.explained.onsets.RangeOnsets.{RangeOnsets}
use Rattle.reasons.specs.Chronicles.{no_onsets, range_onsets_after}
use Rattle.reasons.proofs.explained.Noting.{AreAnew, one_anew}
use Rattle.reasons.proofs.explained.chronicle.note_ranges.Goals as goal

pub loop-range-preserved : goal.loop-range-preserved
loop-range-preserved g c =
    let look = g.R.Rows.look_up c.args.rows.now in
    let now = c.args.now in
    let f = λ (k : ℕ) (old : RangeOnsets). range_onsets_after look k now old in
    let ranges = c.loop-range.ranges in
    let range = c.loop-range.range in
    let at : c.from-k.result ≡ range = c.from-k.ensures in
    let inv = c.loop-range.invariant in
    subst
    (λ (i : ℕ). (length (slice_set ranges i c.after.result) ≡ 17)
    × AreAnew f no_onsets c.args.ranges.now (slice_set ranges i c.after.result) (range + 1))
    (sym at) (
      length-set ranges range c.after.result ∙ inv.0,
      one_anew f no_onsets c.args.ranges.now ranges range c.after.result (omega (arith, inv.0, c.loop-range-test.true))
          (c.after.ensures
          ∙ ap (f range) (ap (λ (i : ℕ). slice_index_or ranges i _) at ∙ get_or_default ranges range _ no_onsets (omega (arith, inv.0, c.loop-range-test.true))))
          inv.1,
    )
