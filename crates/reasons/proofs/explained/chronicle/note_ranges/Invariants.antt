use Rattle.std.proofs.Common.{◌≡◌, ℕ, length}
use Rattle.reasons.specs.declared.explained.onsets.RangeOnsets.{RangeOnsets}
use Rattle.reasons.specs.Chronicles.{no_onsets, range_onsets_after}
use Rattle.reasons.proofs.explained.Noting.{AreAnew}
use Rattle.reasons.proofs.explained.chronicle.note_ranges.Given as goal

abbrev pub invariant-loop-range : goal.invariant-loop-range
invariant-loop-range g l =
    (length l.ranges ≡ 17)
    × AreAnew (λ (k : ℕ) (old : RangeOnsets). range_onsets_after (g.R.Rows.look_up l.rows) k l.now old) no_onsets l.initial.ranges l.ranges l.range
