use Rattle.std.proofs.Common.{◌≡◌, drop}
use Rattle.std.specs.List.{fold}
use Rattle.judged.specs.Benches.{BenchFits, BenchStands}
use Rattle.judged.specs.Judgements.{with_entry, nothing_judged}
use Rattle.judged.proofs.judging.judge_on.Given as goal

abbrev pub invariant-loop-entry : goal.invariant-loop-entry
invariant-loop-entry l =
    BenchStands l.bench × BenchFits l.bench l.options l.judging
    × (fold (with_entry l.options l.freedoms) l.judging (drop l.entry-index l.entries) ≡ fold (with_entry l.options l.freedoms) nothing_judged l.entries)
