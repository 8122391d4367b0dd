use Rattle.std.proofs.Common.{◌≡◌, ◌++◌, drop}
use Rattle.reasons.specs.Chronicles.{kept_onset}
use Rattle.reasons.specs.Reasons.{reasons_text}
use Rattle.reasons.proofs.explained.chronicle.Chronicle.append_reasons.Given as goal

abbrev pub invariant-loop-condition : goal.invariant-loop-condition
invariant-loop-condition l = l.text.items ++ reasons_text l.counted (kept_onset l.self) (drop l.condition-index l.conditions)
    ≡ l.initial.text.items ++ reasons_text l.counted (kept_onset l.self) l.conditions
