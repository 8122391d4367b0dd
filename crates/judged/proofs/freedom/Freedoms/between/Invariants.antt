use Rattle.std.proofs.Common.{◌≡◌, drop}
use Rattle.std.specs.List.{find}
use Rattle.judged.specs.Freedoms.{is_by}
use Rattle.judged.proofs.freedom.Freedoms.between.Given as goal

abbrev pub invariant-loop-freedom : goal.invariant-loop-freedom
invariant-loop-freedom l =
    find (is_by l.asked l.heard l.wanted l.other) (drop l.freedom-index l.freedom-items) ≡ find (is_by l.asked l.heard l.wanted l.other) l.self
