use Rattle.std.proofs.Common.{◌≡◌, ◌++◌, not, drop}
use Rattle.std.specs.List.{filter}
use Rattle.judged.specs.Shown.{is_changed}
use Rattle.judged.specs.declared.shown.ShownSector.{ShownSector}
use Rattle.judged.proofs.shown.ShownSectors.unchanged.Given as goal

abbrev pub invariant-loop-shown : goal.invariant-loop-shown
invariant-loop-shown l =
    l.items.items ++ filter (λ (shown : ShownSector). not (is_changed l.first l.count shown.sector)) (drop l.shown-index l.shown-items)
    ≡ filter (λ (shown : ShownSector). not (is_changed l.first l.count shown.sector)) l.self
