use Rattle.std.proofs.Common.{◌≡◌, drop, fold}
use Rattle.judged.specs.Shown.{blank_place, with_digits, with_shown}
use Rattle.judged.specs.declared.shown.ShownSector.{ShownSector}
use Rattle.judged.proofs.shown.ShownSectors.with_shown.Given as goal

abbrev pub invariant-loop-shown : goal.invariant-loop-shown
invariant-loop-shown l =
    fold (λ line (sector : ShownSector). with_digits sector.digits line (blank_place l.first l.wanted l.other sector)) l.line (drop l.shown-index l.shown-items)
    ≡ with_shown l.self l.first l.wanted l.other
