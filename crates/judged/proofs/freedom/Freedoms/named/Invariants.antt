use Rattle.std.proofs.Common.{◌≡◌, map, drop, Some}
use Rattle.std.specs.List.{fold}
use Rattle.judged.specs.Freedoms.{with_named, freedoms_named}
use Rattle.judged.proofs.freedom.Freedoms.named.Given as goal

abbrev pub invariant-loop-name : goal.invariant-loop-name
invariant-loop-name l =
    fold with_named (Some l.items.items) (map (λ s. s.now) (drop l.name-index l.names)) ≡ freedoms_named (map (λ s. s.now) l.names)
