-- The ranges that are looked at, one after another.
use Rattle.std.proofs.Common.{◌≡◌, ◌∙◌, ℕ, suc, ◌+◌, ◌-◌, ◌<◌, if◌then◌else◌, ap, arith, Option, Some}
use Rattle.sp_cells.specs.Flat.{LookUp}
use Rattle.reasons.specs.declared.explained.condition.Place.{Place}
use Rattle.reasons.specs.Asked.{meets_place, met_from}

pub next : (look : LookUp) (range : ℕ) (place : Place) (other : ℕ) → other < 17
    → met_from look range place other (17 - other)
    ≡ (if meets_place look range place other then Some other else met_from look range place (other + 1) (17 - (other + 1)))
unfolding met_from
next look range place other below =
    let one : 17 - other ≡ suc (16 - other) = omega arith in
    let rest : 16 - other ≡ 17 - (other + 1) = omega arith in
    let on : suc other ≡ other + 1 = omega arith in
    ap (met_from look range place other) one
    ∙ ap (λ (n : ℕ). if meets_place look range place other then Some other else met_from look range place (suc other) n) rest
    ∙ ap (λ (k : ℕ). if meets_place look range place other then Some other else met_from look range place k (17 - (other + 1))) on
