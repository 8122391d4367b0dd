-- Rows made one after the other, and that no two of them have a sector in common.
use Rattle.std.proofs.Common.{◌≡◌, ℕ, zero, suc, ◌+◌, ◌-◌, ◌≤◌, ◌<◌, false, List, [], ◌∷◌, ◌++◌, length, get_or, refl, ap, ◌∙◌, arith}
use Rattle.std.specs.List.{All}
use Rattle.sp_cells.specs.declared.names.TheConstants.{RANGES}
use Rattle.sp_cells.specs.Flat.{LookUp}
use Rattle.sp_cells.specs.Ranges.{meets, AreApart}
use Rattle.locking.specs.declared.range.RangeRow.{RangeRow}
use Rattle.locking.specs.Ranges.{row_of, range_rows_from}

rows_from-push : (look_up : LookUp) (first n last : ℕ) → first + n ≡ last → range_rows_from look_up first n ++ row_of look_up last ∷ [] ≡ range_rows_from look_up first (suc n)
rows_from-push look_up first zero last e =
    let here : last ≡ first = omega (arith, e) in
    rw here refl
rows_from-push look_up first (suc n) last e =
    ap (λ (rows : List RangeRow). row_of look_up first ∷ rows) (rows_from-push look_up (suc first) n last (omega (arith, e)))

-- one more row
pub goes_on : (look_up : LookUp) (range : ℕ) (rows : List RangeRow) → 1 ≤ range → rows ≡ range_rows_from look_up 1 (range - 1) → rows ++ row_of look_up range ∷ [] ≡ range_rows_from look_up 1 (range + 1 - 1)
goes_on look_up range rows some e =
    let next : range + 1 - 1 ≡ suc (range - 1) = omega arith in
    rw (e, next) (rows_from-push look_up 1 (range - 1) range (omega arith))

pub length-rows_from : (look_up : LookUp) (first n : ℕ) → length (range_rows_from look_up first n) ≡ n
length-rows_from look_up first zero = refl
length-rows_from look_up first (suc n) = ap (λ (k : ℕ). suc k) (length-rows_from look_up (suc first) n)

-- there is room for one more row
pub has_room : (look_up : LookUp) (range : ℕ) (rows : List RangeRow) → 1 ≤ range → range ≤ RANGES → rows ≡ range_rows_from look_up 1 (range - 1) → length rows < RANGES
has_room look_up range rows some few e = rw e (omega (arith, some, few, length-rows_from look_up 1 (range - 1)))

row_at_place : (look_up : LookUp) (first n k : ℕ) (d : RangeRow) → k < n → get_or (range_rows_from look_up first n) k d ≡ row_of look_up (first + k)
row_at_place look_up first zero k d lt = absurd (omega arith)
row_at_place look_up first (suc n) zero d lt =
    let here : first + 0 ≡ first = omega arith in
    rw here refl
row_at_place look_up first (suc n) (suc k) d lt =
    let there : first + suc k ≡ suc first + k = omega arith in
    rw there (row_at_place look_up (suc first) n k d (omega arith))

-- the next row has no sector of those before it
pub next_is_apart : (look_up : LookUp) → AreApart look_up → (range : ℕ) (rows : List RangeRow) → 1 ≤ range → range ≤ RANGES → rows ≡ range_rows_from look_up 1 (range - 1) → All (λ other. meets other.start other.length (row_of look_up range).start (row_of look_up range).length ≡ false) rows
next_is_apart look_up apart range rows some few e =
    rw e (λ k d lt.
    let within : k < range - 1 = omega (arith, lt, length-rows_from look_up 1 (range - 1)) in
    rw (row_at_place look_up 1 (range - 1) k d within) (apart.separate (1 + k) range (omega arith) (omega arith) few))
