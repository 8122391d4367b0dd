-- The runs of ranges that follow one another.
use Rattle.std.proofs.Common.{◌≡◌, ℕ, zero, suc, ◌+◌, ◌-◌, ◌<◌, ◌≤◌, ◌≢◌, List, [], ◌∷◌, ◌++◌, length, refl, ap, ◌∙◌, arith}
use Rattle.sp_cells.specs.Flat.{LookUp}
use Rattle.shadow_mbr.specs.declared.erasure.Run.{Run}
use Rattle.shadow_mbr.specs.declared.erasure.Erasure.TheVariants.{Within}
use Rattle.methods.specs.Erasures.{run_of, runs_from, erased_by_key}

runs_length : (rows : LookUp) (first n : ℕ) → length (runs_from rows first n) ≡ n
runs_length rows first zero = refl
runs_length rows first (suc n) = ap suc (runs_length rows (suc first) n)

pub has_room : (rows : LookUp) (range : ℕ) (runs : List Run) → range < 17 → runs ≡ runs_from rows 1 (range - 1) → length runs < 16
has_room rows range runs below is =
    let long : length runs ≡ range - 1 = ap (λ (xs : List Run). length xs) is ∙ runs_length rows 1 (range - 1) in
    omega arith

next_run : (rows : LookUp) (first n : ℕ) → runs_from rows first n ++ run_of rows (first + n) ∷ [] ≡ runs_from rows first (suc n)
next_run rows first zero = ap (λ (k : ℕ). run_of rows k ∷ []) (omega arith)
next_run rows first (suc n) =
    ap (λ (k : ℕ). (run_of rows first ∷ runs_from rows (suc first) n) ++ run_of rows k ∷ []) (omega arith)
    ∙ ap (λ (xs : List Run). run_of rows first ∷ xs) (next_run rows (suc first) n)

pub more_runs : (rows : LookUp) (range : ℕ) (runs : List Run) → 1 ≤ range → runs ≡ runs_from rows 1 (range - 1) → runs ++ run_of rows range ∷ [] ≡ runs_from rows 1 (range + 1 - 1)
more_runs rows range runs from is =
    let here : range ≡ 1 + (range - 1) = omega arith in
    let more : suc (range - 1) ≡ range + 1 - 1 = omega arith in
    ap (λ (xs : List Run). xs ++ run_of rows range ∷ []) is
    ∙ ap (λ (k : ℕ). runs_from rows 1 (range - 1) ++ run_of rows k ∷ []) here
    ∙ next_run rows 1 (range - 1)
    ∙ ap (runs_from rows 1) more

pub one_range : (rows : LookUp) (n : ℕ) → n ≢ 0 → Within (record { items = run_of rows n ∷ [] }) ≡ erased_by_key rows n
one_range rows zero some = absurd (some refl)
one_range rows (suc n) some = refl
