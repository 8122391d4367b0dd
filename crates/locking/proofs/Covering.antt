-- The row that the search gives is that of the range of the sector.
use Rattle.std.proofs.Common.{◌≡◌, ℕ, true, false, List, [], ◌∷◌, refl, inl, inr, ◌⊎◌}
use Rattle.std.proofs.lemmas.Bool.{cases_Bool}
use Rattle.std.proofs.lemmas.List.Elements.{All-nil, All-cons, Contains-push, Contains-append_left, Contains-append_right}
use Rattle.std.specs.List.{All, Contains}
use Rattle.locking.specs.declared.range.RangeRow.{RangeRow}
use Rattle.locking.specs.Range.{RangeRows, covers, row_in, row_at, IsRangeOf}

found_in : (rows : List RangeRow) (global : RangeRow) (sector : ℕ) → (Contains rows (row_in rows global sector) × (covers (row_in rows global sector) sector ≡ true)) ⊎ (All (λ other. covers other sector ≡ false) rows × (row_in rows global sector ≡ global))
found_in [] global sector = inr (All-nil (λ other. covers other sector ≡ false), refl)
found_in (row ∷ rows) global sector =
    elim (cases_Bool (covers row sector)) [
      | inl held ↦ rw held (inl (Contains-append_left (row ∷ []) rows row (Contains-push [] row), held))
      | inr free ↦ rw free (elim (found_in rows global sector) [
        | inl found ↦ inl (Contains-append_right (row ∷ []) rows (row_in rows global sector) found.0, found.1)
        | inr none ↦ inr (All-cons (λ other. covers other sector ≡ false) row rows free none.0, none.1)
      ])
    ]

pub is_range_of : (rows : RangeRows) (sector : ℕ) → IsRangeOf rows sector (row_at rows sector)
is_range_of rows sector = found_in rows.numbered rows.global sector
