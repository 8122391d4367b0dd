-- What a range covers and permits (Opal SSC, Locking table), and what the shadow covers (MBRControl table).
use Rattle.std.specs.Prelude.{ℕ, ◌≡◌, ◌⊎◌, ◌+◌, Bool, true, false, not, ◌&&◌, nat_le, nat_lt, List, [], ◌∷◌, if◌then◌else◌}
use Rattle.std.specs.List.{All, Contains}
use Rattle.locking.specs.declared.range.Op.{Op}
use Rattle.locking.specs.declared.range.Op.TheVariants.{Read, Write}
use Rattle.locking.specs.declared.range.RangeRow.{RangeRow}

-- The sector is one of the range's. A range of length 0 covers nothing.
abbrev pub covers : RangeRow → ℕ → Bool
covers row sector = nat_le row.start sector && nat_lt sector (row.start + row.length)

-- A lock counts where it is enabled.
abbrev pub permits : Op → RangeRow → Bool
permits Read row = not (row.read_enabled && row.read_locked)
permits Write row = not (row.write_enabled && row.write_locked)

-- The first row that covers the sector, else the last resort.
abbrev pub row_in : List RangeRow → RangeRow → ℕ → RangeRow
row_in [] global sector = global
row_in (row ∷ rows) global sector = if covers row sector then row else row_in rows global sector

-- The ranges of a drive: the global one, and the numbered ones; and how many sectors the shadow MBR covers, the first of the drive.
pub record RangeRows : Type 0 where
  pub global : RangeRow
  pub numbered : List RangeRow
  pub shadowed : ℕ

-- The range of a sector: the numbered range that covers it, else the global range.
abbrev pub row_at : RangeRows → ℕ → RangeRow
row_at rows sector = row_in rows.numbered rows.global sector

-- The same by what is covered: a numbered range that covers the sector, or the global range where none does.
abbrev pub IsRangeOf : RangeRows → ℕ → RangeRow → Type 0
IsRangeOf rows sector row =
    (Contains rows.numbered row × (covers row sector ≡ true))
    ⊎ (All (λ other. covers other sector ≡ false) rows.numbered × (row ≡ rows.global))

-- The shadow covers the sector.
abbrev pub is_shadowed : RangeRows → ℕ → Bool
is_shadowed rows sector = nat_lt sector rows.shadowed
