-- The Set that a remedy names lifts the denial.
use Rattle.std.proofs.Common.{◌≡◌, ◌∙◌, ◌⊎◌, ℕ, zero, suc, ◌==◌, ◌&&◌, ◌+◌, nat_le, nat_lt, not, if◌then◌else◌, Bool, true, false, List, [], ◌∷◌, ◌++◌, refl, sym, ap, subst, arith, inl, inr, Option, Some, None, eq-eqb}
use Rattle.std.specs.Prelude.{option_map, is_some}
use Rattle.std.proofs.lemmas.Bool.{le-ltb}
use Rattle.sp_cells.specs.declared.names.Sp.{Sp}
use Rattle.sp_cells.specs.declared.names.Sp.TheVariants.{Locking}
use Rattle.sp_cells.specs.declared.names.Uid.{Uid}
use Rattle.sp_cells.specs.declared.names.Column.{Column}
use Rattle.sp_cells.specs.declared.cells.Cell.{Cell}
use Rattle.sp_cells.specs.declared.cells.Cell.TheVariants.{Number}
use Rattle.sp_cells.specs.Names.{range_uid, mbr_control}
use Rattle.sp_cells.specs.ColumnNames.{range_start_column, range_length_column, read_lock_enabled_column, write_lock_enabled_column, read_locked_column, write_locked_column, mbr_enable_column, mbr_done_column}
use Rattle.sp_cells.specs.Flat.{LookUp}
use Rattle.sp_cells.specs.Ranges.{cell_number, number, range_start, range_length, read_lock_enabled, write_lock_enabled, read_locked, write_locked}
use Rattle.ace_eval.specs.Aces.{holds_at, first_holding}
use Rattle.audit.specs.declared.reason.Why.{Why}
use Rattle.locking.specs.declared.range.Op.{Op}
use Rattle.locking.specs.declared.range.Op.TheVariants.{Read, Write}
use Rattle.locking.specs.declared.range.RangeRow.{RangeRow}
use Rattle.locking.specs.Range.{covers, permits, row_in, row_at, is_shadowed}
use Rattle.locking.specs.Ranges.{row_of, range_rows_from, ranges_in, is_shadow_up}
use Rattle.locking.specs.Verdict.{is_permitted, why_of, shadow_why, AreOpen, EachSector}
use Rattle.history.specs.Facts.{Facts}
use Rattle.history.specs.Decisions.{ranges_in_force}
use Rattle.history.specs.TransferLaws.{IsPermitted, IsReason}
use Rattle.history.proofs.TransferProofs.{verdict_law}
use Rattle.reasons.specs.Lifts.{lock_cleared, shadow_done, HasNamedCell, rows_set, IsOfRange, IsLifted, LiftLaw, FulfilLaw}

-- a cell of another column stays; the cell itself is the number, where there is one

other : (b : Bool) (x y : Option Cell) → cell_number (if b && false then x else y) ≡ cell_number y
other true x y = refl
other false x y = refl

cleared : (b : Bool) (c : Option Cell) → b ≡ true → cell_number (if b && true then option_map (λ _. Number 0) c else c) ≡ 0
cleared true None e = refl
cleared true (Some x) e = refl
cleared false c e = absurd cc

gone-or-same : (b : Bool) (c : Option Cell)
    → ((cell_number (if b && true then option_map (λ _. Number 0) c else c) == 1) ≡ false)
    ⊎ ((cell_number (if b && true then option_map (λ _. Number 0) c else c) == 1) ≡ (cell_number c == 1))
gone-or-same true None = inl refl
gone-or-same true (Some x) = inl refl
gone-or-same false c = inr refl

done : (enabled : Bool) (c : Option Cell) → is_some c ≡ true → (enabled && (cell_number (option_map (λ _. Number 1) c) == 0)) ≡ false
done enabled None h = absurd cc
done true (Some x) h = refl
done false (Some x) h = refl

not-both : (b : Bool) → not (b && false) ≡ true
not-both true = refl
not-both false = refl

-- the range of a sector has the same number by rows in which the ranges cover the same

abbrev AreOfOne : LookUp → LookUp → (first n sector : ℕ) → Type 0
AreOfOne look look' first n sector =
    (k : ℕ) × (row_in (range_rows_from look first n) (row_of look 0) sector ≡ row_of look k)
    × (row_in (range_rows_from look' first n) (row_of look' 0) sector ≡ row_of look' k)

of-one-if : (look look' : LookUp) (first n sector : ℕ) (b : Bool) → covers (row_of look first) sector ≡ b
    → covers (row_of look' first) sector ≡ covers (row_of look first) sector
    → AreOfOne look look' (suc first) n sector → AreOfOne look look' first (suc n) sector
of-one-if look look' first n sector true here same its = (
  first,
  ap (λ b. if b then row_of look first else row_in (range_rows_from look (suc first) n) (row_of look 0) sector) here,
  ap (λ b. if b then row_of look' first else row_in (range_rows_from look' (suc first) n) (row_of look' 0) sector) (same ∙ here),
)
of-one-if look look' first n sector false here same its = (
  its.0,
  ap (λ b. if b then row_of look first else row_in (range_rows_from look (suc first) n) (row_of look 0) sector) here ∙ its.1,
  ap (λ b. if b then row_of look' first else row_in (range_rows_from look' (suc first) n) (row_of look' 0) sector) (same ∙ here) ∙ its.2,
)

of-one : (look look' : LookUp) → ((k sector : ℕ) → covers (row_of look' k) sector ≡ covers (row_of look k) sector)
    → (first n sector : ℕ) → AreOfOne look look' first n sector
of-one look look' same first zero sector = (0, refl, refl)
of-one look look' same first (suc n) sector =
    of-one-if look look' first n sector (covers (row_of look first) sector) refl (same first sector) (of-one look look' same (suc first) n sector)

in-one : (size sector : ℕ) (look look' : LookUp) → ((k sector : ℕ) → covers (row_of look' k) sector ≡ covers (row_of look k) sector)
    → (k : ℕ) × (row_at (ranges_in size look) sector ≡ row_of look k) × (row_at (ranges_in size look') sector ≡ row_of look' k)
unfolding ranges_in
in-one size sector look look' same = of-one look look' same 1 16 sector

same-covers : (look look' : LookUp) (k sector : ℕ) → range_start look' k ≡ range_start look k → range_length look' k ≡ range_length look k
    → covers (row_of look' k) sector ≡ covers (row_of look k) sector
same-covers look look' k sector start length =
    ap (λ (n : ℕ). nat_le n sector && nat_lt sector (n + range_length look' k)) start
    ∙ ap (λ (n : ℕ). nat_le (range_start look k) sector && nat_lt sector (range_start look k + n)) length

-- a lock of a range is cleared

abbrev lock_column : Op → Column
lock_column Read = read_locked_column
lock_column Write = write_locked_column

abbrev unlocked : Op → ℕ → LookUp → LookUp
unlocked op range look = rows_set look (lock_cleared range (lock_column op))

-- whether it is the row of the range
abbrev is_its : ℕ → ℕ → Bool
is_its range k = (range_uid range).0 == (range_uid k).0

abbrev put : LookUp → ℕ → Column → Option Cell
put look k column = option_map (λ _. Number 0) (look Locking (range_uid k) column)

start-stays : (op : Op) (range k : ℕ) (look : LookUp) → range_start (unlocked op range look) k ≡ range_start look k
start-stays Read range k look = other (is_its range k) (put look k range_start_column) (look Locking (range_uid k) range_start_column)
start-stays Write range k look = other (is_its range k) (put look k range_start_column) (look Locking (range_uid k) range_start_column)

length-stays : (op : Op) (range k : ℕ) (look : LookUp) → range_length (unlocked op range look) k ≡ range_length look k
length-stays Read range k look = other (is_its range k) (put look k range_length_column) (look Locking (range_uid k) range_length_column)
length-stays Write range k look = other (is_its range k) (put look k range_length_column) (look Locking (range_uid k) range_length_column)

covers-stays : (op : Op) (range : ℕ) (look : LookUp) (k sector : ℕ) → covers (row_of (unlocked op range look) k) sector ≡ covers (row_of look k) sector
covers-stays op range look k sector = same-covers look (unlocked op range look) k sector (start-stays op range k look) (length-stays op range k look)

row-stays : (op : Op) (range k : ℕ) (look : LookUp) → permits op (row_of look k) ≡ true → permits op (row_of (unlocked op range look) k) ≡ true
row-stays Read range k look h =
    let enabled : read_lock_enabled (unlocked Read range look) k ≡ read_lock_enabled look k
    = other (is_its range k) (put look k read_lock_enabled_column) (look Locking (range_uid k) read_lock_enabled_column) in
    elim (gone-or-same (is_its range k) (look Locking (range_uid k) read_locked_column)) [
      | inl gone ↦ ap (λ (b : Bool). not ((read_lock_enabled (unlocked Read range look) k == 1) && b)) gone ∙ not-both (read_lock_enabled (unlocked Read range look) k == 1)
      | inr same ↦ ap (λ (b : Bool). not ((read_lock_enabled (unlocked Read range look) k == 1) && b)) same
          ∙ ap (λ (n : ℕ). not ((n == 1) && (read_locked look k == 1))) enabled ∙ h
    ]
row-stays Write range k look h =
    let enabled : write_lock_enabled (unlocked Write range look) k ≡ write_lock_enabled look k
    = other (is_its range k) (put look k write_lock_enabled_column) (look Locking (range_uid k) write_lock_enabled_column) in
    elim (gone-or-same (is_its range k) (look Locking (range_uid k) write_locked_column)) [
      | inl gone ↦ ap (λ (b : Bool). not ((write_lock_enabled (unlocked Write range look) k == 1) && b)) gone ∙ not-both (write_lock_enabled (unlocked Write range look) k == 1)
      | inr same ↦ ap (λ (b : Bool). not ((write_lock_enabled (unlocked Write range look) k == 1) && b)) same
          ∙ ap (λ (n : ℕ). not ((n == 1) && (write_locked look k == 1))) enabled ∙ h
    ]

row-lifts : (op : Op) (range : ℕ) (look : LookUp) → permits op (row_of (unlocked op range look) range) ≡ true
row-lifts Read range look =
    let off : read_locked (unlocked Read range look) range ≡ 0
    = cleared (is_its range range) (look Locking (range_uid range) read_locked_column) (eq-eqb (range_uid range).0 (range_uid range).0 refl) in
    ap (λ (n : ℕ). not ((read_lock_enabled (unlocked Read range look) range == 1) && (n == 1))) off
    ∙ not-both (read_lock_enabled (unlocked Read range look) range == 1)
row-lifts Write range look =
    let off : write_locked (unlocked Write range look) range ≡ 0
    = cleared (is_its range range) (look Locking (range_uid range) write_locked_column) (eq-eqb (range_uid range).0 (range_uid range).0 refl) in
    ap (λ (n : ℕ). not ((write_lock_enabled (unlocked Write range look) range == 1) && (n == 1))) off
    ∙ not-both (write_lock_enabled (unlocked Write range look) range == 1)

sector-stays : (op : Op) (range size : ℕ) (look : LookUp) (sector : ℕ) → is_permitted (ranges_in size look) op sector ≡ true
    → is_permitted (ranges_in size (unlocked op range look)) op sector ≡ true
sector-stays op range size look sector h =
    let its = in-one size sector look (unlocked op range look) (covers-stays op range look) in
    ap (permits op) its.2 ∙ row-stays op range its.0 look (ap (permits op) (sym its.1) ∙ h)

sector-lifts : (op : Op) (range size : ℕ) (look : LookUp) (sector : ℕ) → (row_at (ranges_in size look) sector).range ≡ range
    → is_permitted (ranges_in size (unlocked op range look)) op sector ≡ true
sector-lifts op range size look sector h =
    let its = in-one size sector look (unlocked op range look) (covers-stays op range look) in
    let same : its.0 ≡ range = ap (λ (row : RangeRow). row.range) (sym its.1) ∙ h in
    ap (permits op) its.2
    ∙ subst (λ (k : ℕ). permits op (row_of (unlocked op range look) k) ≡ true) (sym same) (row-lifts op range look)

-- the shadow is as it was
abbrev is_control : ℕ → Bool
is_control range = (range_uid range).0 == mbr_control.0

abbrev put_control : LookUp → Column → Option Cell
put_control look column = option_map (λ _. Number 0) (look Locking mbr_control column)

enable-stays : (op : Op) (range : ℕ) (look : LookUp) → number (unlocked op range look) Locking mbr_control mbr_enable_column ≡ number look Locking mbr_control mbr_enable_column
enable-stays Read range look = other (is_control range) (put_control look mbr_enable_column) (look Locking mbr_control mbr_enable_column)
enable-stays Write range look = other (is_control range) (put_control look mbr_enable_column) (look Locking mbr_control mbr_enable_column)

done-stays : (op : Op) (range : ℕ) (look : LookUp) → number (unlocked op range look) Locking mbr_control mbr_done_column ≡ number look Locking mbr_control mbr_done_column
done-stays Read range look = other (is_control range) (put_control look mbr_done_column) (look Locking mbr_control mbr_done_column)
done-stays Write range look = other (is_control range) (put_control look mbr_done_column) (look Locking mbr_control mbr_done_column)

up-stays : (op : Op) (range : ℕ) (look : LookUp) → is_shadow_up (unlocked op range look) ≡ is_shadow_up look
up-stays op range look =
    ap (λ (n : ℕ). (n == 1) && (number (unlocked op range look) Locking mbr_control mbr_done_column == 0)) (enable-stays op range look)
    ∙ ap (λ (n : ℕ). (number look Locking mbr_control mbr_enable_column == 1) && (n == 0)) (done-stays op range look)

shadow-stays : (op : Op) (range size : ℕ) (look : LookUp) (sector : ℕ)
    → is_shadowed (ranges_in size (unlocked op range look)) sector ≡ is_shadowed (ranges_in size look) sector
unfolding ranges_in
shadow-stays op range size look sector = ap (λ (up : Bool). nat_lt sector (if up then size else 0)) (up-stays op range look)

lock-permits : (op : Op) (range size : ℕ) (look : LookUp) (lba count : ℕ) → AreOpen (ranges_in size look) lba (lba + count)
    → EachSector lba (lba + count) (IsOfRange (ranges_in size look) op range) → IsPermitted (ranges_in size (unlocked op range look)) op lba count
lock-permits op range size look lba count opened each = inl (
  (λ sector from below. shadow-stays op range size look sector ∙ opened sector from below),
  (λ sector from below. elim (each sector from below) [
    | inl its ↦ sector-lifts op range size look sector its
    | inr permitted ↦ sector-stays op range size look sector permitted
  ]),
)

lock-lifted : (f : Facts) (op : Op) (lba count range : ℕ) → AreOpen (ranges_in_force f) lba (lba + count) → IsLifted f op lba count (why_of op lba count range)
lock-lifted f Read lba count range opened = record {
  its = lock_cleared range read_locked_column;
  named = refl;
  told = λ profile look. refl;
  stays = λ sector h. sector-stays Read range f.config.mbr_sectors f.rows sector h;
  permits = λ there each. lock-permits Read range f.config.mbr_sectors f.rows lba count opened each;
}
lock-lifted f Write lba count range opened = record {
  its = lock_cleared range write_locked_column;
  named = refl;
  told = λ profile look. refl;
  stays = λ sector h. sector-stays Write range f.config.mbr_sectors f.rows sector h;
  permits = λ there each. lock-permits Write range f.config.mbr_sectors f.rows lba count opened each;
}

-- the shadow is done

abbrev bare : LookUp → LookUp
bare look = rows_set look shadow_done

abbrev is_range : ℕ → Bool
is_range k = mbr_control.0 == (range_uid k).0

abbrev kept : ℕ → LookUp → Column → Option Cell
kept k look column = option_map (λ _. Number 1) (look Locking (range_uid k) column)

bare-start : (k : ℕ) (look : LookUp) → range_start (bare look) k ≡ range_start look k
bare-start k look = other (is_range k) (kept k look range_start_column) (look Locking (range_uid k) range_start_column)

bare-length : (k : ℕ) (look : LookUp) → range_length (bare look) k ≡ range_length look k
bare-length k look = other (is_range k) (kept k look range_length_column) (look Locking (range_uid k) range_length_column)

bare-covers : (look : LookUp) (k sector : ℕ) → covers (row_of (bare look) k) sector ≡ covers (row_of look k) sector
bare-covers look k sector = same-covers look (bare look) k sector (bare-start k look) (bare-length k look)

bare-permits : (op : Op) (k : ℕ) (look : LookUp) → permits op (row_of (bare look) k) ≡ permits op (row_of look k)
bare-permits Read k look =
    let enabled : read_lock_enabled (bare look) k ≡ read_lock_enabled look k = other (is_range k) (kept k look read_lock_enabled_column) (look Locking (range_uid k) read_lock_enabled_column) in
    let locked : read_locked (bare look) k ≡ read_locked look k = other (is_range k) (kept k look read_locked_column) (look Locking (range_uid k) read_locked_column) in
    ap (λ (n : ℕ). not ((n == 1) && (read_locked (bare look) k == 1))) enabled
    ∙ ap (λ (n : ℕ). not ((read_lock_enabled look k == 1) && (n == 1))) locked
bare-permits Write k look =
    let enabled : write_lock_enabled (bare look) k ≡ write_lock_enabled look k = other (is_range k) (kept k look write_lock_enabled_column) (look Locking (range_uid k) write_lock_enabled_column) in
    let locked : write_locked (bare look) k ≡ write_locked look k = other (is_range k) (kept k look write_locked_column) (look Locking (range_uid k) write_locked_column) in
    ap (λ (n : ℕ). not ((n == 1) && (write_locked (bare look) k == 1))) enabled
    ∙ ap (λ (n : ℕ). not ((write_lock_enabled look k == 1) && (n == 1))) locked

bare-sector : (op : Op) (size : ℕ) (look : LookUp) (sector : ℕ) → is_permitted (ranges_in size look) op sector ≡ true
    → is_permitted (ranges_in size (bare look)) op sector ≡ true
bare-sector op size look sector h =
    let its = in-one size sector look (bare look) (bare-covers look) in
    ap (permits op) its.2 ∙ bare-permits op its.0 look ∙ ap (permits op) (sym its.1) ∙ h

down : (look : LookUp) → HasNamedCell look shadow_done → is_shadow_up (bare look) ≡ false
down look there = done (number (bare look) Locking mbr_control mbr_enable_column == 1) (look Locking mbr_control mbr_done_column) there

bare-open : (size : ℕ) (look : LookUp) (sector : ℕ) → HasNamedCell look shadow_done → is_shadowed (ranges_in size (bare look)) sector ≡ false
unfolding ranges_in
bare-open size look sector there = ap (λ (up : Bool). nat_lt sector (if up then size else 0)) (down look there) ∙ le-ltb sector 0 (omega arith)

shadow-permits : (f : Facts) (op : Op) (lba count : ℕ) → HasNamedCell f.rows shadow_done
    → EachSector lba (lba + count) (λ sector. is_permitted (ranges_in_force f) op sector ≡ true)
    → IsPermitted (ranges_in f.config.mbr_sectors (bare f.rows)) op lba count
shadow-permits f op lba count there each = inl (
  (λ sector from below. bare-open f.config.mbr_sectors f.rows sector there),
  (λ sector from below. bare-sector op f.config.mbr_sectors f.rows sector (each sector from below)),
)

shadow-lifted : (f : Facts) (op : Op) (lba count : ℕ) → IsLifted f op lba count (shadow_why op lba count)
shadow-lifted f Read lba count = record {
  its = shadow_done;
  named = refl;
  told = λ profile look. refl;
  stays = λ sector h. bare-sector Read f.config.mbr_sectors f.rows sector h;
  permits = λ there each. shadow-permits f Read lba count there each;
}
shadow-lifted f Write lba count = record {
  its = shadow_done;
  named = refl;
  told = λ profile look. refl;
  stays = λ sector h. bare-sector Write f.config.mbr_sectors f.rows sector h;
  permits = λ there each. shadow-permits f Write lba count there each;
}

by-reason : (f : Facts) (op : Op) (lba count : ℕ) (why : Why) → IsReason (ranges_in_force f) op lba count why → IsLifted f op lba count why
by-reason f op lba count why (inl shadow) = subst (λ (w : Why). IsLifted f op lba count w) (sym shadow.names) (shadow-lifted f op lba count)
by-reason f op lba count why (inr range) =
    subst (λ (w : Why). IsLifted f op lba count w) (sym range.names)
    (lock-lifted f op lba count (row_at (ranges_in_force f) range.sector).range range.opened)

pub lifts : LiftLaw
lifts f act why its =
    by-reason f its.op its.lba its.count why ((verdict_law (ranges_in_force f) its.op its.lba its.count).reason why its.verdict)

-- an ACE that holds is the first that does, or stands behind it
some-if : (look : LookUp) (sp : Sp) (held : List Uid) (first : Uid) (aces : List Uid) (b : Bool)
    → is_some (first_holding look sp held aces) ≡ true → is_some (if b then Some first else first_holding look sp held aces) ≡ true
some-if look sp held first aces true h = refl
some-if look sp held first aces false h = h

some-holds : (look : LookUp) (sp : Sp) (held before later : List Uid) (ace : Uid) → holds_at look sp held ace ≡ true
    → is_some (first_holding look sp held (before ++ ace ∷ later)) ≡ true
some-holds look sp held [] later ace h = ap (λ (b : Bool). is_some (if b then Some ace else first_holding look sp held later)) h
some-holds look sp held (first ∷ before) later ace h =
    some-if look sp held first (before ++ ace ∷ later) (holds_at look sp held first) (some-holds look sp held before later ace h)

pub fulfils : FulfilLaw
fulfils profile look sp object method column held before later ace is h =
    ap (λ (aces : List Uid). is_some (first_holding look sp held aces)) is ∙ some-holds look sp held before later ace h
