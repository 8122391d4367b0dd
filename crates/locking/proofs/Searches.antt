-- The search among the starts finds the row that covers a sector.
use Rattle.std.proofs.Common.{◌≡◌, ℕ, zero, suc, ◌+◌, ◌-◌, ◌≤◌, ◌<◌, Bool, true, false, ◌&&◌, nat_le, nat_lt, List, [], ◌∷◌, length, map, get_or, refl, sym, ap, ◌∙◌, arith, inl, inr, ◌⊎◌}
use Rattle.std.proofs.lemmas.Bool.{cases_Bool, cases_lt}
use Rattle.std.specs.List.Sorted.{IsNonDecreasingBy}
use Rattle.sp_cells.specs.Ranges.{meets}
use Rattle.locking.specs.declared.range.RangeRow.{RangeRow}
use Rattle.locking.specs.declared.numbered.Start.{Start}
use Rattle.locking.specs.Range.{covers, row_in}
use Rattle.locking.specs.Starts.{row_from, IsStartOf, EndsBefore, AreStarts}

-- what covering is in numbers
both_le_lt : (a s b : ℕ) → (nat_le a s && nat_lt s b) ≡ true → (a ≤ s) × (s < b)
both_le_lt a s b h = (grind (arith, h), grind (arith, h))

not_below : (a s b : ℕ) → b ≤ s → (nat_le a s && nat_lt s b) ≡ false
not_below a s b le = grind (arith, le)

not_behind : (a s b : ℕ) → s < a → (nat_le a s && nat_lt s b) ≡ false
not_behind a s b lt = grind (arith, lt)

ended : (a s b : ℕ) → (nat_le a s && nat_lt s b) ≡ false → a ≤ s → b ≤ s
ended a s b h le = grind (arith, h, le)

pub apart_order : (a m b n : ℕ) → meets a m b n ≡ false → 0 < m → 0 < n → (a + m ≤ b) ⊎ (b + n ≤ a)
apart_order a m b n h some other =
    elim (cases_lt b (a + m)) [
      | inl lt ↦ elim (cases_lt a (b + n)) [ inl less ↦ absurd (grind (arith, h, some, other, lt, less)) | inr le ↦ inr le ]
      | inr le ↦ inl le
    ]

-- what a row covers from a sector on, it covers up to its end
pub covers_on : (row : RangeRow) (sector s end : ℕ) → covers row sector ≡ true → sector ≤ s → s < end → end ≤ row.start + row.length → covers row s ≡ true
covers_on row sector s end held le lt within =
    let inside = both_le_lt row.start sector (row.start + row.length) held in
    grind (arith, inside.0, le, lt, within)

pub apart_covers : (a b : RangeRow) (s : ℕ) → meets a.start a.length b.start b.length ≡ false → covers b s ≡ true → covers a s ≡ false
apart_covers a b s h held =
    let in_b = both_le_lt b.start s (b.start + b.length) held in
    elim (cases_lt 0 a.length) [
      | inl some ↦ elim (apart_order a.start a.length b.start b.length h some (omega (arith, in_b.0, in_b.1))) [
        | inl le ↦ not_below a.start s (a.start + a.length) (omega (arith, in_b.0))
        | inr le ↦ not_behind a.start s (a.start + a.length) (omega (arith, in_b.1))
      ]
      | inr none ↦ elim (cases_lt s a.start) [
        | inl lt ↦ not_behind a.start s (a.start + a.length) lt
        | inr le ↦ not_below a.start s (a.start + a.length) (omega arith)
      ]
    ]

-- the search in a list of rows, by their places
found_at : (f : Start → RangeRow) (starts : List Start) (global : RangeRow) (s k : ℕ) (d : Start) → k < length starts → ((j : ℕ) → j < k → covers (f (get_or starts j d)) s ≡ false) → covers (f (get_or starts k d)) s ≡ true → row_in (map f starts) global s ≡ f (get_or starts k d)
found_at f [] global s k d lt before here = absurd (omega arith)
found_at f (start ∷ starts) global s zero d lt before here = rw here refl
found_at f (start ∷ starts) global s (suc k) d lt before here =
    rw (before 0 (omega arith)) (found_at f starts global s k d (omega arith) (λ j l. before (suc j) (omega arith)) here)

pub found_nowhere : (f : Start → RangeRow) (starts : List Start) (global : RangeRow) (s : ℕ) (d : Start) → ((j : ℕ) → j < length starts → covers (f (get_or starts j d)) s ≡ false) → row_in (map f starts) global s ≡ global
found_nowhere f [] global s d none = refl
found_nowhere f (start ∷ starts) global s d none =
    rw (none 0 (omega arith)) (found_nowhere f starts global s d (λ j l. none (suc j) (omega arith)))

pub rises : (rows : List RangeRow) (starts : List Start) → AreStarts rows starts → (o : RangeRow) → IsNonDecreasingBy (λ s. s.sector) starts
rises rows starts h o i j d le lt =
    elim (cases_lt i j) [
      | inl less ↦
          let ends = h.rising i j d less lt o in
          let first = (h.each i d (omega arith)).first o in
          omega (arith, ends, first)
      | inr ge ↦ let same : i ≡ j = omega arith in rw same (omega arith)
    ]

-- a row that starts among them and covers the sector is the one that is found
pub covered_row : (rows : List RangeRow) (starts : List Start) → AreStarts rows starts → (global row : RangeRow) (st : Start) (k s : ℕ) → k < length starts → st ≡ get_or starts k st → row ≡ get_or rows st.place row → covers row s ≡ true → row_in rows global s ≡ row
covered_row rows starts h global row st k s lt at_k at_place held =
    let f = λ (start : Start). row_from rows row start in
    let is : f (get_or starts k st) ≡ row = ap f (sym at_k) ∙ sym at_place in
    let inside = both_le_lt row.start s (row.start + row.length) held in
    let first : (get_or starts k st).sector ≡ row.start = (h.each k st lt).first row ∙ ap (λ (r : RangeRow). r.start) is in
    let before : (j : ℕ) → j < k → covers (f (get_or starts j st)) s ≡ false =
    λ j l. let ends = h.rising j k st l lt row in not_below (f (get_or starts j st)).start s ((f (get_or starts j st)).start + (f (get_or starts j st)).length) (omega (arith, ends, first, inside.0)) in
    sym (h.same row global s) ∙ found_at f starts global s k st lt before (rw is held) ∙ is

-- what is before a start is before all later ones
pub behind_next : (rows : List RangeRow) (starts : List Start) → AreStarts rows starts → (o : RangeRow) (next : Start) (p s : ℕ) → ((d : Start) → next ≡ get_or starts p d) → s < next.sector → (j : ℕ) (e : Start) → p ≤ j → j < length starts → s < (get_or starts j e).sector
behind_next rows starts h o next p s at lt j e le len =
    let rising = rises rows starts h o p j e le len in
    let is : next.sector ≡ (get_or starts p e).sector = ap (λ (t : Start). t.sector) (at e) in
    omega (arith, rising, is, lt)

-- a sector before all starts is none of theirs
pub gap_first : (rows : List RangeRow) (starts : List Start) → AreStarts rows starts → (global : RangeRow) (d : Start) (s : ℕ) → ((k : ℕ) (e : Start) → k < length starts → s < (get_or starts k e).sector) → row_in rows global s ≡ global
gap_first rows starts h global d s behind =
    let f = λ (start : Start). row_from rows global start in
    sym (h.same global global s) ∙ found_nowhere f starts global s d (λ j l.
    let first = (h.each j d l).first global in
    not_behind (f (get_or starts j d)).start s ((f (get_or starts j d)).start + (f (get_or starts j d)).length) (omega (arith, behind j d l, first)))

-- nor is one between the end of the row that starts last before it and the next start
pub gap_after : (rows : List RangeRow) (starts : List Start) → AreStarts rows starts → (global row : RangeRow) (st : Start) (k sector s : ℕ) → k < length starts → st ≡ get_or starts k st → row ≡ get_or rows st.place row → (get_or starts k st).sector ≤ sector → covers row sector ≡ false → sector ≤ s → ((j : ℕ) (e : Start) → k < j → j < length starts → s < (get_or starts j e).sector) → row_in rows global s ≡ global
gap_after rows starts h global row st k sector s lt at_k at_place begun free le behind =
    let f = λ (start : Start). row_from rows row start in
    let is : f (get_or starts k st) ≡ row = ap f (sym at_k) ∙ sym at_place in
    let first : (get_or starts k st).sector ≡ row.start = (h.each k st lt).first row ∙ ap (λ (r : RangeRow). r.start) is in
    let over : row.start + row.length ≤ sector = ended row.start sector (row.start + row.length) free (omega (arith, first, begun)) in
    sym (h.same row global s) ∙ found_nowhere f starts global s st (λ j l.
    elim (cases_lt j k) [
      | inl less ↦ let ends = h.rising j k st less lt row in not_below (f (get_or starts j st)).start s ((f (get_or starts j st)).start + (f (get_or starts j st)).length) (omega (arith, ends, first, over, le))
      | inr ge ↦ elim (cases_lt k j) [
        | inl more ↦ let own = (h.each j st l).first row in not_behind (f (get_or starts j st)).start s ((f (get_or starts j st)).start + (f (get_or starts j st)).length) (omega (arith, behind j st more l, own))
        | inr no_more ↦
            let same : j ≡ k = omega arith in
            rw same (rw is (not_below row.start s (row.start + row.length) (omega (arith, over, le))))
      ]
    ])
