-- A start that is put in its place leaves what starts are.
use Rattle.std.proofs.Common.{◌≡◌, ℕ, zero, suc, ◌+◌, ◌-◌, ◌≤◌, ◌<◌, Bool, true, false, List, [], ◌∷◌, ◌++◌, length, map, get_or, take, drop, refl, sym, ap, ◌∙◌, arith, inl, inr, if◌then◌else◌}
use Rattle.std.proofs.lemmas.Bool.{cases_Bool, cases_lt}
use Rattle.std.proofs.lemmas.List.{get_or_append_left}
use Rattle.std.proofs.lemmas.List.Elements.{All-cons, All-append, All-take, All-drop}
use Rattle.std.proofs.lemmas.List.Edits.{length-insert, get_or-insert_below, get_or-insert_at, get_or-insert_above}
use Rattle.std.proofs.Math.Seq.{get_or-append_seam}
use Rattle.std.specs.List.{All, AllPairs, insert}
use Rattle.sp_cells.specs.Ranges.{meets}
use Rattle.locking.specs.declared.range.RangeRow.{RangeRow}
use Rattle.locking.specs.declared.numbered.Start.{Start}
use Rattle.locking.specs.Range.{covers, row_in}
use Rattle.locking.specs.Starts.{row_from, IsStartOf, EndsBefore, AreStarts, AddsStart}
use Rattle.locking.proofs.Searches.{apart_order, apart_covers, found_nowhere}

-- rows that are added behind leave those that were there
row_from-push : (rows : List RangeRow) (row o : RangeRow) (st : Start) → st.place < length rows → row_from (rows ++ row ∷ []) o st ≡ row_from rows o st
row_from-push rows row o st lt = get_or_append_left rows (row ∷ []) o st.place lt

row_from-last : (rows : List RangeRow) (row o : RangeRow) (st : Start) → st.place ≡ length rows → row_from (rows ++ row ∷ []) o st ≡ row
row_from-last rows row o st e = ap (λ (n : ℕ). get_or (rows ++ row ∷ []) n o) e ∙ get_or-append_seam rows row [] o

length-push : (rows : List RangeRow) (row : RangeRow) → length (rows ++ row ∷ []) ≡ length rows + 1
length-push [] row = refl
length-push (r ∷ rows) row = ap (λ (n : ℕ). suc n) (length-push rows row) ∙ omega arith

start-push : (rows : List RangeRow) (row : RangeRow) (st : Start) → IsStartOf rows st → IsStartOf (rows ++ row ∷ []) st
start-push rows row st h = record {
  inside = omega (arith, h.inside, length-push rows row);
  first = λ o. h.first o ∙ ap (λ (r : RangeRow). r.start) (sym (row_from-push rows row o st h.inside));
  some = λ o. rw (row_from-push rows row o st h.inside) (h.some o);
}

all-tail : (rows : List RangeRow) (st : Start) (starts : List Start) → All (IsStartOf rows) (st ∷ starts) → All (IsStartOf rows) starts
all-tail rows st starts h k d lt = h (suc k) d (omega arith)

map-push : (rows : List RangeRow) (row o : RangeRow) (starts : List Start) → All (IsStartOf rows) starts → map (row_from (rows ++ row ∷ []) o) starts ≡ map (row_from rows o) starts
map-push rows row o [] h = refl
map-push rows row o (st ∷ starts) h =
    rw (row_from-push rows row o st (h 0 st (omega arith)).inside) (ap (λ (rs : List RangeRow). row_from rows o st ∷ rs) (map-push rows row o starts (all-tail rows st starts h)))

-- a search behind an insertion, and behind a push
row_in-insert : (f : Start → RangeRow) (starts : List Start) (p : ℕ) (st : Start) (global : RangeRow) (s : ℕ) → p ≤ length starts → (covers (f st) s ≡ true → (j : ℕ) → j < length starts → covers (f (get_or starts j st)) s ≡ false) → row_in (map f (insert starts p st)) global s ≡ row_in (map f starts) (if covers (f st) s then f st else global) s
row_in-insert f [] zero st global s le alone = refl
row_in-insert f [] (suc p) st global s le alone = absurd (omega arith)
row_in-insert f (x ∷ starts) zero st global s le alone =
    elim (cases_Bool (covers (f st) s)) [
      | inl held ↦ rw held (sym (found_nowhere f (x ∷ starts) (f st) s st (alone held)))
      | inr free ↦ rw free refl
    ]
row_in-insert f (x ∷ starts) (suc p) st global s le alone =
    elim (cases_Bool (covers (f x) s)) [
      | inl held ↦ rw held refl
      | inr free ↦ rw free (row_in-insert f starts p st global s (omega arith) (λ held j lt. alone held (suc j) (omega arith)))
    ]

row_in-push : (rows : List RangeRow) (row global : RangeRow) (s : ℕ) → row_in (rows ++ row ∷ []) global s ≡ row_in rows (if covers row s then row else global) s
row_in-push [] row global s = refl
row_in-push (r ∷ rows) row global s =
    elim (cases_Bool (covers r s)) [
      | inl held ↦ rw held refl
      | inr free ↦ rw free (row_in-push rows row global s)
    ]

-- what stands at a place before the end, and at a later one
first_place : {X : Type 0} (R : X → X → Type 0) (xs : List X) (p : ℕ) (y d : X) (i m : ℕ) → p ≤ length xs → i < suc m → p ≤ m → m < length xs → AllPairs R xs → ((k : ℕ) (d : X) → k < p → R (get_or xs k d) y) → ((k : ℕ) (d : X) → p ≤ k → k < length xs → R y (get_or xs k d)) → R (get_or (insert xs p y) i d) (get_or xs m d)
first_place R xs p y d zero m le lt above len pairs before behind =
    elim (cases_lt 0 p) [
      | inl below ↦ rw (get_or-insert_below xs p y d 0 below le) (pairs 0 m d (omega arith) len)
      | inr none ↦
          let at : 0 ≡ p = omega arith in
          let is : get_or (insert xs p y) 0 d ≡ y = ap (λ (n : ℕ). get_or (insert xs p y) n d) at ∙ get_or-insert_at xs p y d le in
          rw is (behind m d above len)
    ]
first_place R xs p y d (suc i) m le lt above len pairs before behind =
    elim (cases_lt (suc i) p) [
      | inl below ↦ rw (get_or-insert_below xs p y d (suc i) below le) (pairs (suc i) m d (omega arith) len)
      | inr not_below ↦ elim (cases_lt i p) [
        | inl at ↦
            let here : suc i ≡ p = omega arith in
            let is : get_or (insert xs p y) (suc i) d ≡ y = ap (λ (n : ℕ). get_or (insert xs p y) n d) here ∙ get_or-insert_at xs p y d le in
            rw is (behind m d above len)
        | inr over ↦
            let up : suc i ≡ i + 1 = omega arith in
            let is : get_or (insert xs p y) (suc i) d ≡ get_or xs i d = ap (λ (n : ℕ). get_or (insert xs p y) n d) up ∙ get_or-insert_above xs p y d i over le in
            rw is (pairs i m d (omega arith) len)
      ]
    ]

-- R of each element and each later one, when one more is put in its place
all_pairs-insert : {X : Type 0} (R : X → X → Type 0) (xs : List X) (p : ℕ) (y : X) → p ≤ length xs → AllPairs R xs → ((k : ℕ) (d : X) → k < p → R (get_or xs k d) y) → ((k : ℕ) (d : X) → p ≤ k → k < length xs → R y (get_or xs k d)) → AllPairs R (insert xs p y)
all_pairs-insert R xs p y le pairs before behind i zero d lt len = absurd (omega arith)
all_pairs-insert R xs p y le pairs before behind i (suc m) d lt len =
    let longer = length-insert xs p y le in
    elim (cases_lt (suc m) p) [
      | inl below ↦
          rw (get_or-insert_below xs p y d i (omega arith) le, get_or-insert_below xs p y d (suc m) below le)
          (pairs i (suc m) d lt (omega arith))
      | inr not_below ↦ elim (cases_lt m p) [
        | inl at ↦
            let here : suc m ≡ p = omega arith in
            let i_below : i < p = omega arith in
            let is : get_or (insert xs p y) (suc m) d ≡ y = ap (λ (n : ℕ). get_or (insert xs p y) n d) here ∙ get_or-insert_at xs p y d le in
            rw (get_or-insert_below xs p y d i i_below le, is) (before i d i_below)
        | inr above ↦
            let up : suc m ≡ m + 1 = omega arith in
            let is : get_or (insert xs p y) (suc m) d ≡ get_or xs m d = ap (λ (n : ℕ). get_or (insert xs p y) n d) up ∙ get_or-insert_above xs p y d m above le in
            rw is (first_place R xs p y d i m le lt above (omega (arith, longer)) pairs before behind)
      ]
    ]

own-start : (rows : List RangeRow) (row : RangeRow) (st : Start) → st.sector ≡ row.start → st.place ≡ length rows → 0 < row.length → IsStartOf (rows ++ row ∷ []) st
own-start rows row st sector place some = record {
  inside = omega (arith, place, length-push rows row);
  first = λ o. sector ∙ ap (λ (r : RangeRow). r.start) (sym (row_from-last rows row o st place));
  some = λ o. rw (row_from-last rows row o st place) some;
}

-- a row among them is apart from the new one
apart-from : (rows : List RangeRow) (row o : RangeRow) (st : Start) → IsStartOf rows st → All (λ other. meets other.start other.length row.start row.length ≡ false) rows → meets (row_from rows o st).start (row_from rows o st).length row.start row.length ≡ false
apart-from rows row o st own apart = apart st.place o own.inside

ends-before : (rows : List RangeRow) (row : RangeRow) (earlier st : Start) → IsStartOf rows earlier → st.sector ≡ row.start → 0 < row.length → All (λ other. meets other.start other.length row.start row.length ≡ false) rows → earlier.sector ≤ row.start → (o : RangeRow) → (row_from rows o earlier).start + (row_from rows o earlier).length ≤ st.sector
ends-before rows row earlier st own sector some apart le o =
    let first = own.first o in
    elim (apart_order (row_from rows o earlier).start (row_from rows o earlier).length row.start row.length (apart-from rows row o earlier own apart) (own.some o) some) [
      | inl before ↦ omega (arith, before, sector)
      | inr behind ↦ absurd (omega (arith, behind, first, le, some))
    ]

starts-behind : (rows : List RangeRow) (row : RangeRow) (later : Start) → IsStartOf rows later → 0 < row.length → All (λ other. meets other.start other.length row.start row.length ≡ false) rows → row.start < later.sector → (o : RangeRow) → row.start + row.length ≤ later.sector
starts-behind rows row later own some apart lt o =
    let first = own.first o in
    let other = own.some o in
    elim (apart_order (row_from rows o later).start (row_from rows o later).length row.start row.length (apart-from rows row o later own apart) other some) [
      | inl before ↦ absurd (omega (arith, before, first, lt, other))
      | inr behind ↦ omega (arith, behind, first)
    ]

-- where the new one covers a sector none of them does
alone : (rows : List RangeRow) (starts : List Start) (row o : RangeRow) (d : Start) → AreStarts rows starts → All (λ other. meets other.start other.length row.start row.length ≡ false) rows → (s : ℕ) → covers row s ≡ true → (j : ℕ) → j < length starts → covers (row_from (rows ++ row ∷ []) o (get_or starts j d)) s ≡ false
alone rows starts row o d h apart s held j lt =
    let own = h.each j d lt in
    rw (row_from-push rows row o (get_or starts j d) own.inside)
    (apart_covers (row_from rows o (get_or starts j d)) row s (apart-from rows row o (get_or starts j d) own apart) held)

covers-empty : (row : RangeRow) (s : ℕ) → row.length ≡ 0 → covers row s ≡ false
covers-empty row s empty = grind (arith, empty)

uncovered : (row global : RangeRow) (s : ℕ) (rows : List RangeRow) → row.length ≡ 0 → row_in rows (if covers row s then row else global) s ≡ row_in rows global s
uncovered row global s rows empty = rw (covers-empty row s empty) refl

-- a row without sectors has no start
pub skipped : (rows : List RangeRow) (starts : List Start) (row : RangeRow) → row.length ≡ 0 → AreStarts rows starts → AreStarts (rows ++ row ∷ []) starts
skipped rows starts row empty h = record {
  few = omega (arith, h.few, length-push rows row);
  each = λ k d lt. start-push rows row (get_or starts k d) (h.each k d lt);
  rising = λ i j d lt len o. rw (row_from-push rows row o (get_or starts i d) (h.each i d (omega arith)).inside) (h.rising i j d lt len o);
  same = λ o global s. ap (λ (rs : List RangeRow). row_in rs global s) (map-push rows row o starts h.each) ∙ h.same o global s ∙ sym (row_in-push rows row global s ∙ uncovered row global s rows empty);
}

-- one with sectors gets a start, put behind those that begin before it
pub pushed : (rows : List RangeRow) (starts : List Start) (row : RangeRow) (p : ℕ) (st : Start) → st.sector ≡ row.start → st.place ≡ length rows → 0 < row.length → AreStarts rows starts → p ≤ length starts → ((k : ℕ) (d : Start) → k < p → (get_or starts k d).sector ≤ row.start) → ((k : ℕ) (d : Start) → p ≤ k → k < length starts → row.start < (get_or starts k d).sector) → All (λ other. meets other.start other.length row.start row.length ≡ false) rows → AreStarts (rows ++ row ∷ []) (insert starts p st)
pushed rows starts row p st sector place some h le before behind apart = record {
  few = omega (arith, h.few, length-push rows row, length-insert starts p st le);
  each =
      let P = λ (s : Start). IsStartOf (rows ++ row ∷ []) s in
      let old : All P starts = λ k d lt. start-push rows row (get_or starts k d) (h.each k d lt) in
      All-append P (take p starts) (st ∷ drop p starts) (All-take P p starts old) (All-cons P st (drop p starts) (own-start rows row st sector place some) (All-drop P p starts old));
  rising = all_pairs-insert (EndsBefore (rows ++ row ∷ [])) starts p st le
      (λ i j d lt len o. rw (row_from-push rows row o (get_or starts i d) (h.each i d (omega arith)).inside) (h.rising i j d lt len o))
      (λ k d lt o.
      let own = h.each k d (omega arith) in
      rw (row_from-push rows row o (get_or starts k d) own.inside)
      (ends-before rows row (get_or starts k d) st own sector some apart (before k d lt) o))
      (λ k d at lt o.
      let own = h.each k d lt in
      rw (row_from-last rows row o st place) (starts-behind rows row (get_or starts k d) own some apart (behind k d at lt) o));
  same = λ o global s.
      let f = λ (t : Start). row_from (rows ++ row ∷ []) o t in
      let own : f st ≡ row = row_from-last rows row o st place in
      row_in-insert f starts p st global s le (λ held j lt. alone rows starts row o st h apart s (rw own at held) j lt)
      ∙ ap (λ (r : RangeRow). row_in (map f starts) (if covers r s then r else global) s) own
      ∙ ap (λ (rs : List RangeRow). row_in rs (if covers row s then row else global) s) (map-push rows row o starts h.each)
      ∙ h.same o (if covers row s then row else global) s
      ∙ sym (row_in-push rows row global s);
}

-- the same, where the starts after it are told
pub added : (rows : List RangeRow) (starts more : List Start) (row : RangeRow) (st : Start) → st.sector ≡ row.start → st.place ≡ length rows → 0 < row.length → AreStarts rows starts → AddsStart starts more st → All (λ other. meets other.start other.length row.start row.length ≡ false) rows → AreStarts (rows ++ row ∷ []) more
added rows starts more row st sector place some h a apart =
    rw a.added (pushed rows starts row a.index st sector place some h a.within
    (λ k d lt. omega (arith, a.before k d lt, sector)) (λ k d at lt. omega (arith, a.behind k d at lt, sector)) apart)
