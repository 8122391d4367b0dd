-- What one receipt more marks.
use Rattle.std.proofs.Common.{◌≡◌, ◌≢◌, ℕ, ◌<◌, ◌≤◌, ◌+◌, ◌⊎◌, inl, inr, length, true, false, Bool, List, refl, sym, ◌∙◌, ap, subst, set, get_or, length-set, arith}
use Rattle.std.proofs.lemmas.Bool.{cases_eq, cases_order}
use Rattle.std.proofs.lemmas.List.{get_or_default, get_or-set_same, get_or-set_other}
use Rattle.locked_port.specs.Receipts.{HasOwnNumber, AreThere, AreOnly}
use Rattle.locked_port.specs.declared.ticket.Receipt.{Receipt}

-- the number of a receipt, whatever stands for none
number_at : (xs : List Receipt) (at : ℕ) (d e : Receipt) → at < length xs → (get_or xs at d).number ≡ (get_or xs at e).number
number_at xs at d e lt = ap (λ (r : Receipt). r.number) (get_or_default xs at d e lt)

-- a place is before the last one or the last
before_or_last : (i at : ℕ) → i < at + 1 → (i < at) ⊎ (i ≡ at)
before_or_last i at lt =
    elim (cases_order i at) [
      | inl same ↦ inr same
      | inr (inl before) ↦ inl before
      | inr (inr behind) ↦ absurd (omega (arith, lt, behind))
    ]

-- a receipt that has another number than those of the window
pub there_past : (first at : ℕ) (xs : List Receipt) (d0 : Receipt) (marks : List Bool) → at < length xs
    → ((get_or xs at d0).number ≤ first) ⊎ (first + length marks < (get_or xs at d0).number) → AreThere first xs at marks → AreThere first xs (at + 1) marks
there_past first at xs d0 marks in_xs past there i p d lt within is =
    elim (before_or_last i at lt) [
      | inl before ↦ there i p d before within is
      | inr last ↦ let e : (get_or xs at d).number ≡ first + p + 1 = subst (λ (k : ℕ). (get_or xs k d).number ≡ first + p + 1) last is in
          let f = number_at xs at d d0 in_xs in absurd (omega (arith, past, e, f, within))
    ]

pub only_past : (first at : ℕ) (xs : List Receipt) (marks : List Bool) → AreOnly first xs at marks → AreOnly first xs (at + 1) marks
only_past first at xs marks only p is =
    let o = only p is in
    let lt : o.0 < at = o.2 in
    (o.0, o.1, omega (arith, lt), o.3, o.4)

-- Within a window, no two of the first so many receipts have one number.
abbrev pub AreNew : ℕ → ℕ → List Receipt → ℕ → Type 0
AreNew first size xs many = (j : ℕ) (d : Receipt) → j < many → first < (get_or xs j d).number → (get_or xs j d).number ≤ first + size → HasOwnNumber xs j

pub new_past : (first size at : ℕ) (xs : List Receipt) (d0 : Receipt) → at < length xs
    → ((get_or xs at d0).number ≤ first) ⊎ (first + size < (get_or xs at d0).number) → AreNew first size xs at → AreNew first size xs (at + 1)
new_past first size at xs d0 in_xs past new j d lt above below =
    elim (before_or_last j at lt) [
      | inl before ↦ new j d before above below
      | inr last ↦
          let a : first < (get_or xs at d).number = subst (λ (k : ℕ). first < (get_or xs k d).number) last above in
          let b : (get_or xs at d).number ≤ first + size = subst (λ (k : ℕ). (get_or xs k d).number ≤ first + size) last below in
          let f = number_at xs at d d0 in_xs in
          absurd (omega (arith, past, a, b, f))
    ]

-- a receipt that has the number of a place which was not marked
kept : (old : List Bool) (p place : ℕ) → (p ≡ place → ⊥) → get_or (set old place true) p false ≡ get_or old p false
kept old p place other = get_or-set_other old place p true false other

pub there_more : (first at place : ℕ) (xs : List Receipt) (d0 : Receipt) (old : List Bool) → at < length xs → place < length old
    → (get_or xs at d0).number ≡ first + place + 1 → AreThere first xs at old → AreThere first xs (at + 1) (set old place true)
there_more first at place xs d0 old in_xs in_old at_place there i p d lt within is =
    elim (cases_eq p place) [
      | inl same ↦ subst (λ (k : ℕ). get_or (set old place true) k false ≡ true) (sym same) (get_or-set_same old place true false in_old)
      | inr apart ↦
          let in_it : p < length old = subst (λ (n : ℕ). p < n) (length-set old place true) within in
          kept old p place apart ∙ elim (before_or_last i at lt) [
            | inl before ↦ there i p d before in_it is
            | inr last ↦
                let e : (get_or xs at d).number ≡ first + p + 1 = subst (λ (k : ℕ). (get_or xs k d).number ≡ first + p + 1) last is in
                let f = number_at xs at d d0 in_xs in
                absurd (apart (omega (arith, at_place, e, f)))
          ]
    ]

pub only_more : (first at place : ℕ) (xs : List Receipt) (d0 : Receipt) (old : List Bool) → at < length xs
    → (get_or xs at d0).number ≡ first + place + 1 → AreOnly first xs at old → AreOnly first xs (at + 1) (set old place true)
only_more first at place xs d0 old in_xs at_place only p is =
    elim (cases_eq p place) [
      | inl same ↦ (at, get_or xs at d0, omega arith, get_or_default xs at (get_or xs at d0) d0 in_xs, subst (λ (k : ℕ). (get_or xs at d0).number ≡ first + k + 1) (sym same) at_place)
      | inr apart ↦
          let o = only p (sym (kept old p place apart) ∙ is) in
          let lt : o.0 < at = o.2 in
          (o.0, o.1, omega (arith, lt), o.3, o.4)
    ]

pub new_more : (first at place : ℕ) (xs : List Receipt) (d0 : Receipt) (old : List Bool) → at < length xs → place < length old
    → (get_or xs at d0).number ≡ first + place + 1 → get_or old place false ≡ false → AreThere first xs at old
    → AreNew first (length old) xs at → AreNew first (length old) xs (at + 1)
new_more first at place xs d0 old in_xs in_old at_place unmarked there new j d lt above below =
    elim (before_or_last j at lt) [
      | inl before ↦ new j d before above below
      | inr last ↦ subst (λ (k : ℕ). HasOwnNumber xs k) (sym last) (λ i e before same.
          let f = number_at xs at e d0 in_xs in
          let g : (get_or xs i e).number ≡ first + place + 1 = same ∙ f ∙ at_place in
          let marked = there i place e before in_old g in
          absurd (let clash = sym unmarked ∙ marked in cc))
    ]
