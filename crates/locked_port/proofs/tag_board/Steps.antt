-- Each step keeps the rule.
use Rattle.std.proofs.Common.{◌≡◌, ◌⊎◌, ℕ, ◌+◌, ◌^◌, ◌<◌, ◌≤◌, ◌==◌, List, [], ◌∷◌, set, bit_and, bit_or, if◌then◌else◌, refl, sym, ap, ◌∙◌, inl, inr, subst, arith}
use Rattle.std.specs.Prelude.{slice_index}
use Rattle.std.specs.Int.{bit_at}
use Rattle.std.proofs.lemmas.Nat.{or_lt, and_le_l, pow_below}
use Rattle.std.proofs.lemmas.Nat.Bits.{bit_at-lt, bit_at-zero, bit_at_above, bit_at_or}
use mathlib.Core.Option.{Option, none, some}
use mathlib.Core.Logic.{dite}
use native.Mathlib.Decide.{ℕ_discrete}
use lib.ListN.{get_elem?}
use Rattle.atomic_table.specs.Table.{Me, Act, keeps, step, stepped, Valid, Allows, Splits, Joins, carried_after}
use Rattle.atomic_table.proofs.Lists.{set_else}
use Rattle.locked_port.specs.declared.tag_board.plays.View.{View}
use Rattle.locked_port.specs.Rule.{view_of, new_view, holding_bit, meeting, sum_over, Kept, tried_at, Claimed, Freed, joined, ToldApart}
use Rattle.locked_port.proofs.tag_board.Bits.{bit_cases, no_meeting, or_same, or_other, keep, keep_same, keep_other}
use Rattle.locked_port.proofs.tag_board.Sums.{sum_set, sum_at, sum_snoc}

free : (word v k j : ℕ) → bit_at word k ≡ 0 → bit_at v k ≤ bit_at word k → bit_at (bit_or v (2 ^ k)) j + bit_at word j ≡ bit_at v j + bit_at (bit_or word (2 ^ k)) j
free word v k j e le =
    dite (ℕ_discrete j k)
    (λ (is : j ≡ k). rw is (let a = or_same v k in let b = or_same word k in sums (bit_at v k) (bit_at word k) _ _ a b e le))
    (λ ne. let a = or_other v k j ne in let b = or_other word k j ne in ap (λ x. x + bit_at word j) a ∙ sym (ap (λ x. bit_at v j + x) b))
  where
    sums : (v w x y : ℕ) → x ≡ 1 → y ≡ 1 → w ≡ 0 → v ≤ w → x + w ≡ v + y
    sums v w x y a b e le = omega arith

taken : (word v k j : ℕ) → bit_at word k ≡ 1 → bit_at v j + bit_at word j ≡ bit_at v j + bit_at (bit_or word (2 ^ k)) j
taken word v k j e = ap (λ x. bit_at v j + x) same
  where
    same : bit_at word j ≡ bit_at (bit_or word (2 ^ k)) j
    same = dite (ℕ_discrete j k) (λ (is : j ≡ k). rw is (e ∙ sym (or_same word k))) (λ ne. sym (or_other word k j ne))

claimed_bits : (word v k j b : ℕ) → bit_at word k ≡ b → (b ≡ 0) ⊎ (b ≡ 1) → bit_at v k ≤ bit_at word k
    → bit_at (if (b == 1) then v else bit_or v (2 ^ k)) j + bit_at word j ≡ bit_at v j + bit_at (bit_or word (2 ^ k)) j
claimed_bits word v k j b e (inl z) le = rw z (free word v k j (e ∙ z) le)
claimed_bits word v k j b e (inr z) le = rw z (taken word v k j (e ∙ z))

-- a view changes, and keeps its halves
meets_same : (views : List View) (id : ℕ) (v w : View) → get_elem? views id ≡ some v → ((j : ℕ) → meeting j w ≡ meeting j v)
    → ((j : ℕ) → sum_over (meeting j) views ≡ 0) → (j : ℕ) → sum_over (meeting j) (set views id w) ≡ 0
meets_same views id v w at same apart j =
    let s = sum_set (meeting j) views id v w at in
    let e = same j in
    let t = apart j in
    omega arith

claims_on : (homes : List (Option (Unit {0}))) (views : List View) (slots id word k : ℕ) (me : Me (Unit {0}) View)
    → word < 2 ^ 32 → ((j : ℕ) → sum_over (holding_bit j) views ≡ bit_at word j) → ((j : ℕ) → sum_over (meeting j) views ≡ 0) → k < 32 → get_elem? views id ≡ some me.0
    → (w : View) × (a : Act (Unit {0})) × Valid homes me.1 a
    × Kept (stepped record { words = word ∷ []; homes = homes; views = views } 0 (bit_or word (2 ^ k)) id me.1 w a)
    × Claimed (step slots 0 (2 ^ k) 0 none) me word (w, carried_after me.1 a)
claims_on homes views slots id word k me small sums apart lt at =
    let v : View = me.0 in
    let w : View = tried_at k (bit_at word k == 1) v in
    let le : (j : ℕ) → bit_at v.held j ≤ bit_at word j = λ j. let a = sum_at (holding_bit j) views id v at in let b = sums j in omega arith in (
      w,
      keeps,
      tt,
      (
        bit_or word (2 ^ k),
        refl,
        or_lt 32 word (2 ^ k) small (pow_below k 32 lt),
        λ j.
            let s = sum_set (holding_bit j) views id v w at in
            let t = sums j in
            let c = claimed_bits word v.held k j (bit_at word k) refl (bit_cases word k) (le k) in
            omega arith,
        meets_same views id v w at (λ j. refl) apart,
      ),
      (k, refl, refl, refl, λ z. let l = le k in omega arith),
    )

pub claims : (slots id k : ℕ) (me : Me (Unit {0}) View) → k < 32 → Allows Kept slots id me 0 (λ n. bit_or n (2 ^ k)) (Claimed (step slots 0 (2 ^ k) 0 none) me)
claims slots id k me lt s h len at fits =
    let P : List ℕ → Type 0 = λ ws. (w : View) × (a : Act (Unit {0})) × Valid s.homes me.1 a
    × Kept (stepped record { words = ws; homes = s.homes; views = s.views } 0 (bit_or (slice_index ws 0) (2 ^ k)) id me.1 w a)
    × Claimed (step slots 0 (2 ^ k) 0 none) me (slice_index ws 0) (w, carried_after me.1 a) in
    subst P (sym h.1) (claims_on s.homes s.views slots id h.0 k me h.2 h.3 h.4 lt at)

freed_bits : (word v k j : ℕ) → word < 2 ^ 32 → k < 32 → bit_at v k ≡ 1 → ((i : ℕ) → bit_at v i ≤ bit_at word i)
    → bit_at (bit_and v (keep k)) j + bit_at word j ≡ bit_at v j + bit_at (bit_and word (keep k)) j
freed_bits word v k j small lt has le =
    dite (ℕ_discrete j k)
    (λ (is : j ≡ k). rw is (let a = keep_same v k (omega arith) in let b = keep_same word k (omega arith) in at (bit_at v k) (bit_at word k) _ _ a b has (le k) (bit_at-lt word k)))
    (λ ne. let a = keep_other v k j (omega arith) (λ h. let z = high h in let l = le j in zero_below (bit_at v j) (bit_at word j) l z) ne in
    let b = keep_other word k j (omega arith) high ne in
    ap (λ x. x + bit_at word j) a ∙ sym (ap (λ x. bit_at v j + x) b))
  where
    at : (v w x y : ℕ) → x ≡ 0 → y ≡ 0 → v ≡ 1 → v ≤ w → w < 2 → x + w ≡ v + y
    at v w x y a b has le l = omega arith

    zero_below : (v w : ℕ) → v ≤ w → w ≡ 0 → v ≡ 0
    zero_below v w l e = omega arith

    high : 64 ≤ j → bit_at word j ≡ 0
    high h = bit_at_above word 32 j small (omega arith)

frees_on : (homes : List (Option (Unit {0}))) (views : List View) (slots id word k : ℕ) (me : Me (Unit {0}) View)
    → word < 2 ^ 32 → ((j : ℕ) → sum_over (holding_bit j) views ≡ bit_at word j) → ((j : ℕ) → sum_over (meeting j) views ≡ 0) → k < 32 → bit_at me.0.held k ≡ 1 → get_elem? views id ≡ some me.0
    → (w : View) × (a : Act (Unit {0})) × Valid homes me.1 a
    × Kept (stepped record { words = word ∷ []; homes = homes; views = views } 0 (bit_and word (keep k)) id me.1 w a)
    × Freed (step slots 0 (keep k) 0 none) me word (w, carried_after me.1 a)
frees_on homes views slots id word k me small sums apart lt has at =
    let v : View = me.0 in
    let w : View = view_of (bit_and v.held (keep k)) v.tried v.halves in
    let le : (j : ℕ) → bit_at v.held j ≤ bit_at word j = λ j. let a = sum_at (holding_bit j) views id v at in let b = sums j in omega arith in (
      w,
      keeps,
      tt,
      (
        bit_and word (keep k),
        refl,
        (let l = and_le_l word (keep k) in omega arith),
        λ j.
            let s = sum_set (holding_bit j) views id v w at in
            let t = sums j in
            let c = freed_bits word v.held k j small lt has le in
            omega arith,
        meets_same views id v w at (λ j. refl) apart,
      ),
      (refl, refl),
    )

pub frees : (slots id k : ℕ) (me : Me (Unit {0}) View) → k < 32 → bit_at me.0.held k ≡ 1 → Allows Kept slots id me 0 (λ n. bit_and n (keep k)) (Freed (step slots 0 (keep k) 0 none) me)
frees slots id k me lt has s h len at fits =
    let P : List ℕ → Type 0 = λ ws. (w : View) × (a : Act (Unit {0})) × Valid s.homes me.1 a
    × Kept (stepped record { words = ws; homes = s.homes; views = s.views } 0 (bit_and (slice_index ws 0) (keep k)) id me.1 w a)
    × Freed (step slots 0 (keep k) 0 none) me (slice_index ws 0) (w, carried_after me.1 a) in
    subst P (sym h.1) (frees_on s.homes s.views slots id h.0 k me h.2 h.3 h.4 lt has at)

pub splits : (id : ℕ) (v : View) → Splits Kept id v v new_view
splits id v s h at = (
  h.0,
  h.1,
  h.2,
  λ j.
      let a = sum_set (holding_bit j) s.views id v v at in
      let b = sum_snoc (holding_bit j) (set s.views id v) new_view in
      let c = bit_at-zero j in
      let t = h.3 j in
      omega arith,
  λ j.
      let a = meets_same s.views id v v at (λ i. refl) h.4 j in
      let b = sum_snoc (meeting j) (set s.views id v) new_view in
      let c = no_meeting 0 0 j (omega (arith, bit_at-zero j)) in
      omega arith,
)

-- where two views stand, as many seats hold a tag as both of them at least
both_at : (f : View → ℕ) (views : List View) (id other : ℕ) (v w both : View) → ¬ (other ≡ id) → get_elem? views id ≡ some v
    → get_elem? (set views id both) other ≡ some w → f new_view ≡ 0 → f v + f w ≤ sum_over f views
both_at f views id other v w both apart at there none_at =
    let c = sum_set f views id v new_view at in
    let e : get_elem? (set views id new_view) other ≡ some w = set_else views id other new_view apart ∙ sym (set_else views id other both apart) ∙ there in
    let d = sum_at f (set views id new_view) other w e in
    omega arith

pub joins : (id other : ℕ) (v w : View) → Joins Kept id v other w (joined v w) new_view
joins id other v w s h at apart there = (
  h.0,
  h.1,
  h.2,
  λ j.
      let none_at = bit_at-zero j in
      let a = sum_set (holding_bit j) s.views id v (joined v w) at in
      let b = sum_set (holding_bit j) (set s.views id (joined v w)) other w new_view there in
      let t = h.3 j in
      let l = bit_at-lt h.0 j in
      let m = bit_at_or v.held w.held j in
      let d = both_at (holding_bit j) s.views id other v w (joined v w) apart at there none_at in
      omega arith,
  λ j.
      let none_at = bit_at-zero j in
      let t = h.3 j in
      let l = bit_at-lt h.0 j in
      let d = both_at (holding_bit j) s.views id other v w (joined v w) apart at there none_at in
      let none : meeting j new_view ≡ 0 = no_meeting 0 0 j (omega arith) in
      let new : meeting j (joined v w) ≡ 0 = no_meeting v.held w.held j (omega arith) in
      let a = sum_set (meeting j) s.views id v (joined v w) at in
      let b = sum_set (meeting j) (set s.views id (joined v w)) other w new_view there in
      let m = h.4 j in
      omega arith,
)

pub looks : (slots id : ℕ) (me : Me (Unit {0}) View) → Allows Kept slots id me 0 (λ n. n) (ToldApart (step slots 0 0 0 none) me)
looks slots id me s h len at fits =
    let P : List ℕ → Type 0 = λ ws. (w : View) × (a : Act (Unit {0})) × Valid s.homes me.1 a
    × Kept (stepped record { words = ws; homes = s.homes; views = s.views } 0 (slice_index ws 0) id me.1 w a)
    × ToldApart (step slots 0 0 0 none) me (slice_index ws 0) (w, carried_after me.1 a) in
    subst P (sym h.1) (
      me.0,
      keeps,
      tt,
      (
        h.0,
        refl,
        h.2,
        (λ j. let a = sum_set (holding_bit j) s.views id me.0 me.0 at in let t = h.3 j in omega arith),
        meets_same s.views id me.0 me.0 at (λ j. refl) h.4,
      ),
      (refl, refl, λ j. let a = sum_at (meeting j) s.views id me.0 at in let t = h.4 j in omega arith),
    )
