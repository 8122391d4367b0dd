-- The verdict of the relation is the one that the function gives.
use Rattle.std.proofs.Common.{◌≡◌, ℕ, zero, suc, ◌+◌, ◌≤◌, ◌<◌, Bool, true, false, ◌&&◌, ◌||◌, Option, Some, None, refl, sym, ap, arith, ◌⊎◌, ◌∙◌, inl, inr, if◌then◌else◌}
use Rattle.std.proofs.lemmas.Bool.{cases_lt, cases_Bool}
use Rattle.locking.specs.declared.range.Op.{Op}
use Rattle.locking.specs.declared.range.Op.TheVariants.{Read, Write}
use Rattle.locking.specs.declared.ranges.Verdict.{Verdict}
use Rattle.locking.specs.declared.ranges.Verdict.TheVariants.{Serve, Shadow, Denied}
use Rattle.locking.specs.Range.{RangeRows, is_shadowed}
use Rattle.locking.specs.Verdict.{is_permitted, ArePermitted, AreOpen, AreShadowed, EachSector, IsLeastDenied, IsShadowDenied, IsVerdict, some_shadowed, each_shadowed, first_denied, verdict_at, verdict_inside, verdict_of, shadow_why}

none_denied : (rows : RangeRows) (op : Op) (first count : ℕ) → ArePermitted rows op first (first + count) → first_denied rows op first count ≡ None
none_denied rows op first zero served = refl
none_denied rows op first (suc n) served =
    rw (served first (omega arith) (omega arith)) (none_denied rows op (suc first) n (λ s a b. served s (omega arith) (omega arith)))

least_denied : (rows : RangeRows) (op : Op) (first count sector : ℕ) → IsLeastDenied rows op first count sector → first_denied rows op first count ≡ Some sector
least_denied rows op first zero sector h = absurd (omega (arith, h.from, h.below))
least_denied rows op first (suc n) sector h =
    elim (cases_lt first sector) [
      | inl lt ↦ rw (h.before first (omega arith) lt) (least_denied rows op (suc first) n sector (record { from = omega arith; below = omega (arith, h.below); denied = h.denied; before = λ t a b. h.before t (omega arith) b }))
      | inr le ↦
          let here : sector ≡ first = omega (arith, h.from) in
          let denied : is_permitted rows op first ≡ false = rw here at h.denied in
          rw denied (ap (λ (s : ℕ). Some s) (sym here))
    ]

none_shadowed : (rows : RangeRows) (first count : ℕ) → AreOpen rows first (first + count) → some_shadowed rows first count ≡ false
none_shadowed rows first zero opened = refl
none_shadowed rows first (suc n) opened =
    rw (opened first (omega arith) (omega arith)) (none_shadowed rows (suc first) n (λ s a b. opened s (omega arith) (omega arith)))

one_shadowed : (rows : RangeRows) (first count sector : ℕ) → first ≤ sector → sector < first + count → is_shadowed rows sector ≡ true → some_shadowed rows first count ≡ true
one_shadowed rows first zero sector from below h = absurd (omega arith)
one_shadowed rows first (suc n) sector from below h =
    elim (cases_Bool (is_shadowed rows first)) [
      | inl here ↦ rw here refl
      | inr not_here ↦
          rw not_here (elim (cases_lt first sector) [
            | inl lt ↦ one_shadowed rows (suc first) n sector (omega arith) (omega arith) h
            | inr le ↦
                let same : sector ≡ first = omega arith in
                let is = rw same at h in
                let gone = rw is at not_here in
                cc
          ])
    ]

all_shadowed : (rows : RangeRows) (first count : ℕ) → AreShadowed rows first (first + count) → each_shadowed rows first count ≡ true
all_shadowed rows first zero shadowed = refl
all_shadowed rows first (suc n) shadowed =
    rw (shadowed first (omega arith) (omega arith)) (all_shadowed rows (suc first) n (λ s a b. shadowed s (omega arith) (omega arith)))

all_shadowed-back : (rows : RangeRows) (first count : ℕ) → each_shadowed rows first count ≡ true → (b : Bool) → b ≡ is_shadowed rows first → AreShadowed rows first (first + count)
all_shadowed-back rows first zero e b here = λ s from below. absurd (omega arith)
all_shadowed-back rows first (suc n) e true here = λ s from below.
    elim (cases_lt first s) [
      | inl lt ↦ all_shadowed-back rows (suc first) n (rw (sym here) at e) (is_shadowed rows (suc first)) refl s (omega arith) (omega arith)
      | inr le ↦ let same : first ≡ s = omega arith in rw same at (sym here)
    ]
all_shadowed-back rows first (suc n) e false here = let gone = rw (sym here) at e in cc

denied_inside : (rows : RangeRows) (op : Op) (lba count : ℕ) (wholly : Bool) → wholly ≡ each_shadowed rows lba count → (op ≡ Read → AreShadowed rows lba (lba + count) → ⊥) → verdict_inside op lba count wholly ≡ Denied (shadow_why op lba count)
denied_inside rows Read lba count true is none = absurd (none refl (all_shadowed-back rows lba count (sym is) (is_shadowed rows lba) refl))
denied_inside rows Read lba count false is none = refl
denied_inside rows Write lba count wholly is none = refl

-- no other verdict is right
pub is_verdict_of : (rows : RangeRows) (op : Op) (lba count : ℕ) (verdict : Verdict) → 0 < count → IsVerdict rows op lba count verdict → verdict ≡ verdict_of rows op lba count
unfolding verdict_of
is_verdict_of rows op lba count Serve some h =
    rw (none_shadowed rows lba count h.0) (rw (none_denied rows op lba count h.1) refl)
is_verdict_of rows op lba count Shadow some h =
    let touched : some_shadowed rows lba count ≡ true = one_shadowed rows lba count lba (omega arith) (omega arith) (h.1 lba (omega arith) (omega arith)) in
    rw (touched, all_shadowed rows lba count h.1, h.0) refl
is_verdict_of rows op lba count (Denied why) some (inl h) =
    rw (one_shadowed rows lba count h.0.sector h.0.from h.0.below h.0.shadowed)
    (ap (λ d. Denied d) h.1 ∙ sym (denied_inside rows op lba count (each_shadowed rows lba count) refl h.0.no_read_inside))
is_verdict_of rows op lba count (Denied why) some (inr h) =
    rw (none_shadowed rows lba count h.0) (rw (least_denied rows op lba count h.1.0 h.1.1) (ap (λ d. Denied d) h.1.2))

none_denied-back : (rows : RangeRows) (op : Op) (first count : ℕ) → first_denied rows op first count ≡ None → (b : Bool) → b ≡ is_permitted rows op first → (s : ℕ) → first ≤ s → s < first + count → is_permitted rows op s ≡ true
none_denied-back rows op first zero e b here s from below = absurd (omega arith)
none_denied-back rows op first (suc n) e true here s from below =
    elim (cases_lt first s) [
      | inl lt ↦ none_denied-back rows op (suc first) n (rw (sym here) at e) (is_permitted rows op (suc first)) refl s (omega arith) (omega arith)
      | inr le ↦ let same : first ≡ s = omega arith in rw same at (sym here)
    ]
none_denied-back rows op first (suc n) e false here s from below = let gone = rw (sym here) at e in cc

none_shadowed-back : (rows : RangeRows) (first count : ℕ) → some_shadowed rows first count ≡ false → (b : Bool) → b ≡ is_shadowed rows first → AreOpen rows first (first + count)
none_shadowed-back rows first zero e b here = λ s from below. absurd (omega arith)
none_shadowed-back rows first (suc n) e false here = λ s from below.
    elim (cases_lt first s) [
      | inl lt ↦ none_shadowed-back rows (suc first) n (rw (sym here) at e) (is_shadowed rows (suc first)) refl s (omega arith) (omega arith)
      | inr le ↦ let same : first ≡ s = omega arith in rw same at (sym here)
    ]
none_shadowed-back rows first (suc n) e true here = let gone = rw (sym here) at e in cc

verdict_at-serve : (rows : RangeRows) (op : Op) (lba count : ℕ) (found : Option ℕ) → verdict_at rows op lba count found ≡ Serve → found ≡ None
verdict_at-serve rows op lba count None e = refl
verdict_at-serve rows op lba count (Some sector) e = cc

inside-serves : (op : Op) (lba count : ℕ) (wholly : Bool) → verdict_inside op lba count wholly ≡ Serve → ⊥
inside-serves Read lba count true e = cc
inside-serves Read lba count false e = cc
inside-serves Write lba count wholly e = cc

serves : (rows : RangeRows) (op : Op) (lba count : ℕ) (touched : Bool) → touched ≡ some_shadowed rows lba count → (if touched then verdict_inside op lba count (each_shadowed rows lba count) else verdict_at rows op lba count (first_denied rows op lba count)) ≡ Serve → AreOpen rows lba (lba + count) × ArePermitted rows op lba (lba + count)
serves rows op lba count true is e = absurd (inside-serves op lba count (each_shadowed rows lba count) e)
serves rows op lba count false is e = (
  none_shadowed-back rows lba count (sym is) (is_shadowed rows lba) refl,
  none_denied-back rows op lba count (verdict_at-serve rows op lba count (first_denied rows op lba count) e) (is_permitted rows op lba) refl,
)

-- a transfer that is served touches no shadowed sector and is permitted sector by sector, and back
pub served_is_permitted : (rows : RangeRows) (op : Op) (lba count : ℕ) → verdict_of rows op lba count ≡ Serve → AreOpen rows lba (lba + count) × ArePermitted rows op lba (lba + count)
unfolding verdict_of
served_is_permitted rows op lba count e = serves rows op lba count (some_shadowed rows lba count) refl e

pub permitted_is_served : (rows : RangeRows) (op : Op) (lba count : ℕ) → AreOpen rows lba (lba + count) → ArePermitted rows op lba (lba + count) → verdict_of rows op lba count ≡ Serve
unfolding verdict_of
permitted_is_served rows op lba count opened permitted =
    rw (none_shadowed rows lba count opened) (rw (none_denied rows op lba count permitted) refl)

shadowed-back : (rows : RangeRows) (first count : ℕ) → some_shadowed rows first count ≡ true → (b : Bool) → is_shadowed rows first ≡ b → (sector : ℕ) × (first ≤ sector) × (sector < first + count) × (is_shadowed rows sector ≡ true)
shadowed-back rows first zero e b here = absurd cc
shadowed-back rows first (suc n) e true here = (first, omega arith, omega arith, here)
shadowed-back rows first (suc n) e false here =
    let later = shadowed-back rows (suc first) n (rw here at e) (is_shadowed rows (suc first)) refl in
    (later.0, omega (arith, later.1), omega (arith, later.2), later.3)

least-back : (rows : RangeRows) (op : Op) (first n sector : ℕ) → first_denied rows op first n ≡ Some sector → (b : Bool) → is_permitted rows op first ≡ b → IsLeastDenied rows op first n sector
least-back rows op first zero sector e b here = absurd cc
least-back rows op first (suc n) sector e true here =
    let later = least-back rows op (suc first) n sector (rw here at e) (is_permitted rows op (suc first)) refl in
    record {
      from = omega (arith, later.from);
      below = omega (arith, later.below);
      denied = later.denied;
      before = λ t from below.
          elim (cases_lt first t) [
            | inl lt ↦ later.before t (omega arith) below
            | inr le ↦ let same : t ≡ first = omega arith in rw same here
          ];
    }
least-back rows op first (suc n) sector e false here =
    let found : Some first ≡ Some sector = rw here at e in
    let same : first ≡ sector = cc in
    record {
      from = omega (arith, same);
      below = omega (arith, same);
      denied = rw (sym same) here;
      before = λ t from below. absurd (omega (arith, same));
    }

cc_false : false ≡ true → ⊥
cc_false e = absurd cc

writes_nothing : Write ≡ Read → ⊥
writes_nothing e = absurd cc

each_fails : (rows : RangeRows) (lba count : ℕ) → each_shadowed rows lba count ≡ false → AreShadowed rows lba (lba + count) → ⊥
each_fails rows lba count e shadowed = let all = all_shadowed rows lba count shadowed in absurd (cc_false (sym e ∙ all))

is_inside : (rows : RangeRows) (op : Op) (lba count : ℕ) (wholly : Bool) → some_shadowed rows lba count ≡ true → each_shadowed rows lba count ≡ wholly → IsVerdict rows op lba count (verdict_inside op lba count wholly)
is_inside rows Read lba count true some e = (refl, all_shadowed-back rows lba count e (is_shadowed rows lba) refl)
is_inside rows Read lba count false some e =
    let s = shadowed-back rows lba count some (is_shadowed rows lba) refl in
    inl (record { sector = s.0; from = s.1; below = s.2; shadowed = s.3; no_read_inside = λ r all. each_fails rows lba count e all }, refl)
is_inside rows Write lba count wholly some e =
    let s = shadowed-back rows lba count some (is_shadowed rows lba) refl in
    inl (record { sector = s.0; from = s.1; below = s.2; shadowed = s.3; no_read_inside = λ r all. writes_nothing r }, refl)

is_by_ranges : (rows : RangeRows) (op : Op) (lba count : ℕ) (found : Option ℕ) → AreOpen rows lba (lba + count) → first_denied rows op lba count ≡ found → IsVerdict rows op lba count (verdict_at rows op lba count found)
is_by_ranges rows op lba count None opened e = (opened, none_denied-back rows op lba count e (is_permitted rows op lba) refl)
is_by_ranges rows op lba count (Some sector) opened e =
    inr (opened, (sector, least-back rows op lba count sector e (is_permitted rows op lba) refl, refl))

is_one : (rows : RangeRows) (op : Op) (lba count : ℕ) (touched : Bool) → some_shadowed rows lba count ≡ touched → IsVerdict rows op lba count (if touched then verdict_inside op lba count (each_shadowed rows lba count) else verdict_at rows op lba count (first_denied rows op lba count))
is_one rows op lba count true e = is_inside rows op lba count (each_shadowed rows lba count) e refl
is_one rows op lba count false e =
    is_by_ranges rows op lba count (first_denied rows op lba count) (none_shadowed-back rows lba count e (is_shadowed rows lba) refl) refl

-- the verdict of the function is one of the relation
pub verdict_is : (rows : RangeRows) (op : Op) (lba count : ℕ) → IsVerdict rows op lba count (verdict_of rows op lba count)
unfolding verdict_of
verdict_is rows op lba count = is_one rows op lba count (some_shadowed rows lba count) refl

-- a read that gives the shadow's bytes has a shadowed sector
ranges-shadow : (rows : RangeRows) (op : Op) (lba count : ℕ) (found : Option ℕ) → verdict_at rows op lba count found ≡ Shadow → ⊥
ranges-shadow rows op lba count None e = absurd cc
ranges-shadow rows op lba count (Some sector) e = absurd cc

touched-inside : (rows : RangeRows) (op : Op) (lba count : ℕ) (touched : Bool) → some_shadowed rows lba count ≡ touched → (if touched then verdict_inside op lba count (each_shadowed rows lba count) else verdict_at rows op lba count (first_denied rows op lba count)) ≡ Shadow → some_shadowed rows lba count ≡ true
touched-inside rows op lba count true is e = is
touched-inside rows op lba count false is e = absurd (ranges-shadow rows op lba count (first_denied rows op lba count) e)

pub shadow_has_sector : (rows : RangeRows) (op : Op) (lba count : ℕ) → verdict_of rows op lba count ≡ Shadow → (sector : ℕ) × (lba ≤ sector) × (sector < lba + count) × (is_shadowed rows sector ≡ true)
unfolding verdict_of
shadow_has_sector rows op lba count e =
    shadowed-back rows lba count (touched-inside rows op lba count (some_shadowed rows lba count) refl e) (is_shadowed rows lba) refl
