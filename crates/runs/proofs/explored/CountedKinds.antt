-- A kind that a part has found, by its place among those before it.
use Rattle.std.proofs.Common.{◌≡◌, ℕ, suc, ◌<◌, ◌≤◌, ◌+◌, Bool, true, false, not, List, [], ◌∷◌, ◌++◌, cond, length, set, get_or, refl, sym, ap, ap₂, ◌∙◌, ◌%◌, ◌^◌, arith}
use Rattle.std.specs.List.{prefix_len}
use Rattle.std.specs.Str.{bytes_eq}
use Rattle.runs.specs.Merges.{with_counted}
use Rattle.runs.specs.declared.explored.kinds.Kind.{Kind}

abbrev place : List Kind → List ℕ → ℕ
place kinds text = prefix_len (λ kind. not (bytes_eq kind.text text)) kinds

abbrev counted : Kind → Kind → Kind
counted kind more = record { text = kind.text; times = (kind.times + more.times) % 2 ^ 64; list = kind.list }

-- one that is among them is counted there
pub again : (kinds : List Kind) (more d : Kind) → place kinds more.text < length kinds
    → with_counted kinds more ≡ set kinds (place kinds more.text) (counted (get_or kinds (place kinds more.text) d) more)
again [] more d within = absurd (omega (arith, within))
again (kind ∷ kinds) more d within = at (bytes_eq kind.text more.text) (again kinds more d) within
  where
    at : (t : Bool) → (place kinds more.text < length kinds → with_counted kinds more ≡ set kinds (place kinds more.text) (counted (get_or kinds (place kinds more.text) d) more))
        → cond (not t) (1 + place kinds more.text) 0 < suc (length kinds)
        → cond t (counted kind more ∷ kinds) (kind ∷ with_counted kinds more)
        ≡ set (kind ∷ kinds) (cond (not t) (1 + place kinds more.text) 0) (counted (get_or (kind ∷ kinds) (cond (not t) (1 + place kinds more.text) 0) d) more)
    at true behind within = refl
    at false behind within =
        let one : 1 + place kinds more.text ≡ suc (place kinds more.text) = omega arith in
        ap (λ ks. kind ∷ ks) (behind (omega (arith, within)))
        ∙ sym (ap (λ n. set (kind ∷ kinds) n (counted (get_or (kind ∷ kinds) n d) more)) one)

-- one that is not stands behind them
pub new : (kinds : List Kind) (more : Kind) → length kinds ≤ place kinds more.text → with_counted kinds more ≡ kinds ++ more ∷ []
new [] more beyond = refl
new (kind ∷ kinds) more beyond = at (bytes_eq kind.text more.text) (new kinds more) beyond
  where
    at : (t : Bool) → (length kinds ≤ place kinds more.text → with_counted kinds more ≡ kinds ++ more ∷ [])
        → suc (length kinds) ≤ cond (not t) (1 + place kinds more.text) 0
        → cond t (counted kind more ∷ kinds) (kind ∷ with_counted kinds more) ≡ kind ∷ (kinds ++ more ∷ [])
    at true behind beyond = absurd (omega (arith, beyond))
    at false behind beyond = ap (λ ks. kind ∷ ks) (behind (omega (arith, beyond)))

-- the same by what is read at the place and written there
pub again_at : (kinds inside : List Kind) (more : Kind) (p : ℕ) (got had : Kind) → inside ≡ kinds
    → p ≡ place inside more.text → p < length inside → got ≡ get_or inside p got → had ≡ get_or inside p got
    → set inside p (record { text = had.text; times = (got.times + more.times) % 2 ^ 64; list = had.list }) ≡ with_counted kinds more
again_at kinds inside more p got had view is within got_is had_is =
    let at_place : place inside more.text < length inside = omega (arith, is, within) in
    ap₂ (λ (a : Kind) (b : Kind). set inside p (record { text = a.text; times = (b.times + more.times) % 2 ^ 64; list = a.list })) had_is got_is
    ∙ ap (λ n. set inside n (counted (get_or inside n got) more)) is
    ∙ sym (again inside more got at_place)
    ∙ ap (λ ks. with_counted ks more) view

pub new_at : (kinds inside : List Kind) (more : Kind) (p size : ℕ) (now : List Kind) → inside ≡ kinds
    → p ≡ place inside more.text → size ≡ length inside → size ≤ p
    → now ≡ inside ++ more ∷ [] → now ≡ with_counted kinds more
new_at kinds inside more p size now view is is_size beyond is_now =
    is_now
    ∙ sym (new inside more (omega (arith, is, is_size, beyond)))
    ∙ ap (λ ks. with_counted ks more) view
