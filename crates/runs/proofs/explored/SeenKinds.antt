-- A kind that was seen, by its place among those before it.
use Rattle.std.proofs.Common.{◌≡◌, ℕ, suc, ◌<◌, ◌≤◌, ◌+◌, Bool, true, false, not, List, [], ◌∷◌, ◌++◌, cond, length, set, get_or, refl, sym, ap, ap₂, ◌∙◌, ◌%◌, ◌^◌, arith}
use Rattle.std.specs.List.{prefix_len}
use Rattle.std.specs.Str.{bytes_eq}
use Rattle.runs.specs.Findings.{with_kind, seen_again, first_seen}
use Rattle.runs.specs.declared.explored.kinds.Kind.{Kind}

abbrev place : List Kind → List ℕ → ℕ
place kinds text = prefix_len (λ kind. not (bytes_eq kind.text text)) kinds

-- one that is among them is seen again
pub again : (kinds : List Kind) (text list : List ℕ) (d : Kind) → place kinds text < length kinds
    → with_kind kinds text list ≡ set kinds (place kinds text) (seen_again (get_or kinds (place kinds text) d))
again [] text list d within = absurd (omega (arith, within))
again (kind ∷ kinds) text list d within = at (bytes_eq kind.text text) (again kinds text list d) within
  where
    at : (t : Bool) → (place kinds text < length kinds → with_kind kinds text list ≡ set kinds (place kinds text) (seen_again (get_or kinds (place kinds text) d)))
        → cond (not t) (1 + place kinds text) 0 < suc (length kinds)
        → cond t (seen_again kind ∷ kinds) (kind ∷ with_kind kinds text list)
        ≡ set (kind ∷ kinds) (cond (not t) (1 + place kinds text) 0) (seen_again (get_or (kind ∷ kinds) (cond (not t) (1 + place kinds text) 0) d))
    at true behind within = refl
    at false behind within =
        let one : 1 + place kinds text ≡ suc (place kinds text) = omega arith in
        ap (λ ks. kind ∷ ks) (behind (omega (arith, within)))
        ∙ sym (ap (λ n. set (kind ∷ kinds) n (seen_again (get_or (kind ∷ kinds) n d))) one)

-- one that is not stands behind them
pub new : (kinds : List Kind) (text list : List ℕ) → length kinds ≤ place kinds text
    → with_kind kinds text list ≡ kinds ++ first_seen text list ∷ []
new [] text list beyond = refl
new (kind ∷ kinds) text list beyond = at (bytes_eq kind.text text) (new kinds text list) beyond
  where
    at : (t : Bool) → (length kinds ≤ place kinds text → with_kind kinds text list ≡ kinds ++ first_seen text list ∷ [])
        → suc (length kinds) ≤ cond (not t) (1 + place kinds text) 0
        → cond t (seen_again kind ∷ kinds) (kind ∷ with_kind kinds text list) ≡ kind ∷ (kinds ++ first_seen text list ∷ [])
    at true behind beyond = absurd (omega (arith, beyond))
    at false behind beyond = ap (λ ks. kind ∷ ks) (behind (omega (arith, beyond)))

-- the same by what is read at the place and written there
pub again_at : (kinds inside : List Kind) (text list : List ℕ) (p : ℕ) (got had : Kind) → inside ≡ kinds
    → p ≡ place inside text → p < length inside → got ≡ get_or inside p got → had ≡ get_or inside p got
    → set inside p (record { text = had.text; times = (got.times + 1) % 2 ^ 64; list = had.list }) ≡ with_kind kinds text list
again_at kinds inside text list p got had view is within got_is had_is =
    let at_place : place inside text < length inside = omega (arith, is, within) in
    ap₂ (λ (a : Kind) (b : Kind). set inside p (record { text = a.text; times = (b.times + 1) % 2 ^ 64; list = a.list })) had_is got_is
    ∙ ap (λ n. set inside n (seen_again (get_or inside n got))) is
    ∙ sym (again inside text list got at_place)
    ∙ ap (λ ks. with_kind ks text list) view

pub new_at : (kinds inside : List Kind) (text list : List ℕ) (p size : ℕ) (made : Kind) (now : List Kind) → inside ≡ kinds
    → p ≡ place inside text → size ≡ length inside → size ≤ p → made ≡ first_seen text list
    → now ≡ inside ++ made ∷ [] → now ≡ with_kind kinds text list
new_at kinds inside text list p size made now view is is_size beyond is_made is_now =
    is_now
    ∙ ap (λ k. inside ++ k ∷ []) is_made
    ∙ sym (new inside text list (omega (arith, is, is_size, beyond)))
    ∙ ap (λ ks. with_kind ks text list) view
