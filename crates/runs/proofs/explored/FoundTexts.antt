-- A text that is looked for from place to place.
use Rattle.std.proofs.Common.{◌≡◌, ℕ, zero, suc, ◌<◌, ◌-◌, nat_eq, false, ◌||◌, List, [], ◌∷◌, take, drop, length, sym, ap, ◌∙◌, arith}
use Rattle.std.proofs.lemmas.List.{take_all, length-drop}
use Rattle.std.specs.List.{starts_with}
use Rattle.runs.specs.Findings.{stands_in}

-- where it does not begin at a place, it is looked for behind it
past : (needle text : List ℕ) (i : ℕ) → i < length text → starts_with nat_eq (drop i text) needle ≡ false
    → stands_in needle (drop (suc i) text) ≡ stands_in needle (drop i text)
past needle [] i within no_match = absurd (omega (arith, within))
past needle (x ∷ xs) zero within no_match = sym (ap (λ t. t || stands_in needle xs) no_match)
past needle (x ∷ xs) (suc i) within no_match = past needle xs i (omega (arith, within)) no_match

-- the same of what stands behind the place, so many bytes
pub behind : (needle text : List ℕ) (i next : ℕ) → i < length text → next ≡ suc i
    → starts_with nat_eq (take (length text - i) (drop i text)) needle ≡ false
    → stands_in needle (drop next text) ≡ stands_in needle (drop i text)
behind needle text i next within is no_match =
    ap (λ n. stands_in needle (drop n text)) is
    ∙ past needle text i within
    (ap (λ t. starts_with nat_eq t needle) (sym (take_all (length text - i) (drop i text) (omega (arith, length-drop i text)))) ∙ no_match)
