-- The first of the features that stand one behind the other, and those behind it.
use Rattle.std.proofs.Common.{◌≡◌, ◌∙◌, ◌==◌, ℕ, zero, suc, ◌-◌, ◌++◌, true, false, List, [], ◌∷◌, length, take, drop, Some, None, refl, ap, sym, arith, eqb-true, append_assoc}
use Rattle.decoded.specs.Faults.{BytesFault, earlier}
use Rattle.decoded.specs.Features.{features_in, feature_size, feature_lines, features_lines, feature_fault, features_fault}

-- bytes that belong to the one before are as if they were not there
skipped : (n : ℕ) (bs : List ℕ) → features_in n bs ≡ features_in 0 (drop n bs)
unfolding features_in
skipped zero [] = refl
skipped zero (b ∷ bs) = refl
skipped (suc n) [] = refl
skipped (suc n) (b ∷ bs) = skipped n bs

features_next : (bs : List ℕ) → (length bs == 0) ≡ false
    → features_in 0 bs ≡ take (feature_size bs) bs ∷ features_in 0 (drop (feature_size bs) bs)
unfolding features_in
features_next [] is_some = cc
features_next (b ∷ bs) is_some =
    let size = feature_size (b ∷ bs) in
    let is_next : size ≡ suc (size - 1) = omega arith in
    ap (λ fs. take size (b ∷ bs) ∷ fs)
    (skipped (size - 1) bs ∙ ap (λ n. features_in 0 (drop n (b ∷ bs))) (sym is_next))

-- none is left
pub none_left : (bs : List ℕ) → (length bs == 0) ≡ true → features_in 0 bs ≡ []
unfolding features_in
none_left [] is_none = refl
none_left (b ∷ bs) is_none =
    let empty : length (b ∷ bs) ≡ 0 = eqb-true _ _ is_none in
    absurd (omega arith)

-- the lines, where those of the first stand already
pub lines_next : (bs before front rest : List ℕ) → (length bs == 0) ≡ false
    → front ≡ take (feature_size bs) bs → rest ≡ drop (feature_size bs) bs
    → (before ++ feature_lines front) ++ features_lines (features_in 0 rest) ≡ before ++ features_lines (features_in 0 bs)
lines_next bs before front rest is_some is_front is_rest =
    append_assoc before (feature_lines front) (features_lines (features_in 0 rest))
    ∙ ap (λ f. before ++ (feature_lines f ++ features_lines (features_in 0 rest))) is_front
    ∙ ap (λ r. before ++ (feature_lines (take (feature_size bs) bs) ++ features_lines (features_in 0 r))) is_rest
    ∙ ap (λ fs. before ++ features_lines fs) (sym (features_next bs is_some))

-- the fault, where the first has one, and where it has none
pub fault_next : (bs front : List ℕ) (fault : BytesFault) → (length bs == 0) ≡ false
    → front ≡ take (feature_size bs) bs → feature_fault front ≡ Some fault
    → features_fault (features_in 0 bs) ≡ Some fault
fault_next bs front fault is_some is_front has =
    ap features_fault (features_next bs is_some)
    ∙ ap (λ f. earlier f (features_fault (features_in 0 (drop (feature_size bs) bs)))) (ap feature_fault (sym is_front) ∙ has)

pub fault_behind : (bs front rest : List ℕ) → (length bs == 0) ≡ false
    → front ≡ take (feature_size bs) bs → rest ≡ drop (feature_size bs) bs → feature_fault front ≡ None
    → features_fault (features_in 0 bs) ≡ features_fault (features_in 0 rest)
fault_behind bs front rest is_some is_front is_rest has_none =
    ap features_fault (features_next bs is_some)
    ∙ ap (λ f. earlier f (features_fault (features_in 0 (drop (feature_size bs) bs)))) (ap feature_fault (sym is_front) ∙ has_none)
    ∙ ap (λ r. features_fault (features_in 0 r)) (sym is_rest)
