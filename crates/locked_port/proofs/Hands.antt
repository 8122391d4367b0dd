-- Tags that are claimed and given back.
use Rattle.std.proofs.Common.{◌≡◌, ◌⊎◌, inl, inr, ℕ, Result, Ok, Err, ap, sym, ◌∙◌}
use Rattle.std.specs.Prelude.{MatchResult}
use Rattle.std.specs.Int.{bit_at}
use mathlib.Core.Logic.{dite}
use native.Mathlib.Decide.{ℕ_discrete}
use Rattle.std.proofs.lemmas.Nat.Bits.{same_from_bits}
use Rattle.locked_port.proofs.tag_board.Bits.{or_other, bit_cases}
use Rattle.locked_port.specs.Hands.{Hand, hand, claimed, Frees}

same_bits : (tag : ℕ) (h k : Hand) → bit_at h.tags tag ≡ 0 → Frees tag (claimed tag h) k → (j : ℕ) → bit_at k.tags j ≡ bit_at h.tags j
same_bits tag h k lacks f j =
    dite (ℕ_discrete j tag)
    (λ e. ap (λ (i : ℕ). bit_at k.tags i) e ∙ f.gone ∙ sym lacks ∙ sym (ap (λ (i : ℕ). bit_at h.tags i) e))
    (λ ne. f.others j ne ∙ or_other h.tags tag j ne)

-- a tag that was claimed and given back
pub given_back : (tag : ℕ) (h k : Hand) → bit_at h.tags tag ≡ 0 → Frees tag (claimed tag h) k → k ≡ h
given_back tag h k lacks f =
    ap (λ (n : ℕ). hand n k.count k.tags) f.client
    ∙ ap (λ (n : ℕ). hand h.client n k.tags) f.count
    ∙ ap (λ (n : ℕ). hand h.client h.count n) (same_from_bits k.tags h.tags (same_bits tag h k lacks f))

-- a tag that is not held
pub not_held : (n tag : ℕ) → (bit_at n tag ≡ 1 → ⊥) → bit_at n tag ≡ 0
not_held n tag none = by (bit_cases n tag)
  where
    by : (bit_at n tag ≡ 0) ⊎ (bit_at n tag ≡ 1) → bit_at n tag ≡ 0
    by (inl z) = z
    by (inr z) = absurd (none z)

-- after a refused Put the pass is as it was before
pub refused_same : {A E : Type 0} (r p : Result A E) (e : E) (Done : A → Type 0) (Same : Type 0) → p ≡ Err e → p ≡ r → MatchResult r Done (λ _. Same) → Same
refused_same (Ok a) p e Done Same is was h = absurd (apart (sym is ∙ was))
  where
    apart : {A E : Type 0} {a : A} {e : E} → Err e ≡ Ok a → ⊥
    apart h = cc
refused_same (Err x) p e Done Same is was h = h

-- what was claimed for it is given back
pub frees_claimed : (tag : ℕ) (h i k : Hand) → i ≡ claimed tag h → bit_at h.tags tag ≡ 0 → Frees tag i k → k ≡ h
frees_claimed tag h i k same lacks f =
    given_back tag h k lacks record {
      client = f.client ∙ ap (λ (x : Hand). x.client) same;
      count = f.count ∙ ap (λ (x : Hand). x.count) same;
      gone = f.gone;
      others = λ j ne. f.others j ne ∙ ap (λ (x : Hand). bit_at x.tags j) same;
    }
