-- The fault of bytes is the leftmost.
use Rattle.std.proofs.Common.{◌≡◌, ℕ, zero, suc, ◌+◌, ◌≤◌, ◌<◌, List, ◌++◌, length, take, drop, Result, Ok, Err, ◌⊎◌, inl, inr, refl, sym, subst, ◌∙◌, arith}
use Rattle.std.specs.Prelude.{◌≢◌}
use Rattle.std.proofs.lemmas.List.{take-append-drop, take_all}
use Rattle.tcg_tokens.specs.declared.error.TokenError.{TokenError}
use Rattle.tcg_tokens.specs.declared.error.TokenError.TheVariants.{Truncated, Reserved, Signed, Continued, TooBig, Unbalanced, Extra, Deep, OutOfMemory}
use Rattle.tcg_tokens.specs.Grammar.{Spells}
use Rattle.tcg_tokens.specs.Message.{Message}
use Rattle.tcg_tokens.specs.Reading.{reading}
use Rattle.tcg_tokens.specs.Leftmost.{IsRightSoFar, IsLeftmost, LeftmostLaw, CutLaw, NoWantLaw}
use Rattle.tcg_tokens.proofs.Items.{all_again}
use Rattle.tcg_tokens.proofs.Settled.{settled}
use Rattle.tcg_tokens.proofs.Faults.{no_want}

-- what is read has no fault but that it ends, or it has one
abbrev Judged : Result Message TokenError → Type 0
Judged r = ((d : TokenError) → r ≡ Err d → d ≡ Truncated) ⊎ ((d : TokenError) × (r ≡ Err d) × (d ≢ Truncated))

same_fault : (d e : TokenError) (r : Result Message TokenError) → r ≡ Err d → r ≡ Err e → d ≡ e
same_fault d e r h k = cc

judged : (r : Result Message TokenError) → Judged r
judged (Ok m) = inl (λ d h. absurd (let k : (Ok m) ≡ Err d = h in cc))
judged (Err Truncated) = inl (λ d h. same_fault d Truncated (Err Truncated) h refl)
judged (Err Reserved) = inr (Reserved, refl, λ h. cc)
judged (Err Signed) = inr (Signed, refl, λ h. cc)
judged (Err Continued) = inr (Continued, refl, λ h. cc)
judged (Err TooBig) = inr (TooBig, refl, λ h. cc)
judged (Err Unbalanced) = inr (Unbalanced, refl, λ h. cc)
judged (Err Extra) = inr (Extra, refl, λ h. cc)
judged (Err Deep) = inr (Deep, refl, λ h. cc)
judged (Err OutOfMemory) = inr (OutOfMemory, refl, λ h. cc)

-- the whole has the fault of a front
front_fault : (text : List ℕ) (n : ℕ) (d : TokenError) → reading (take n text) ≡ Err d → d ≢ Truncated → reading text ≡ Err d
front_fault text n d h k = subst (λ (t : List ℕ). reading t ≡ Err d) (take-append-drop n text) (settled (drop n text) (take n text) d h k)

no_item : (text : List ℕ) (e : TokenError) (m : Message) → reading text ≡ Err e → Spells text m → ⊥
no_item text e m h s = let k : reading text ≡ Ok m = all_again text m s in let clash : Err e ≡ Ok m = sym h ∙ k in cc

leftmost_at : (text : List ℕ) (e : TokenError) (n : ℕ) → n ≤ length text → reading (take n text) ≡ Err e → e ≢ Truncated → ((k : ℕ) → k < n → IsRightSoFar (take k text)) → IsLeftmost text e
leftmost_at text e n le h ne before = record {
  count = n;
  within = le;
  settled = λ more. settled more (take n text) e h ne;
  no_item = λ more m s. no_item (take n text ++ more) e m (settled more (take n text) e h ne) s;
  before = before;
}

-- one front more is right so far
one_more : (text : List ℕ) (n : ℕ) → IsRightSoFar (take n text) → ((k : ℕ) → k < n → IsRightSoFar (take k text)) → (k : ℕ) → k < suc n → IsRightSoFar (take k text)
one_more text n here before k lt = elim (le_or k n (omega arith)) [
  | inl less ↦ before k less
  | inr same ↦ subst (λ (j : ℕ). IsRightSoFar (take j text)) (sym same) here
]
  where
    le_or : (k n : ℕ) → k ≤ n → (k < n) ⊎ (k ≡ n)
    le_or k n le = grind arith

-- from a front on, with so many bytes behind it
search_on : (text : List ℕ) (e : TokenError) → reading text ≡ Err e → e ≢ Truncated → (behind n : ℕ) → n + behind ≡ length text → ((k : ℕ) → k < n → IsRightSoFar (take k text)) → IsLeftmost text e
search_on text e h ne zero n sum before =
    let whole : take n text ≡ text = take_all n text (omega arith) in
    leftmost_at text e n (omega arith) (subst (λ (t : List ℕ). reading t ≡ Err e) (sym whole) h) ne before
search_on text e h ne (suc behind) n sum before = elim (judged (reading (take n text))) [
  | inl right ↦ search_on text e h ne behind (suc n) (omega arith) (one_more text n right before)
  | inr f ↦
      let same : f.0 ≡ e = same_fault f.0 e (reading text) (front_fault text n f.0 f.1 f.2) h in
      leftmost_at text e n (omega arith) (subst (λ (d : TokenError). reading (take n text) ≡ Err d) same f.1) ne before
]

pub leftmost : LeftmostLaw
leftmost text e h ne = search_on text e h ne (length text) 0 (omega arith) (λ k lt. absurd (omega arith))

pub cut : CutLaw
cut text h n e is_fault = elim (judged (reading (take n text))) [
  | inl right ↦ right e is_fault
  | inr f ↦ absurd (f.2 (same_fault f.0 Truncated (reading text) (front_fault text n f.0 f.1 f.2) h))
]

pub no_want_law : NoWantLaw
no_want_law text h = no_want text h

pub ruleset of_faults = (leftmost, cut, no_want_law)
