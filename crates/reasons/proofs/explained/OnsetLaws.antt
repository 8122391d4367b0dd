-- The laws of onsets.
use Rattle.std.proofs.Common.{◌≡◌, ◌∙◌, Bool, true, false, List, [], ◌∷◌, ◌++◌, refl, sym, ap, subst, Option, Some, None}
use Rattle.reasons.specs.declared.explained.onset.Onset.{Onset}
use Rattle.reasons.specs.declared.explained.onset.Onset.TheVariants.{AtOpening}
use Rattle.reasons.specs.Onsets.{Sourced, onset_at, first_onset, onset_after, held_since, IsOnset, HasHeldSince, OnsetLaw, NeverLaw}

none-of : (before : Option Onset) (b : Bool) (now : Onset) → onset_after before b now ≡ None → b ≡ false
none-of before true now e = absurd cc
none-of before false now e = refl

none-to : (before : Option Onset) (b : Bool) (now : Onset) → b ≡ false → onset_after before b now ≡ None
none-to before true now e = absurd cc
none-to before false now e = refl

never-of : (p : List Sourced → Bool) (past : List Sourced) → held_since p past ≡ None → p past ≡ false
never-of p [] e = none-of None (p []) AtOpening e
never-of p (s ∷ before) e = none-of (held_since p before) (p (s ∷ before)) (onset_at s before) e

never-to : (p : List Sourced → Bool) (past : List Sourced) → p past ≡ false → held_since p past ≡ None
never-to p [] e = none-to None (p []) AtOpening e
never-to p (s ∷ before) e = none-to (held_since p before) (p (s ∷ before)) (onset_at s before) e

pub never : NeverLaw
never p past = (never-of p past, never-to p past)

some-of : (before : Option Onset) (b : Bool) (now onset : Onset) → onset_after before b now ≡ Some onset → (b ≡ true) × (first_onset before now ≡ onset)
some-of before true now onset e = let first : first_onset before now ≡ onset = cc in (refl, first)
some-of before false now onset e = absurd cc

tail : (a b : Sourced) (xs ys : List Sourced) → a ∷ xs ≡ b ∷ ys → xs ≡ ys
tail a b xs ys h = cc

-- what holds at the end of earlier acts holds behind none of the later ones
at-end : (p : List Sourced → Bool) (earlier : List Sourced) → p earlier ≡ true → (newer older : List Sourced) → [] ≡ newer ++ older → p (older ++ earlier) ≡ true
at-end p earlier here [] [] is = here
at-end p earlier here [] (s ∷ older) is = absurd cc
at-end p earlier here (s ∷ newer) older is = absurd cc

-- and behind each part of one later act more
one-more : (p : List Sourced → Bool) (s : Sourced) (later earlier : List Sourced) → p (s ∷ (later ++ earlier)) ≡ true
    → ((newer older : List Sourced) → later ≡ newer ++ older → p (older ++ earlier) ≡ true)
    → (newer older : List Sourced) → s ∷ later ≡ newer ++ older → p (older ++ earlier) ≡ true
one-more p s later earlier here rest [] older is = subst (λ (l : List Sourced). p (l ++ earlier) ≡ true) is here
one-more p s later earlier here rest (n ∷ newer) older is = rest newer older (tail s n later (newer ++ older) is)

goes-on : (p : List Sourced → Bool) (s : Sourced) (before : List Sourced) (onset : Onset) → p (s ∷ before) ≡ true → HasHeldSince p before onset → HasHeldSince p (s ∷ before) onset
goes-on p s before onset here h = record {
  later = s ∷ h.later;
  earlier = h.earlier;
  place = ap (λ l. s ∷ l) h.place;
  begins = h.begins;
  holds = one-more p s h.later h.earlier (subst (λ (l : List Sourced). p (s ∷ l) ≡ true) h.place here) h.holds;
}

-- with one act more, by what held before it
step : (p : List Sourced → Bool) (s : Sourced) (before : List Sourced) (onset : Onset) (was : Option Onset) → held_since p before ≡ was
    → first_onset was (onset_at s before) ≡ onset → p (s ∷ before) ≡ true
    → ((its : Onset) → held_since p before ≡ Some its → HasHeldSince p before its) → HasHeldSince p (s ∷ before) onset
step p s before onset None e first here earlier = record {
  later = [];
  earlier = s ∷ before;
  place = refl;
  begins = (sym first, never-of p before e);
  holds = at-end p (s ∷ before) here;
}
step p s before onset (Some its) e first here earlier = subst (λ (x : Onset). HasHeldSince p (s ∷ before) x) first (goes-on p s before its here (earlier its e))

told : (p : List Sourced → Bool) (past : List Sourced) (onset : Onset) → held_since p past ≡ Some onset → HasHeldSince p past onset
told p [] onset e =
    let both = some-of None (p []) AtOpening onset e in record {
      later = [];
      earlier = [];
      place = refl;
      begins = sym both.1;
      holds = at-end p [] both.0;
    }
told p (s ∷ before) onset e =
    let both = some-of (held_since p before) (p (s ∷ before)) (onset_at s before) onset e in
    step p s before onset (held_since p before) refl both.1 both.0 (λ its is. told p before its is)

behind : (p : List Sourced → Bool) (later earlier : List Sourced) (onset : Onset) → IsOnset p earlier onset
    → ((newer older : List Sourced) → later ≡ newer ++ older → p (older ++ earlier) ≡ true) → held_since p (later ++ earlier) ≡ Some onset
behind p [] [] onset begins holds = ap (λ b. onset_after None b AtOpening) (holds [] [] refl) ∙ ap Some (sym begins)
behind p [] (s ∷ before) onset begins holds =
    ap (λ b. onset_after (held_since p before) b (onset_at s before)) (holds [] [] refl)
    ∙ ap (λ o. Some (first_onset o (onset_at s before))) (never-to p before begins.1)
    ∙ ap Some (sym begins.0)
behind p (s ∷ later) earlier onset begins holds =
    let its = behind p later earlier onset begins (λ newer older is. holds (s ∷ newer) older (ap (λ l. s ∷ l) is)) in
    ap (λ b. onset_after (held_since p (later ++ earlier)) b (onset_at s (later ++ earlier))) (holds [] (s ∷ later) refl)
    ∙ ap (λ o. Some (first_onset o (onset_at s (later ++ earlier)))) its

pub since : OnsetLaw
since p past onset = (
  told p past onset,
  (λ h. ap (held_since p) h.place ∙ behind p h.later h.earlier onset h.begins h.holds),
)
