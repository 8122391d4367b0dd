-- What a verdict says of the answers.
use Rattle.std.proofs.Common.{◌≡◌, ◌≢◌, ℕ, zero, suc, ◌<◌, Bool, true, false, cond, List, [], ◌∷◌, length, slice_index_or, Option, None, Some, is_some, unwrap_or, find, refl, sym, ap, ◌∙◌, subst, arith, Contains}
use Rattle.std.proofs.lemmas.Bool.{false≢true}
use Rattle.judged.specs.Freedoms.{is_by, freedom_between}
use Rattle.judged.specs.Judgements.{are_same, freedom_of, verdict_beside, is_agreement, is_allowance, is_wrong}
use Rattle.judged.specs.Laws.{AgreesLaw, AllowsLaw, WrongLaw, NamesLaw, DiffersBy}
use Rattle.judged.specs.declared.freedom.Freedom.{Freedom}
use Rattle.judged.specs.declared.freedom.Freedom.TheVariants.{ErrorBits, BlankSectors, VendorBytes, Identity, SessionNumbers, ComIds, RandomBytes, Properties}
use Rattle.judged.specs.declared.ruling.Verdict.{Verdict}
use Rattle.judged.specs.declared.ruling.Verdict.TheVariants.{Agrees, Allowed, Wrong}
use Rattle.judged.proofs.SameLines.{are_same-Decides}

no_agreement : (o : Option Freedom) (heard wanted : List (List ℕ)) (reasons : List ℕ) → verdict_beside o heard wanted reasons ≡ Agrees → ⊥
no_agreement None heard wanted reasons e = absurd (false≢true (ap is_agreement e))
no_agreement (Some f) heard wanted reasons e = absurd (false≢true (ap is_agreement e))

agrees_at : (t : Bool) (v : Verdict) → (v ≡ Agrees → ⊥)
    → (cond t Agrees v ≡ Agrees → t ≡ true) × (t ≡ true → cond t Agrees v ≡ Agrees)
agrees_at true v differs = (λ _. refl, λ _. refl)
agrees_at false v differs = (λ e. absurd (differs e), λ e. absurd (false≢true e))

pub agrees : AgreesLaw
agrees freedoms asked heard wanted other reasons =
    let o = freedom_of freedoms asked heard wanted other in
    let at = agrees_at (are_same heard wanted) (verdict_beside o heard wanted reasons) (no_agreement o heard wanted reasons) in
    let decides = are_same-Decides heard wanted in (
      λ e. decides.0 (at.0 e),
      λ e. at.1 (decides.1 e),
    )

-- the first that passes is among them, and passes
found-cons : (p : Freedom → Bool) (g : Freedom) (gs : List Freedom) (f : Freedom) (t : Bool) → p g ≡ t
    → (find p gs ≡ Some f → Contains gs f × (p f ≡ true))
    → cond t (Some g) (find p gs) ≡ Some f → Contains (g ∷ gs) f × (p f ≡ true)
found-cons p g gs f true is behind e =
    let same : g ≡ f = ap (λ o. unwrap_or o g) e in
    ((0, omega arith, same), subst (λ h. p h ≡ true) same is)
found-cons p g gs f false is behind e =
    let r = behind e in
    ((suc r.0.0, omega (arith, r.0.1), r.0.2), r.1)

found : (p : Freedom → Bool) (fs : List Freedom) (f : Freedom) → find p fs ≡ Some f → Contains fs f × (p f ≡ true)
found p [] f e = absurd (false≢true (ap is_some e))
found p (g ∷ gs) f e = found-cons p g gs f (p g) refl (found p gs f) e

-- where none passes, none that is among them does
missed-cons : (p : Freedom → Bool) (g : Freedom) (gs : List Freedom) (f : Freedom) (t : Bool) → p g ≡ t
    → (find p gs ≡ None → Contains gs f → ⊥) → p f ≡ true
    → cond t (Some g) (find p gs) ≡ None → (k : ℕ) → k < length (g ∷ gs) → slice_index_or (g ∷ gs) k f ≡ f → ⊥
missed-cons p g gs f true is behind passes e k within same = absurd (false≢true (sym (ap is_some e)))
missed-cons p g gs f false is behind passes e zero within same =
    absurd (false≢true (sym is ∙ subst (λ h. p h ≡ true) (sym same) passes))
missed-cons p g gs f false is behind passes e (suc k) within same = behind e (k, omega (arith, within), same)

missed : (p : Freedom → Bool) (fs : List Freedom) (f : Freedom) → find p fs ≡ None → p f ≡ true → Contains fs f → ⊥
missed p [] f e passes among = absurd (omega (arith, among.1))
missed p (g ∷ gs) f e passes among =
    missed-cons p g gs f (p g) refl (λ none. missed p gs f none passes) passes e among.0 among.1 among.2

-- the first freedom by which lines differ
between_is : (freedoms : List Freedom) (asked x y other : List ℕ)
    → freedom_between freedoms asked x y other ≡ find (is_by asked x y other) freedoms
unfolding freedom_between
between_is freedoms asked x y other = refl

-- the freedom by which answers differ
freed : (freedoms : List Freedom) (asked : List ℕ) (heard wanted : List (List ℕ)) (other : List ℕ) (f : Freedom)
    → freedom_of freedoms asked heard wanted other ≡ Some f → Contains freedoms f × DiffersBy asked heard wanted other f
freed freedoms asked [] wanted other f e = absurd (false≢true (ap is_some e))
freed freedoms asked (x ∷ xs) [] other f e = absurd (false≢true (ap is_some e))
freed freedoms asked (x ∷ xs) (y ∷ ys) other f e = at (are_same xs ys) refl e
  where
    at : (t : Bool) → are_same xs ys ≡ t → cond t (freedom_between freedoms asked x y other) None ≡ Some f
        → Contains freedoms f × DiffersBy asked (x ∷ xs) (y ∷ ys) other f
    at true same e =
        let r = found (is_by asked x y other) freedoms f (sym (between_is freedoms asked x y other) ∙ e) in
        (r.0, (x, y, xs, refl, ap (λ zs. y ∷ zs) (sym ((are_same-Decides xs ys).0 same)), r.1))
    at false same e = absurd (false≢true (ap is_some e))

-- where there is none, they differ by none
not_freed : (freedoms : List Freedom) (asked : List ℕ) (heard wanted : List (List ℕ)) (other : List ℕ) (f : Freedom)
    → freedom_of freedoms asked heard wanted other ≡ None → Contains freedoms f → DiffersBy asked heard wanted other f → ⊥
not_freed freedoms asked heard wanted other f e among (x, y, rest, is_heard, is_wanted, by) =
    let none : freedom_of freedoms asked (x ∷ rest) (y ∷ rest) other ≡ None =
    sym (ap (λ hs. freedom_of freedoms asked hs (y ∷ rest) other) is_heard) ∙ sym (ap (λ ws. freedom_of freedoms asked heard ws other) is_wanted) ∙ e in
    let same : are_same rest rest ≡ true = (are_same-Decides rest rest).1 refl in
    missed (is_by asked x y other) freedoms f
    (sym (between_is freedoms asked x y other) ∙ sym (ap (λ t. cond t (freedom_between freedoms asked x y other) None) same) ∙ none) by among

pub allows : AllowsLaw
allows freedoms asked heard wanted other reasons freedom e = at (are_same heard wanted) refl e
  where
    by : (o : Option Freedom) → freedom_of freedoms asked heard wanted other ≡ o → verdict_beside o heard wanted reasons ≡ Allowed freedom
        → freedom_of freedoms asked heard wanted other ≡ Some freedom
    by None is e = absurd (false≢true (ap is_allowance e))
    by (Some f) is e = is ∙ ap freedom_in e
      where
        freedom_in : Verdict → Option Freedom
        freedom_in Agrees = None
        freedom_in (Allowed f) = Some f
        freedom_in (Wrong text) = None

    at : (t : Bool) → are_same heard wanted ≡ t
        → cond t Agrees (verdict_beside (freedom_of freedoms asked heard wanted other) heard wanted reasons) ≡ Allowed freedom
        → (heard ≢ wanted) × Contains freedoms freedom × DiffersBy asked heard wanted other freedom
    at true is e = absurd (false≢true (ap is_allowance e))
    at false is e =
        let r = freed freedoms asked heard wanted other freedom (by (freedom_of freedoms asked heard wanted other) refl e) in
        (λ same. false≢true (sym is ∙ (are_same-Decides heard wanted).1 same), r.0, r.1)

pub wrong : WrongLaw
wrong freedoms asked heard wanted other reasons = at (are_same heard wanted) refl (freedom_of freedoms asked heard wanted other) refl
  where
    at : (t : Bool) → are_same heard wanted ≡ t → (o : Option Freedom) → freedom_of freedoms asked heard wanted other ≡ o
        → (is_wrong (cond t Agrees (verdict_beside o heard wanted reasons)) ≡ true
        → (heard ≢ wanted) × ((f : Freedom) → Contains freedoms f → DiffersBy asked heard wanted other f → ⊥))
        × ((heard ≢ wanted) × ((f : Freedom) → Contains freedoms f → DiffersBy asked heard wanted other f → ⊥)
        → is_wrong (cond t Agrees (verdict_beside o heard wanted reasons)) ≡ true)
    at true is o o_is = (λ e. absurd (false≢true e), λ h. absurd (h.0 ((are_same-Decides heard wanted).0 is)))
    at false is (Some f) o_is = (
      λ e. absurd (false≢true e),
      λ h. let r = freed freedoms asked heard wanted other f o_is in absurd (h.1 f r.0 r.1),
    )
    at false is None o_is = (
      λ e. (λ same. false≢true (sym is ∙ (are_same-Decides heard wanted).1 same), λ f. not_freed freedoms asked heard wanted other f o_is),
      λ h. refl,
    )

pub named : NamesLaw
named ErrorBits = refl
named BlankSectors = refl
named VendorBytes = refl
named Identity = refl
named SessionNumbers = refl
named ComIds = refl
named RandomBytes = refl
named Properties = refl
