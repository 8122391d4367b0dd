-- A call does what it asks exactly where it is granted, and is denied by the first column without an ACE.
use Rattle.basics.specs.declared.profile.Profile.{Profile}
use Rattle.std.proofs.Common.{◌≡◌, true, false, List, [], ◌∷◌, ◌++◌, map, Option, None, Some, refl, sym, ◌∙◌, ap}
use Rattle.sp_cells.specs.declared.names.Uid.{Uid}
use Rattle.sp_cells.specs.declared.names.Sp.{Sp}
use Rattle.sp_cells.specs.declared.names.Column.{Column}
use Rattle.sp_cells.specs.Flat.{LookUp}
use Rattle.ace_eval.specs.Aces.{HasAce, acl_at, ace_of}
use Rattle.ace_eval.proofs.AceLemmas.{some_ace, no_ace}
use Rattle.audit.specs.declared.reason.Why.{Why}
use Rattle.tcg_calls.specs.declared.call_shapes.ask.Ask.{Ask}
use Rattle.methods.specs.Grants.{denial as denial_of, wanted, unless_allowed, why_denied, first_some}
use Rattle.methods.specs.Judgement.{Standing, Denies, denial, does, unless_denied, judged}
use Rattle.methods.specs.Laws.{EachHasAce, IsGranted, GrantLaw, DenyLaw, takes_effect, EffectLaw}

clash : {A : Type 0} {x : A} → None ≡ Some x → ⊥
clash h = cc

same : {x y : Why} → Some x ≡ Some y → y ≡ x
same h = cc

-- what is denied has no ACE, and what is not has one
has_one : (profile : Profile) (look : LookUp) (sp : Sp) (object method : Uid) (held : List Uid) (k : Option Column) (x : Option Uid) → ace_of profile look sp object method k held ≡ x → unless_allowed x (why_denied look sp object method k (acl_at profile sp object method)) ≡ None → HasAce profile look sp object method k held
has_one profile look sp object method held k (Some u) is h = some_ace profile look sp object method k held u is
has_one profile look sp object method held k None is h = absurd (clash (sym h))

not_denied : (profile : Profile) (look : LookUp) (sp : Sp) (object method : Uid) (held : List Uid) (k : Option Column) (x : Option Uid) → ace_of profile look sp object method k held ≡ x → HasAce profile look sp object method k held → unless_allowed x (why_denied look sp object method k (acl_at profile sp object method)) ≡ None
not_denied profile look sp object method held k (Some u) is h = refl
not_denied profile look sp object method held k None is h = absurd (no_ace profile look sp object method k held is h)

has_none : (profile : Profile) (look : LookUp) (sp : Sp) (object method : Uid) (held : List Uid) (k : Option Column) (x : Option Uid) (why : Why) → ace_of profile look sp object method k held ≡ x → unless_allowed x (why_denied look sp object method k (acl_at profile sp object method)) ≡ Some why → (HasAce profile look sp object method k held → ⊥) × (why ≡ why_denied look sp object method k (acl_at profile sp object method))
has_none profile look sp object method held k (Some u) why is h = absurd (clash h)
has_none profile look sp object method held k None why is h = (no_ace profile look sp object method k held is, same h)

-- of several columns
each_step : (profile : Profile) (look : LookUp) (sp : Sp) (object method : Uid) (held : List Uid) (k : Option Column) (ks : List (Option Column)) (d : Option Why) → denial_of profile look sp object method held k ≡ d → (first_some (map (denial_of profile look sp object method held) ks) ≡ None → EachHasAce profile look sp object method held ks) → first_some (d ∷ map (denial_of profile look sp object method held) ks) ≡ None → HasAce profile look sp object method k held × EachHasAce profile look sp object method held ks
each_step profile look sp object method held k ks None is rest h = (has_one profile look sp object method held k (ace_of profile look sp object method k held) refl is, rest h)
each_step profile look sp object method held k ks (Some why) is rest h = absurd (clash (sym h))

each_has : (profile : Profile) (look : LookUp) (sp : Sp) (object method : Uid) (held : List Uid) (ks : List (Option Column)) → first_some (map (denial_of profile look sp object method held) ks) ≡ None → EachHasAce profile look sp object method held ks
each_has profile look sp object method held [] h = tt
each_has profile look sp object method held (k ∷ ks) h = each_step profile look sp object method held k ks (denial_of profile look sp object method held k) refl (each_has profile look sp object method held ks) h

none_denied : (profile : Profile) (look : LookUp) (sp : Sp) (object method : Uid) (held : List Uid) (ks : List (Option Column)) → EachHasAce profile look sp object method held ks → first_some (map (denial_of profile look sp object method held) ks) ≡ None
none_denied profile look sp object method held [] h = refl
none_denied profile look sp object method held (k ∷ ks) h =
    ap (λ d. first_some (d ∷ map (denial_of profile look sp object method held) ks)) (not_denied profile look sp object method held k (ace_of profile look sp object method k held) refl h.0)
    ∙ none_denied profile look sp object method held ks h.1

pub grant_law : GrantLaw
grant_law s object method ask = (each_has s.profile s.rows s.sp object method s.held (wanted ask), none_denied s.profile s.rows s.sp object method s.held (wanted ask))

record IsFirst (profile : Profile) (look : LookUp) (sp : Sp) (object method : Uid) (held : List Uid) (ks : List (Option Column)) (why : Why) : Type 0 where
  before : List (Option Column)
  column : Option Column
  after : List (Option Column)
  order : ks ≡ before ++ column ∷ after
  granted : EachHasAce profile look sp object method held before
  without : HasAce profile look sp object method column held → ⊥
  reason : why ≡ why_denied look sp object method column (acl_at profile sp object method)

first_step : (profile : Profile) (look : LookUp) (sp : Sp) (object method : Uid) (held : List Uid) (k : Option Column) (ks : List (Option Column)) (why : Why) (d : Option Why) → denial_of profile look sp object method held k ≡ d → (first_some (map (denial_of profile look sp object method held) ks) ≡ Some why → IsFirst profile look sp object method held ks why) → first_some (d ∷ map (denial_of profile look sp object method held) ks) ≡ Some why → IsFirst profile look sp object method held (k ∷ ks) why
first_step profile look sp object method held k ks why None is later h =
    let rest = later h in
    record { before = k ∷ rest.before; column = rest.column; after = rest.after; order = ap (λ l. k ∷ l) rest.order; granted = (has_one profile look sp object method held k (ace_of profile look sp object method k held) refl is, rest.granted); without = rest.without; reason = rest.reason }
first_step profile look sp object method held k ks why (Some other) is later h =
    let here = has_none profile look sp object method held k (ace_of profile look sp object method k held) why refl (is ∙ h) in
    record { before = []; column = k; after = ks; order = refl; granted = tt; without = here.0; reason = here.1 }

first_denied : (profile : Profile) (look : LookUp) (sp : Sp) (object method : Uid) (held : List Uid) (ks : List (Option Column)) (why : Why) → first_some (map (denial_of profile look sp object method held) ks) ≡ Some why → IsFirst profile look sp object method held ks why
first_denied profile look sp object method held [] why h = absurd (clash h)
first_denied profile look sp object method held (k ∷ ks) why h = first_step profile look sp object method held k ks why (denial_of profile look sp object method held k) refl (first_denied profile look sp object method held ks why) h

pub deny_law : DenyLaw
deny_law s object method ask why h =
    let d = first_denied s.profile s.rows s.sp object method s.held (wanted ask) why h in
    record { before = d.before; column = d.column; after = d.after; order = d.order; granted = d.granted; without = d.without; reason = d.reason }

-- what a call comes to
untrue : false ≡ true → ⊥
untrue h = cc

effect_if : (s : Standing) (object method : Uid) (ask : Ask) (d : Option Why) → denial s object method ask ≡ d → takes_effect (unless_denied d (does s object ask)) ≡ true → IsGranted s object method ask
effect_if s object method ask None is h = (grant_law s object method ask).0 is
effect_if s object method ask (Some why) is h = absurd (untrue h)

denied_if : (s : Standing) (object method : Uid) (ask : Ask) (d : Option Why) → denial s object method ask ≡ d → (IsGranted s object method ask → ⊥) → (why : Why) × (unless_denied d (does s object ask) ≡ Denies why)
denied_if s object method ask None is h = absurd (h ((grant_law s object method ask).0 is))
denied_if s object method ask (Some why) is h = (why, refl)

pub effect_law : EffectLaw
effect_law s object method ask =
    let same : IsGranted s object method ask → judged s object method (Some ask) ≡ does s object ask = λ h. ap (λ d. unless_denied d (does s object ask)) ((grant_law s object method ask).1 h) in
    record {
      effect = λ valid. ((λ h. effect_if s object method ask (denial s object method ask) refl h), (λ h. ap takes_effect (same h) ∙ valid));
      granted = same;
      denied = λ h. denied_if s object method ask (denial s object method ask) refl h;
    }

pub ruleset of_grants = (grant_law, deny_law, effect_law)
