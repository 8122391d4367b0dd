-- A column is listed exactly where it has an ACE.
use Rattle.basics.specs.declared.profile.Profile.{Profile}
use Rattle.std.proofs.Common.{◌≡◌, ℕ, ◌≤◌, Bool, true, false, ◌&&◌, List, [], ◌∷◌, ◌++◌, Option, None, Some, refl, sym, ◌∙◌, ap, cond, ◌⊎◌, inl, inr, arith}
use Rattle.std.specs.Prelude.{filter, is_some, nat_le}
use Rattle.std.specs.List.{flat_map}
use Rattle.std.proofs.lemmas.Bool.Decides.{nat_tests}
use Rattle.sp_cells.specs.declared.names.Uid.{Uid}
use Rattle.sp_cells.specs.declared.names.Sp.{Sp}
use Rattle.sp_cells.specs.declared.names.Column.{Column}
use Rattle.sp_cells.specs.declared.cells.Cell.{Cell}
use Rattle.sp_cells.specs.Names.{get}
use Rattle.sp_cells.specs.Flat.{LookUp}
use Rattle.ace_eval.specs.Aces.{HasAce, ace_of}
use Rattle.ace_eval.proofs.AceLemmas.{some_ace, no_ace}
use Rattle.methods.specs.declared.kinds.Kind.TheVariants as kinds
use Rattle.methods.specs.Kinds.{kind_of}
use Rattle.methods.specs.Columns.{columns_of}
use Rattle.methods.specs.Listed.{is_listed, shown_column, listed_among, listed}
use Rattle.methods.specs.Laws.{IsAmong, IsListed, ListLaw, RiseLaw}

clash : false ≡ true → ⊥
clash h = cc

-- lists by their elements
among_left : {A : Type 0} (xs ys : List A) (y : A) → IsAmong xs y → IsAmong (xs ++ ys) y
among_left [] ys y h = absurd h
among_left (x ∷ xs) ys y (inl h) = inl h
among_left (x ∷ xs) ys y (inr h) = inr (among_left xs ys y h)

among_right : {A : Type 0} (xs ys : List A) (y : A) → IsAmong ys y → IsAmong (xs ++ ys) y
among_right [] ys y h = h
among_right (x ∷ xs) ys y h = inr (among_right xs ys y h)

among_cases : {A : Type 0} (xs ys : List A) (y : A) → IsAmong (xs ++ ys) y → IsAmong xs y ⊎ IsAmong ys y
among_cases [] ys y h = inr h
among_cases (x ∷ xs) ys y (inl h) = inl (inl h)
among_cases (x ∷ xs) ys y (inr h) = elim (among_cases xs ys y h) [ inl g ↦ inl (inr g) | inr g ↦ inr g ]

in_flat : {A B : Type 0} (f : A → List B) (xs : List A) (y : B) → IsAmong (flat_map f xs) y → (x : A) × IsAmong xs x × IsAmong (f x) y
in_flat f [] y h = absurd h
in_flat f (x ∷ xs) y h = elim (among_cases (f x) (flat_map f xs) y h) [
  | inl here ↦ (x, inl refl, here)
  | inr rest ↦ let w = in_flat f xs y rest in (w.0, inr w.1, w.2)
]

flat_in : {A B : Type 0} (f : A → List B) (xs : List A) (x : A) (y : B) → IsAmong xs x → IsAmong (f x) y → IsAmong (flat_map f xs) y
flat_in f [] x y h g = absurd h
flat_in f (a ∷ xs) x y (inl h) g = among_left (f a) (flat_map f xs) y (rw h g)
flat_in f (a ∷ xs) x y (inr h) g = among_right (f a) (flat_map f xs) y (flat_in f xs x y h g)

in_step : {A : Type 0} (test : A → Bool) (x : A) (xs : List A) (y : A) (b : Bool) → test x ≡ b → (IsAmong (filter test xs) y → IsAmong xs y × (test y ≡ true)) → IsAmong (cond b (x ∷ filter test xs) (filter test xs)) y → IsAmong (x ∷ xs) y × (test y ≡ true)
in_step test x xs y true is rest (inl h) = (inl h, ap test (sym h) ∙ is)
in_step test x xs y true is rest (inr h) = (let w = rest h in (inr w.0, w.1))
in_step test x xs y false is rest h = (let w = rest h in (inr w.0, w.1))

in_filter : {A : Type 0} (test : A → Bool) (xs : List A) (y : A) → IsAmong (filter test xs) y → IsAmong xs y × (test y ≡ true)
in_filter test [] y h = absurd h
in_filter test (x ∷ xs) y h = in_step test x xs y (test x) refl (in_filter test xs y) h

filter_step : {A : Type 0} (test : A → Bool) (x : A) (xs : List A) (y : A) (b : Bool) → IsAmong (filter test xs) y → IsAmong (cond b (x ∷ filter test xs) (filter test xs)) y
filter_step test x xs y true h = inr h
filter_step test x xs y false h = h

filter_in : {A : Type 0} (test : A → Bool) (xs : List A) (y : A) → IsAmong xs y → test y ≡ true → IsAmong (filter test xs) y
filter_in test [] y h g = absurd h
filter_in test (x ∷ xs) y (inl h) g = rw (ap test h ∙ g) (inl h)
filter_in test (x ∷ xs) y (inr h) g = filter_step test x xs y (test x) (filter_in test xs y h g)

-- a column and what stands there
shown_is : (k n : Column) (cell : Cell) (x : Option Cell) → IsAmong {A = Column × Cell} (shown_column k x) (n, cell) → (k ≡ n) × (x ≡ Some cell)
shown_is k n cell None h = absurd h
shown_is k n cell (Some v) (inl h) = (ap (λ (p : Column × Cell). p.0) h, ap (λ (p : Column × Cell). Some p.1) h)
shown_is k n cell (Some v) (inr h) = absurd h

shown_in : (k : Column) (cell : Cell) (x : Option Cell) → x ≡ Some cell → IsAmong {A = Column × Cell} (shown_column k x) (k, cell)
shown_in k cell None h = absurd (cc)
shown_in k cell (Some v) h = inl (ap (λ (c : Option Cell). (k, at_some c)) h) where
  at_some : Option Cell → Cell
  at_some None = v
  at_some (Some w) = w

ace_there : (profile : Profile) (look : LookUp) (sp : Sp) (object : Uid) (k : Column) (held : List Uid) (x : Option Uid) → ace_of profile look sp object get (Some k) held ≡ x → is_some x ≡ true → HasAce profile look sp object get (Some k) held
ace_there profile look sp object k held (Some u) is h = some_ace profile look sp object get (Some k) held u is
ace_there profile look sp object k held None is h = absurd (clash h)

there_ace : (profile : Profile) (look : LookUp) (sp : Sp) (object : Uid) (k : Column) (held : List Uid) (x : Option Uid) → ace_of profile look sp object get (Some k) held ≡ x → HasAce profile look sp object get (Some k) held → is_some x ≡ true
there_ace profile look sp object k held (Some u) is h = refl
there_ace profile look sp object k held None is h = absurd (no_ace profile look sp object get (Some k) held is h)

three : (a b c : Bool) → ((a && b) && c) ≡ true → (a ≡ true) × (b ≡ true) × (c ≡ true)
three true true true h = (refl, refl, refl)
three true true false h = absurd (clash h)
three true false c h = absurd (clash h)
three false b c h = absurd (clash h)

all_three : (a b c : Bool) → a ≡ true → b ≡ true → c ≡ true → ((a && b) && c) ≡ true
all_three a b c e f g = rw (e, f, g) refl

le_of : (a b : ℕ) → nat_le a b ≡ true → a ≤ b
le_of a b h = grind (arith, nat_tests)

of_le : (a b : ℕ) → a ≤ b → nat_le a b ≡ true
of_le a b h = grind (arith, nat_tests)

listed_is : (profile : Profile) (look : LookUp) (sp : Sp) (object : Uid) (first last : ℕ) (held : List Uid) (k : Column) (cell : Cell) → IsAmong {A = Column × Cell} (listed profile look sp object first last held) (k, cell) → IsListed profile look sp object first last held k cell
unfolding listed_among
listed_is profile look sp object first last held k cell h =
    let w = in_flat {B = Column × Cell} (λ n. shown_column n (look sp object n)) (filter (is_listed profile look sp object first last held) (columns_of (kind_of sp object))) (k, cell) h in
    let x = shown_is w.0 k cell (look sp object w.0) w.2 in
    let f = in_filter (is_listed profile look sp object first last held) (columns_of (kind_of sp object)) w.0 w.1 in
    here w.0 x.0 f.0 f.1 x.1
  where
    here : (n : Column) → n ≡ k → IsAmong (columns_of (kind_of sp object)) n → is_listed profile look sp object first last held n ≡ true → look sp object n ≡ Some cell → IsListed profile look sp object first last held k cell
    here n same known asked seen =
        let t = three (nat_le first n.0) (nat_le n.0 last) (is_some (ace_of profile look sp object get (Some n) held)) asked in
        rw (← same) (record { known = known; from = le_of first n.0 t.0; to = le_of n.0 last t.1; ace = ace_there profile look sp object n held (ace_of profile look sp object get (Some n) held) refl t.2; in_view = seen })

is_listed_there : (profile : Profile) (look : LookUp) (sp : Sp) (object : Uid) (first last : ℕ) (held : List Uid) (k : Column) (cell : Cell) → IsListed profile look sp object first last held k cell → IsAmong {A = Column × Cell} (listed profile look sp object first last held) (k, cell)
unfolding listed_among
is_listed_there profile look sp object first last held k cell w =
    flat_in {B = Column × Cell} (λ n. shown_column n (look sp object n)) (filter (is_listed profile look sp object first last held) (columns_of (kind_of sp object))) k (k, cell)
    (filter_in (is_listed profile look sp object first last held) (columns_of (kind_of sp object)) k w.known (all_three (nat_le first k.0) (nat_le k.0 last) (is_some (ace_of profile look sp object get (Some k) held)) (of_le first k.0 w.from) (of_le k.0 last w.to) (there_ace profile look sp object k held (ace_of profile look sp object get (Some k) held) refl w.ace)))
    (shown_in k cell (look sp object k) w.in_view)

pub list_law : ListLaw
list_law profile look sp object first last held k cell = (listed_is profile look sp object first last held k cell, is_listed_there profile look sp object first last held k cell)

pub rise_law : RiseLaw
rise_law None = refl
rise_law (Some kinds.ThisSp) = refl
rise_law (Some kinds.Sp) = refl
rise_law (Some kinds.Authority) = refl
rise_law (Some kinds.CPin) = refl
rise_law (Some kinds.Ace) = refl
rise_law (Some kinds.Locking) = refl
rise_law (Some kinds.MbrControl) = refl
rise_law (Some kinds.TperInfo) = refl
rise_law (Some kinds.LockingInfo) = refl
rise_law (Some kinds.Table) = refl
rise_law (Some kinds.MbrTable) = refl
rise_law (Some kinds.DataStore) = refl
rise_law (Some kinds.Key) = refl
rise_law (Some kinds.DataRemoval) = refl
rise_law (Some kinds.WholeTable) = refl
rise_law (Some kinds.AccessControl) = refl
rise_law (Some kinds.ObjectTable) = refl
rise_law (Some kinds.SpInfo) = refl
rise_law (Some kinds.SpTemplates) = refl
rise_law (Some kinds.MethodId) = refl
rise_law (Some kinds.SecretProtect) = refl
rise_law (Some kinds.Template) = refl

pub ruleset of_lists = (list_law, rise_law)
