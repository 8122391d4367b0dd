-- No two objects have one name: each pair of the list is found both ways.
use Rattle.std.proofs.Common.{◌≡◌, ℕ, ◌==◌, ◌&&◌, Bool, true, false, List, [], ◌∷◌, refl, ap, ◌∙◌, arith, Option, Some, None, inl, inr}
use Rattle.std.specs.List.{list_all}
use Rattle.std.specs.Fmt.{digits}
use Rattle.std.specs.Str.{bytes_eq}
use Rattle.std.proofs.lemmas.Bool.{cases_Bool}
use Rattle.std.proofs.lemmas.Bool.Decides.{nat_tests}
use Rattle.std.proofs.lemmas.Slice.Eq.{bytes_eq-Decides}
use Rattle.sp_cells.specs.declared.names.Uid.{Uid}
use Rattle.sp_cells.specs.Names.{uid}
use Rattle.tcg_calls.specs.Objects.{Named, name_in, object_in, named_objects, object_name, object_by_name, of_numbers, of_ranges, object_singles, table_singles, table_row_singles, authority_singles, admin_ace_singles, locking_ace_singles, method_singles}
use Rattle.tcg_calls.specs.Laws.{ObjectNameLaw}

abbrev is_name : List ℕ → Option (List ℕ) → Bool
is_name name None = false
is_name name (Some its) = bytes_eq its name

abbrev is_object : Uid → Option Uid → Bool
is_object object None = false
is_object object (Some its) = its.0 == object.0

abbrev is_found : Named → Bool
is_found e = is_name e.1 (object_name e.0) && is_object e.0 (object_by_name e.1)

all_found : list_all is_found named_objects ≡ true
unfolding named_objects object_singles table_singles table_row_singles authority_singles admin_ace_singles locking_ace_singles method_singles of_numbers of_ranges digits
all_found = refl

same_uid : (u v : Uid) → (u.0 == v.0) ≡ true → u ≡ v
same_uid u v is = let e : u.0 ≡ v.0 = grind (arith, nat_tests, is) in ap uid e

head : (p : Named → Bool) (e : Named) (es : List Named) → list_all p (e ∷ es) ≡ true → p e ≡ true
head p e es all = grind (arith, all)

rest : (p : Named → Bool) (e : Named) (es : List Named) → list_all p (e ∷ es) ≡ true → list_all p es ≡ true
rest p e es all = grind (arith, all)

name-passes : (p : Named → Bool) (es : List Named) (u : Uid) (name : List ℕ) → list_all p es ≡ true → name_in es u ≡ Some name → p (u, name) ≡ true
name-passes p [] u name all there = cc there
name-passes p (e ∷ es) u name all there = elim (cases_Bool (e.0.0 == u.0)) [
  | inl same ↦ let its : e.1 ≡ name = here (rw same at there) in let who : e.0 ≡ u = same_uid e.0 u same in
      ap p (pair who its) ∙ head p e es all
  | inr other ↦ name-passes p es u name (rest p e es all) (rw other at there)
] where
  here : {a b : List ℕ} → Some a ≡ Some b → a ≡ b
  here h = cc

  pair : {a u : Uid} {b name : List ℕ} → a ≡ u → b ≡ name → ◌≡◌ {A = Named} (u, name) (a, b)
  pair h g = cc

object-passes : (p : Named → Bool) (es : List Named) (u : Uid) (name : List ℕ) → list_all p es ≡ true → object_in es name ≡ Some u → p (u, name) ≡ true
object-passes p [] u name all there = cc there
object-passes p (e ∷ es) u name all there = elim (cases_Bool (bytes_eq e.1 name)) [
  | inl same ↦ let who : e.0 ≡ u = here (rw same at there) in let its : e.1 ≡ name = (bytes_eq-Decides e.1 name).0 same in
      ap p (pair who its) ∙ head p e es all
  | inr other ↦ object-passes p es u name (rest p e es all) (rw other at there)
] where
  here : {a b : Uid} → Some a ≡ Some b → a ≡ b
  here h = cc

  pair : {a u : Uid} {b name : List ℕ} → a ≡ u → b ≡ name → ◌≡◌ {A = Named} (u, name) (a, b)
  pair h g = cc

named_so : (name : List ℕ) (o : Option (List ℕ)) → is_name name o ≡ true → o ≡ Some name
named_so name None is = cc is
named_so name (Some its) is = ap Some ((bytes_eq-Decides its name).0 is)

object_so : (u : Uid) (o : Option Uid) → is_object u o ≡ true → o ≡ Some u
object_so u None is = cc is
object_so u (Some its) is = ap Some (same_uid its u is)

left : (a b : Bool) → (a && b) ≡ true → a ≡ true
left true b h = refl
left false b h = cc h

right : (a b : Bool) → (a && b) ≡ true → b ≡ true
right true b h = h
right false b h = cc h

pub both_ways : ObjectNameLaw
both_ways u name = (
  (λ named. object_so u (object_by_name name) (right _ _ (name-passes is_found named_objects u name all_found named))),
  (λ named. named_so name (object_name u) (left _ _ (object-passes is_found named_objects u name all_found named))),
)
