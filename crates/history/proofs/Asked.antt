-- What is asked belongs to its method; which objects have an access row.
use Rattle.basics.specs.declared.profile.Profile.{Profile}
use Rattle.basics.specs.Profiles.{has_field}
use Rattle.basics.specs.declared.profile.Profile.TheVariants.{Base, Field, Opal}
use Rattle.std.proofs.Common.{◌≡◌, ℕ, ◌==◌, Bool, true, false, ◌&&◌, ◌||◌, not, List, [], ◌∷◌, Option, Some, None, refl, sym, ◌∙◌, ap, cond, eqb-true}
use Rattle.std.specs.Prelude.{◌-◌, ◌^◌, length, option_map, nat_le}
use Rattle.std.specs.List.{list_all}
use Rattle.basics.specs.declared.profile.Profile.{Profile}
use Rattle.basics.specs.declared.profile.Profile.TheVariants.{Base, Field, Opal}
use Rattle.sp_cells.specs.declared.names.Uid.{Uid}
use Rattle.sp_cells.specs.declared.names.Sp.{Sp}
use Rattle.sp_cells.specs.declared.names.Sp.TheVariants.{Admin, Locking}
use Rattle.sp_cells.specs.Names.{get, set, authenticate, activate, revert, gen_key, revert_sp, next, get_acl, uid, random}
use Rattle.sp_cells.specs.Authorities.{authorities_of_locking}
use Rattle.sp_cells.specs.Flat.{sp_eq}
use Rattle.ace_eval.specs.Access.{Grant, access_list, acl_in, this_sp_grants, owner_grants, label_grants, removal_grants, authority_grants, fixed_ace_gets, user_ace_grants, read_locked_ace_grants, write_locked_ace_grants, done_ace_grants, pin_grants, range_get_ace_grants, range_get_grants, range_set_grants, mbr_grants, info_grants, datastore_grants, key_grants, gen_key_ace_grants, own_grants, listed_grants, told_grants, method_grants, maker_grants, name_grants, mode_grants}
use Rattle.tcg_tokens.specs.Tree.{Tree, Trees, number, bytes, list, named}
use Rattle.tcg_tokens.specs.Tree as tree
use Rattle.tcg_calls.specs.Parameters.{start_row_parameter, end_row_parameter, start_column_parameter, end_column_parameter, where_parameter, values_parameter, next_where_parameter, next_count_parameter, proof_parameter, keep_global_range_key_parameter}
use Rattle.tcg_calls.specs.Named.{values_of, list_in, assignments, value_of, options, number_or, number_if_any, bytes_or_empty}
use Rattle.tcg_calls.specs.Asks.{uid_of, uid_in, is_byte_table, cellblock, columns_between, columns_asked_in, is_ordered, rows_between, rows_in, cells_of, cells_to_set, cells_in, bytes_to_set, bytes_in, proof_of, proof_in, attempt_in, without_arguments, get_of, set_of, keep_of, keep_in, row_if_any, rows_asked_behind, next_in, line_asked, get_acl_of, other_ask_of, ask_of, random_of}
use Rattle.tcg_calls.specs.declared.call_shapes.ask.Ask.{Ask}
use Rattle.tcg_calls.specs.declared.call_shapes.ask.Ask.TheVariants.{GetCells, GetBytes, SetCells, SetBytes, Authenticate, Activate, Revert, GenKey, RevertSp, Next, GetAcl, Other, Random}
use Rattle.methods.specs.Judgement.{asked}
use Rattle.history.specs.Deeds.{is_set_in_admin}

-- the method that an ask is of; any for one that the drive does not know
abbrev is_own_of_field : Profile → Uid → Uid → Bool
is_own_of_field Base wanted method = false
is_own_of_field Field wanted method = method.0 == wanted.0
is_own_of_field Opal wanted method = method.0 == wanted.0

-- and one of the opal profile
abbrev is_own_of_opal : Profile → Uid → Uid → Bool
is_own_of_opal Base wanted method = false
is_own_of_opal Field wanted method = false
is_own_of_opal Opal wanted method = method.0 == wanted.0

abbrev pub is_own : Profile → Ask → Uid → Bool
is_own profile (GetCells first last) method = method.0 == get.0
is_own profile (GetBytes first last) method = method.0 == get.0
is_own profile (SetCells values) method = method.0 == set.0
is_own profile (SetBytes at content) method = method.0 == set.0
is_own profile (Authenticate authority pin) method = method.0 == authenticate.0
is_own profile Activate method = method.0 == activate.0
is_own profile Revert method = method.0 == revert.0
is_own profile GenKey method = is_own_of_field profile gen_key method
is_own profile (RevertSp keep) method = is_own_of_field profile revert_sp method
is_own profile (Next after count) method = is_own_of_opal profile next method
is_own profile (GetAcl about what) method = is_own_of_opal profile get_acl method
is_own profile (Random count) method = is_own_of_opal profile random method
is_own profile Other method = true

-- a method of the field profile
pub own-of-field : (profile : Profile) (wanted method : Uid) → is_own_of_field profile wanted method ≡ true → (has_field profile ≡ true) × ((method.0 == wanted.0) ≡ true)
own-of-field Base wanted method h = cc
own-of-field Field wanted method h = (refl, h)
own-of-field Opal wanted method h = (refl, h)

-- where something is given, it passes
record Gives {A : Type 0} (p : A → Bool) (o : Option A) : Type 0 where
  it : (x : A) → o ≡ Some x → p x ≡ true

gives-none : {A : Type 0} (p : A → Bool) → Gives p None
gives-none p = record { it = λ x h. absurd (clash h) }
  where
    clash : {A : Type 0} {x : A} → None ≡ Some x → ⊥
    clash h = cc

some-same : {A : Type 0} {x y : A} → Some x ≡ Some y → y ≡ x
some-same h = cc

gives-some : {A : Type 0} (p : A → Bool) (x : A) → p x ≡ true → Gives p (Some x)
gives-some p x h = record { it = λ y is. ap p (some-same is) ∙ h }

gives-if : {A : Type 0} (p : A → Bool) (b : Bool) (x y : Option A) → Gives p x → Gives p y → Gives p (cond b x y)
gives-if p true x y h g = h
gives-if p false x y h g = g

-- Get
columns-gives : (p : Ask → Bool) (x : Option (List (ℕ × Tree))) → ((first last : ℕ) → p (GetCells first last) ≡ true) → Gives p (columns_asked_in x)
columns-gives p None h = gives-none p
columns-gives p (Some ps) h = between (number_or 0 (value_of start_column_parameter ps)) (number_or (2 ^ 64 - 1) (value_of end_column_parameter ps))
  where
    between : (a b : Option ℕ) → Gives p (columns_between a b)
    between None b = gives-none p
    between (Some a) None = gives-none p
    between (Some a) (Some b) = gives-if p (nat_le a b) _ None (gives-some p (GetCells a b) (h a b)) (gives-none p)

rows-gives : (p : Ask → Bool) (x : Option (List (ℕ × Tree))) → ((first : ℕ) (last : Option ℕ) → p (GetBytes first last) ≡ true) → Gives p (rows_in x)
rows-gives p None h = gives-none p
rows-gives p (Some ps) h = between (number_or 0 (value_of start_row_parameter ps)) (number_if_any (value_of end_row_parameter ps))
  where
    between : (a : Option ℕ) (b : Option (Option ℕ)) → Gives p (rows_between a b)
    between None b = gives-none p
    between (Some a) None = gives-none p
    between (Some a) (Some b) = gives-if p (is_ordered a b) _ None (gives-some p (GetBytes a b) (h a b)) (gives-none p)

get-gives : (p : Ask → Bool) (b : Bool) (args : List Tree) → ((first : ℕ) (last : Option ℕ) → p (GetBytes first last) ≡ true) → ((first last : ℕ) → p (GetCells first last) ≡ true) → Gives p (get_of b args)
get-gives p true args h g = rows-gives p (cellblock start_row_parameter end_row_parameter args) h
get-gives p false args h g = columns-gives p (cellblock start_column_parameter end_column_parameter args) g

-- Set
assigned-gives : (p : Ask → Bool) (x : Option (List (ℕ × Tree))) → ((values : List (ℕ × Tree)) → p (SetCells values) ≡ true) → Gives p (option_map SetCells x)
assigned-gives p None h = gives-none p
assigned-gives p (Some values) h = gives-some p (SetCells values) (h values)

list-gives : (p : Ask → Bool) (x : Option (List Tree)) → ((values : List (ℕ × Tree)) → p (SetCells values) ≡ true) → Gives p (cells_of x)
list-gives p None h = gives-none p
list-gives p (Some ts) h = assigned-gives p (assignments ts) h

value-gives : (p : Ask → Bool) (x : Option Tree) → ((values : List (ℕ × Tree)) → p (SetCells values) ≡ true) → Gives p (cells_to_set x)
value-gives p None h = gives-none p
value-gives p (Some t) h = list-gives p (list_in t) h

cells-gives : (p : Ask → Bool) (x : Option (List (ℕ × Tree))) → ((values : List (ℕ × Tree)) → p (SetCells values) ≡ true) → Gives p (cells_in x)
cells-gives p None h = gives-none p
cells-gives p (Some ps) h = value-gives p (value_of values_parameter ps) h

bytes-gives : (p : Ask → Bool) (x : Option (List (ℕ × Tree))) → ((at : ℕ) (content : List ℕ) → p (SetBytes at content) ≡ true) → Gives p (bytes_in x)
bytes-gives p None h = gives-none p
bytes-gives p (Some ps) h = by_parts (number_or 0 (value_of where_parameter ps)) (value_of values_parameter ps)
  where
    by_parts : (a : Option ℕ) (b : Option Tree) → Gives p (bytes_to_set a b)
    by_parts None b = gives-none p
    by_parts (Some a) None = gives-none p
    by_parts (Some a) (Some (tree.bytes content)) = gives-some p (SetBytes a content) (h a content)
    by_parts (Some a) (Some (tree.number n)) = gives-none p
    by_parts (Some a) (Some (tree.list ts)) = gives-none p
    by_parts (Some a) (Some (tree.named n v)) = gives-none p

set-gives : (p : Ask → Bool) (b : Bool) (args : List Tree) → ((at : ℕ) (content : List ℕ) → p (SetBytes at content) ≡ true) → ((values : List (ℕ × Tree)) → p (SetCells values) ≡ true) → Gives p (set_of b args)
set-gives p true args h g = bytes-gives p (options (where_parameter ∷ values_parameter ∷ []) args) h
set-gives p false args h g = cells-gives p (options (values_parameter ∷ []) args) g

-- Authenticate, Activate, Revert
proof-gives : (p : Ask → Bool) (a : Uid) (x : Option (List (ℕ × Tree))) → ((pin : List ℕ) → p (Authenticate a pin) ≡ true) → Gives p (proof_in a x)
proof-gives p a None h = gives-none p
proof-gives p a (Some ps) h = by_bytes (bytes_or_empty (value_of proof_parameter ps))
  where
    by_bytes : (x : Option (List ℕ)) → Gives p (proof_of a x)
    by_bytes None = gives-none p
    by_bytes (Some pin) = gives-some p (Authenticate a pin) (h pin)

attempt-gives : (p : Ask → Bool) (args : List Tree) → ((a : Uid) (pin : List ℕ) → p (Authenticate a pin) ≡ true) → Gives p (attempt_in args)
attempt-gives p [] h = gives-none p
attempt-gives p (tree.bytes b ∷ rest) h = gives-if p (length b == 8) _ None (proof-gives p (uid_of b) (options (proof_parameter ∷ []) rest) (h (uid_of b))) (gives-none p)
attempt-gives p (tree.number n ∷ rest) h = gives-none p
attempt-gives p (tree.list ts ∷ rest) h = gives-none p
attempt-gives p (tree.named n v ∷ rest) h = gives-none p

nothing-gives : (p : Ask → Bool) (ask : Ask) (args : List Tree) → p ask ≡ true → Gives p (without_arguments ask args)
nothing-gives p ask [] h = gives-some p ask h
nothing-gives p ask (t ∷ ts) h = gives-none p

-- by one test after another
by-test : (p : Ask → Bool) (b : Bool) (x y : Option Ask) → (b ≡ true → Gives p x) → (b ≡ false → Gives p y) → Gives p (cond b x y)
by-test p true x y h g = h refl
by-test p false x y h g = g refl

keep-gives : (p : Ask → Bool) (x : Option (List (ℕ × Tree))) → ((keep : Bool) → p (RevertSp keep) ≡ true) → Gives p (keep_in x)
keep-gives p None h = gives-none p
keep-gives p (Some ps) h = by_number (number_or 0 (value_of keep_global_range_key_parameter ps))
  where
    by_number : (x : Option ℕ) → Gives p (keep_of x)
    by_number None = gives-none p
    by_number (Some n) = gives-if p (n == 0) _ _ (gives-some p (RevertSp false) (h false)) (gives-if p (n == 1) _ _ (gives-some p (RevertSp true) (h true)) (gives-none p))

next-gives : (p : Ask → Bool) (x : Option (List (ℕ × Tree))) → ((after : Option Uid) (count : Option ℕ) → p (Next after count) ≡ true) → Gives p (next_in x)
next-gives p None h = gives-none p
next-gives p (Some ps) h = by_row (row_if_any (value_of next_where_parameter ps)) (number_if_any (value_of next_count_parameter ps))
  where
    by_row : (after : Option (Option Uid)) (count : Option (Option ℕ)) → Gives p (rows_asked_behind after count)
    by_row None count = gives-none p
    by_row (Some after) None = gives-none p
    by_row (Some after) (Some count) = gives-some p (Next after count) (h after count)

line-gives : (p : Ask → Bool) (object method : Option Uid) → ((about what : Uid) → p (GetAcl about what) ≡ true) → Gives p (line_asked object method)
line-gives p None method h = gives-none p
line-gives p (Some object) None h = gives-none p
line-gives p (Some object) (Some method) h = gives-some p (GetAcl object method) (h object method)

acl-gives : (p : Ask → Bool) (args : List Tree) → ((about what : Uid) → p (GetAcl about what) ≡ true) → Gives p (get_acl_of args)
acl-gives p [] h = gives-none p
acl-gives p (object ∷ []) h = gives-none p
acl-gives p (object ∷ method ∷ []) h = line-gives p (uid_in object) (uid_in method) h
acl-gives p (object ∷ method ∷ t ∷ ts) h = gives-none p

random-gives : (p : Ask → Bool) (args : List Tree) → ((count : ℕ) → p (Random count) ≡ true) → Gives p (random_of args)
random-gives p [] h = gives-none p
random-gives p (number count ∷ []) h = gives-some p (Random count) (h count)
random-gives p (bytes b ∷ []) h = gives-none p
random-gives p (list ts ∷ []) h = gives-none p
random-gives p (named n v ∷ []) h = gives-none p
random-gives p (number count ∷ t ∷ ts) h = gives-none p
random-gives p (bytes b ∷ t ∷ ts) h = gives-none p
random-gives p (list us ∷ t ∷ ts) h = gives-none p
random-gives p (named n v ∷ t ∷ ts) h = gives-none p

other-gives : (profile : Profile) (method : Uid) (args : List Tree) → Gives (λ ask. is_own profile ask method) (other_ask_of profile method args)
other-gives Base method args = gives-some (λ ask. is_own Base ask method) Other refl
other-gives Field method args =
    let p : Ask → Bool = λ ask. is_own Field ask method in
    by-test p (method.0 == gen_key.0) _ _ (λ is. nothing-gives p GenKey args is) (λ no_key.
    by-test p (method.0 == revert_sp.0) _ _ (λ is. keep-gives p (options (keep_global_range_key_parameter ∷ []) args) (λ keep. is)) (λ no_revert. gives-some p Other refl))
other-gives Opal method args =
    let p : Ask → Bool = λ ask. is_own Opal ask method in
    by-test p (method.0 == next.0) _ _ (λ is. next-gives p (options (next_where_parameter ∷ next_count_parameter ∷ []) args) (λ after count. is)) (λ no_next.
    by-test p (method.0 == get_acl.0) _ _ (λ is. acl-gives p args (λ about what. is)) (λ no_acl.
    by-test p (method.0 == random.0) _ _ (λ is. random-gives p args (λ count. is)) (λ no_random.
    by-test p (method.0 == gen_key.0) _ _ (λ is. nothing-gives p GenKey args is) (λ no_key.
    by-test p (method.0 == revert_sp.0) _ _ (λ is. keep-gives p (options (keep_global_range_key_parameter ∷ []) args) (λ keep. is)) (λ no_revert. gives-some p Other refl)))))

asked-gives : (profile : Profile) (sp : Sp) (object method : Uid) (args : List Tree) → Gives (λ ask. is_own profile ask method) (ask_of profile sp object method args)
asked-gives profile sp object method args =
    let p : Ask → Bool = λ ask. is_own profile ask method in
    by-test p (method.0 == get.0) _ _ (λ is. get-gives p (is_byte_table profile sp object) args (λ a b. is) (λ a b. is)) (λ no_get.
    by-test p (method.0 == set.0) _ _ (λ is. set-gives p (is_byte_table profile sp object) args (λ a b. is) (λ a. is)) (λ no_set.
    by-test p (method.0 == authenticate.0) _ _ (λ is. attempt-gives p args (λ a b. is)) (λ no_authenticate.
    by-test p (method.0 == activate.0) _ _ (λ is. nothing-gives p Activate args is) (λ no_activate.
    by-test p (method.0 == revert.0) _ _ (λ is. nothing-gives p Revert args is) (λ no_revert. other-gives profile method args)))))

pub asked-own : (profile : Profile) (sp : Sp) (object method : Uid) (args : Trees) (ask : Ask) → asked profile sp object method args ≡ Some ask → is_own profile ask method ≡ true
asked-own profile sp object method args ask h = (asked-gives profile sp object method (values_of args)).it ask h

-- the objects that have a row
abbrev pub is_row_of : Sp → Uid → Grant → Bool
is_row_of sp method g = sp_eq g.sp sp && (g.method.0 == method.0)

row-step : (q : ℕ → Bool) (sp : Sp) (object method : Uid) (g : Grant) (rest : Option (List Uid)) (row : List Uid) (a b c : Bool) → sp_eq g.sp sp ≡ a → (g.object.0 == object.0) ≡ b → (g.method.0 == method.0) ≡ c
    → (not (a && c) || q g.object.0) ≡ true → (rest ≡ Some row → q object.0 ≡ true) → cond (a && b && c) (Some g.acl) rest ≡ Some row → q object.0 ≡ true
row-step q sp object method g rest row true true true is_sp is_object is_method ok later h = ap q (sym (eqb-true g.object.0 object.0 is_object)) ∙ ok
row-step q sp object method g rest row true true false is_sp is_object is_method ok later h = later h
row-step q sp object method g rest row true false c is_sp is_object is_method ok later h = later h
row-step q sp object method g rest row false b c is_sp is_object is_method ok later h = later h

and-true : (a b : Bool) → (a && b) ≡ true → (a ≡ true) × (b ≡ true)
and-true true b h = (refl, h)
and-true false b h = cc

pub rows-among : (q : ℕ → Bool) (sp : Sp) (object method : Uid) (gs : List Grant) (row : List Uid) → list_all (λ g. not (is_row_of sp method g) || q g.object.0) gs ≡ true → acl_in gs sp object method ≡ Some row → q object.0 ≡ true
rows-among q sp object method [] row ok h = cc
rows-among q sp object method (g ∷ gs) row ok h =
    let parts = and-true (not (is_row_of sp method g) || q g.object.0) (list_all (λ g. not (is_row_of sp method g) || q g.object.0) gs) ok in
    row-step q sp object method g (acl_in gs sp object method) row (sp_eq g.sp sp) (g.object.0 == object.0) (g.method.0 == method.0) refl refl refl parts.0 (rows-among q sp object method gs row parts.1) h

same-method : (profile : Profile) (method wanted : Uid) (sp : Sp) (object : Uid) (row : List Uid) → (method.0 == wanted.0) ≡ true → acl_in (access_list profile) sp object method ≡ Some row → acl_in (access_list profile) sp object wanted ≡ Some row
same-method profile method wanted sp object row is h = ap (λ (n : ℕ). acl_in (access_list profile) sp object (record { 0 = n })) (sym (eqb-true method.0 wanted.0 is)) ∙ h

no_activate : (profile : Profile) → list_all (λ g. not (is_row_of Locking activate g) || false) (access_list profile) ≡ true
unfolding this_sp_grants owner_grants label_grants removal_grants authority_grants fixed_ace_gets user_ace_grants range_get_ace_grants gen_key_ace_grants read_locked_ace_grants write_locked_ace_grants done_ace_grants pin_grants range_get_grants range_set_grants mbr_grants info_grants datastore_grants key_grants own_grants listed_grants told_grants method_grants maker_grants name_grants mode_grants authorities_of_locking
no_activate Base = refl
no_activate Field = refl
no_activate Opal = refl

no_revert : (profile : Profile) → list_all (λ g. not (is_row_of Locking revert g) || false) (access_list profile) ≡ true
unfolding this_sp_grants owner_grants label_grants removal_grants authority_grants fixed_ace_gets user_ace_grants range_get_ace_grants gen_key_ace_grants read_locked_ace_grants write_locked_ace_grants done_ace_grants pin_grants range_get_grants range_set_grants mbr_grants info_grants datastore_grants key_grants own_grants listed_grants told_grants method_grants maker_grants name_grants mode_grants authorities_of_locking
no_revert Base = refl
no_revert Field = refl
no_revert Opal = refl

no_gen_key : (profile : Profile) → list_all (λ g. not (is_row_of Admin gen_key g) || false) (access_list profile) ≡ true
unfolding this_sp_grants owner_grants label_grants removal_grants authority_grants fixed_ace_gets user_ace_grants range_get_ace_grants gen_key_ace_grants read_locked_ace_grants write_locked_ace_grants done_ace_grants pin_grants range_get_grants range_set_grants mbr_grants info_grants datastore_grants key_grants own_grants listed_grants told_grants method_grants maker_grants name_grants mode_grants authorities_of_locking
no_gen_key Base = refl
no_gen_key Field = refl
no_gen_key Opal = refl

no_revert_sp : (profile : Profile) → list_all (λ g. not (is_row_of Admin revert_sp g) || false) (access_list profile) ≡ true
unfolding this_sp_grants owner_grants label_grants removal_grants authority_grants fixed_ace_gets user_ace_grants range_get_ace_grants gen_key_ace_grants read_locked_ace_grants write_locked_ace_grants done_ace_grants pin_grants range_get_grants range_set_grants mbr_grants info_grants datastore_grants key_grants own_grants listed_grants told_grants method_grants maker_grants name_grants mode_grants authorities_of_locking
no_revert_sp Base = refl
no_revert_sp Field = refl
no_revert_sp Opal = refl

only_set_rows : (profile : Profile) → list_all (λ g. not (is_row_of Admin set g) || is_set_in_admin profile g.object) (access_list profile) ≡ true
unfolding this_sp_grants owner_grants label_grants removal_grants authority_grants fixed_ace_gets user_ace_grants range_get_ace_grants gen_key_ace_grants read_locked_ace_grants write_locked_ace_grants done_ace_grants pin_grants range_get_grants range_set_grants mbr_grants info_grants datastore_grants key_grants own_grants listed_grants told_grants method_grants maker_grants name_grants mode_grants authorities_of_locking
only_set_rows Base = refl
only_set_rows Field = refl
only_set_rows Opal = refl

-- Activate and Revert are of the Admin SP; a Set there is of one of three rows
pub activate-admin : (profile : Profile) (sp : Sp) (object method : Uid) (row : List Uid) → (method.0 == activate.0) ≡ true → acl_in (access_list profile) sp object method ≡ Some row → sp ≡ Admin
activate-admin profile Admin object method row is h = refl
activate-admin profile Locking object method row is h = let g : false ≡ true = rows-among (λ n. false) Locking object activate (access_list profile) row (no_activate profile) (same-method profile method activate Locking object row is h) in cc

pub revert-admin : (profile : Profile) (sp : Sp) (object method : Uid) (row : List Uid) → (method.0 == revert.0) ≡ true → acl_in (access_list profile) sp object method ≡ Some row → sp ≡ Admin
revert-admin profile Admin object method row is h = refl
revert-admin profile Locking object method row is h = let g : false ≡ true = rows-among (λ n. false) Locking object revert (access_list profile) row (no_revert profile) (same-method profile method revert Locking object row is h) in cc

-- GenKey and RevertSP are of the Locking SP
pub gen-key-locking : (profile : Profile) (sp : Sp) (object method : Uid) (row : List Uid) → (method.0 == gen_key.0) ≡ true → acl_in (access_list profile) sp object method ≡ Some row → sp ≡ Locking
gen-key-locking profile Locking object method row is h = refl
gen-key-locking profile Admin object method row is h = let g : false ≡ true = rows-among (λ n. false) Admin object gen_key (access_list profile) row (no_gen_key profile) (same-method profile method gen_key Admin object row is h) in cc

pub revert-sp-locking : (profile : Profile) (sp : Sp) (object method : Uid) (row : List Uid) → (method.0 == revert_sp.0) ≡ true → acl_in (access_list profile) sp object method ≡ Some row → sp ≡ Locking
revert-sp-locking profile Locking object method row is h = refl
revert-sp-locking profile Admin object method row is h = let g : false ≡ true = rows-among (λ n. false) Admin object revert_sp (access_list profile) row (no_revert_sp profile) (same-method profile method revert_sp Admin object row is h) in cc

pub set-in-admin : (profile : Profile) (object method : Uid) (row : List Uid) → (method.0 == set.0) ≡ true → acl_in (access_list profile) Admin object method ≡ Some row → is_set_in_admin profile object ≡ true
set-in-admin profile object method row is h = rows-among (λ n. is_set_in_admin profile (uid n)) Admin object set (access_list profile) row (only_set_rows profile) (same-method profile method set Admin object row is h)
