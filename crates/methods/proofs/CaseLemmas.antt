-- Each method of the access list has a case, and each cell of a new drive stands in a column of its kind.
use Rattle.std.proofs.Common.{◌≡◌, ◌==◌, ◌&&◌, ◌||◌, ◌-◌, ◌^◌, ℕ, Bool, true, false, List, [], ◌∷◌, Option, None, Some, is_some, option_map, refl, ap, sym, subst, ◌∙◌, if◌then◌else◌, inl, inr}
use Rattle.basics.specs.declared.profile.Profile.{Profile}
use Rattle.basics.specs.declared.profile.Profile.TheVariants.{Base, Field, Opal}
use Rattle.sp_cells.specs.Names.{uid, none, col, get, set, authenticate, activate, revert, gen_key, revert_sp, next, get_acl, random}
use Rattle.std.specs.List.{list_all, list_any}
use Rattle.std.proofs.lemmas.Bool.Decides.{eqb_tells}
use Rattle.sp_cells.specs.declared.names.Uid.{Uid}
use Rattle.sp_cells.specs.declared.names.Sp.{Sp}
use Rattle.sp_cells.specs.declared.names.Sp.TheVariants.{Admin, Locking}
use Rattle.sp_cells.specs.declared.names.Column.{Column}
use Rattle.sp_cells.specs.Authorities.{authorities_of_locking}
use Rattle.sp_cells.specs.ColumnNames.{uid_column}
use Rattle.sp_cells.specs.Config.{Config, sizes_in}
use Rattle.sp_cells.specs.declared.byte_tables.TableSizes.{TableSizes}
use Rattle.sp_cells.specs.Flat.{sp_eq}
use Rattle.sp_tables.specs.Items.{Item, is_here, item_at}
use Rattle.sp_tables.specs.Factory.{admin_factory, locking_factory, admin_sps, admin_authorities, label_authorities, locking_authorities, admin_pins, label_pins, locking_pins, locking_ranges, locking_mbr_controls, admin_aces, label_aces, removal_aces, data_removals, authority_aces, pin_aces, range_get_aces, range_aces, mbr_aces, gen_key_aces, range_keys, locking_infos, byte_tables, datastore_aces, opal_authorities, opal_pins, opal_admin_aces, opal_locking_aces, admin_constants, locking_constants}
use Rattle.ace_eval.specs.Access.{Grant, acl_in, this_sp_grants, owner_grants, label_grants, removal_grants, authority_grants, fixed_ace_gets, user_ace_grants, range_get_ace_grants, gen_key_ace_grants, read_locked_ace_grants, write_locked_ace_grants, done_ace_grants, pin_grants, range_get_grants, range_set_grants, mbr_grants, info_grants, datastore_grants, key_grants, access_list, own_grants, listed_grants, told_grants, method_grants, maker_grants, name_grants, mode_grants}
use Rattle.tcg_tokens.specs.Tree.{Tree, number, bytes, list, named}
use Rattle.tcg_calls.specs.declared.call_shapes.ask.Ask.{Ask}
use Rattle.tcg_calls.specs.declared.call_shapes.ask.Ask.TheVariants.{GetCells, GetBytes, SetCells, SetBytes, Authenticate, Activate, Revert, GenKey, RevertSp, Next, GetAcl, Random, Other}
use Rattle.tcg_calls.specs.Named.{list_in, value_of, options, number_or, number_if_any, bytes_or_empty, assignments}
use Rattle.tcg_calls.specs.Parameters.{start_row_parameter, end_row_parameter, start_column_parameter, end_column_parameter, where_parameter, values_parameter, next_where_parameter, next_count_parameter, proof_parameter, keep_global_range_key_parameter}
use Rattle.tcg_calls.specs.Asks.{uid_of, uid_in, is_byte_table, cellblock, columns_between, columns_asked_in, is_ordered, rows_between, rows_in, cells_of, cells_to_set, cells_in, bytes_to_set, bytes_in, proof_of, proof_in, attempt_in, without_arguments, get_of, set_of, keep_of, keep_in, row_if_any, rows_asked_behind, next_in, line_asked, get_acl_of, random_of, other_ask_of, ask_of}
use Rattle.methods.specs.declared.kinds.Kind.{Kind}
use Rattle.methods.specs.declared.kinds.Kind.TheVariants as kinds
use Rattle.methods.specs.Kinds.{kind_of}
use Rattle.methods.specs.Effects.{has_ask}
use Rattle.methods.specs.Laws.{IsAmong}
use Rattle.methods.specs.Cases.{CaseLaw, KindColumnLaw, HasCell, new_cells, columns_under}

-- ---- what is asked, by its shape alone

-- one for each shape
abbrev some_uid : Uid
some_uid = none

abbrev sketch : Ask → Ask
sketch (GetCells first last) = GetCells 0 0
sketch (GetBytes first last) = GetBytes 0 None
sketch (SetCells ps) = SetCells []
sketch (SetBytes at bs) = SetBytes 0 []
sketch (Authenticate authority proof) = Authenticate some_uid []
sketch Activate = Activate
sketch Revert = Revert
sketch GenKey = GenKey
sketch (RevertSp keep) = RevertSp false
sketch (Next after count) = Next None None
sketch (GetAcl about what) = GetAcl some_uid some_uid
sketch (Random count) = Random 0
sketch Other = Other

abbrev sketch_of_other : Profile → Uid → Ask
sketch_of_other Base method = Other
sketch_of_other Field method =
    if method.0 == gen_key.0 then GenKey else
    if method.0 == revert_sp.0 then RevertSp false else
    Other
sketch_of_other Opal method =
    if method.0 == next.0 then Next None None else
    if method.0 == get_acl.0 then GetAcl some_uid some_uid else
    if method.0 == random.0 then Random 0 else
    if method.0 == gen_key.0 then GenKey else
    if method.0 == revert_sp.0 then RevertSp false else
    Other

abbrev sketch_of : Profile → Sp → Uid → Uid → Ask
sketch_of profile sp object method =
    if method.0 == get.0 then (if is_byte_table profile sp object then GetBytes 0 None else GetCells 0 0) else
    if method.0 == set.0 then (if is_byte_table profile sp object then SetBytes 0 [] else SetCells []) else
    if method.0 == authenticate.0 then Authenticate some_uid [] else
    if method.0 == activate.0 then Activate else
    if method.0 == revert.0 then Revert else
    sketch_of_other profile method

-- a kind has what is asked by its shape
same_shape : (kind : Option Kind) (ask : Ask) → has_ask kind ask ≡ has_ask kind (sketch ask)
same_shape None ask = refl
same_shape (Some kinds.ThisSp) (GetCells f l) = refl
same_shape (Some kinds.ThisSp) (GetBytes f l) = refl
same_shape (Some kinds.ThisSp) (SetCells ps) = refl
same_shape (Some kinds.ThisSp) (SetBytes a b) = refl
same_shape (Some kinds.ThisSp) (Authenticate a p) = refl
same_shape (Some kinds.ThisSp) Activate = refl
same_shape (Some kinds.ThisSp) Revert = refl
same_shape (Some kinds.ThisSp) GenKey = refl
same_shape (Some kinds.ThisSp) (RevertSp keep) = refl
same_shape (Some kinds.ThisSp) (Next after count) = refl
same_shape (Some kinds.ThisSp) (GetAcl about what) = refl
same_shape (Some kinds.ThisSp) (Random count) = refl
same_shape (Some kinds.ThisSp) Other = refl
same_shape (Some kinds.Sp) (GetCells f l) = refl
same_shape (Some kinds.Sp) (GetBytes f l) = refl
same_shape (Some kinds.Sp) (SetCells ps) = refl
same_shape (Some kinds.Sp) (SetBytes a b) = refl
same_shape (Some kinds.Sp) (Authenticate a p) = refl
same_shape (Some kinds.Sp) Activate = refl
same_shape (Some kinds.Sp) Revert = refl
same_shape (Some kinds.Sp) GenKey = refl
same_shape (Some kinds.Sp) (RevertSp keep) = refl
same_shape (Some kinds.Sp) (Next after count) = refl
same_shape (Some kinds.Sp) (GetAcl about what) = refl
same_shape (Some kinds.Sp) (Random count) = refl
same_shape (Some kinds.Sp) Other = refl
same_shape (Some kinds.Authority) (GetCells f l) = refl
same_shape (Some kinds.Authority) (GetBytes f l) = refl
same_shape (Some kinds.Authority) (SetCells ps) = refl
same_shape (Some kinds.Authority) (SetBytes a b) = refl
same_shape (Some kinds.Authority) (Authenticate a p) = refl
same_shape (Some kinds.Authority) Activate = refl
same_shape (Some kinds.Authority) Revert = refl
same_shape (Some kinds.Authority) GenKey = refl
same_shape (Some kinds.Authority) (RevertSp keep) = refl
same_shape (Some kinds.Authority) (Next after count) = refl
same_shape (Some kinds.Authority) (GetAcl about what) = refl
same_shape (Some kinds.Authority) (Random count) = refl
same_shape (Some kinds.Authority) Other = refl
same_shape (Some kinds.CPin) (GetCells f l) = refl
same_shape (Some kinds.CPin) (GetBytes f l) = refl
same_shape (Some kinds.CPin) (SetCells ps) = refl
same_shape (Some kinds.CPin) (SetBytes a b) = refl
same_shape (Some kinds.CPin) (Authenticate a p) = refl
same_shape (Some kinds.CPin) Activate = refl
same_shape (Some kinds.CPin) Revert = refl
same_shape (Some kinds.CPin) GenKey = refl
same_shape (Some kinds.CPin) (RevertSp keep) = refl
same_shape (Some kinds.CPin) (Next after count) = refl
same_shape (Some kinds.CPin) (GetAcl about what) = refl
same_shape (Some kinds.CPin) (Random count) = refl
same_shape (Some kinds.CPin) Other = refl
same_shape (Some kinds.Ace) (GetCells f l) = refl
same_shape (Some kinds.Ace) (GetBytes f l) = refl
same_shape (Some kinds.Ace) (SetCells ps) = refl
same_shape (Some kinds.Ace) (SetBytes a b) = refl
same_shape (Some kinds.Ace) (Authenticate a p) = refl
same_shape (Some kinds.Ace) Activate = refl
same_shape (Some kinds.Ace) Revert = refl
same_shape (Some kinds.Ace) GenKey = refl
same_shape (Some kinds.Ace) (RevertSp keep) = refl
same_shape (Some kinds.Ace) (Next after count) = refl
same_shape (Some kinds.Ace) (GetAcl about what) = refl
same_shape (Some kinds.Ace) (Random count) = refl
same_shape (Some kinds.Ace) Other = refl
same_shape (Some kinds.Locking) (GetCells f l) = refl
same_shape (Some kinds.Locking) (GetBytes f l) = refl
same_shape (Some kinds.Locking) (SetCells ps) = refl
same_shape (Some kinds.Locking) (SetBytes a b) = refl
same_shape (Some kinds.Locking) (Authenticate a p) = refl
same_shape (Some kinds.Locking) Activate = refl
same_shape (Some kinds.Locking) Revert = refl
same_shape (Some kinds.Locking) GenKey = refl
same_shape (Some kinds.Locking) (RevertSp keep) = refl
same_shape (Some kinds.Locking) (Next after count) = refl
same_shape (Some kinds.Locking) (GetAcl about what) = refl
same_shape (Some kinds.Locking) (Random count) = refl
same_shape (Some kinds.Locking) Other = refl
same_shape (Some kinds.MbrControl) (GetCells f l) = refl
same_shape (Some kinds.MbrControl) (GetBytes f l) = refl
same_shape (Some kinds.MbrControl) (SetCells ps) = refl
same_shape (Some kinds.MbrControl) (SetBytes a b) = refl
same_shape (Some kinds.MbrControl) (Authenticate a p) = refl
same_shape (Some kinds.MbrControl) Activate = refl
same_shape (Some kinds.MbrControl) Revert = refl
same_shape (Some kinds.MbrControl) GenKey = refl
same_shape (Some kinds.MbrControl) (RevertSp keep) = refl
same_shape (Some kinds.MbrControl) (Next after count) = refl
same_shape (Some kinds.MbrControl) (GetAcl about what) = refl
same_shape (Some kinds.MbrControl) (Random count) = refl
same_shape (Some kinds.MbrControl) Other = refl
same_shape (Some kinds.TperInfo) (GetCells f l) = refl
same_shape (Some kinds.TperInfo) (GetBytes f l) = refl
same_shape (Some kinds.TperInfo) (SetCells ps) = refl
same_shape (Some kinds.TperInfo) (SetBytes a b) = refl
same_shape (Some kinds.TperInfo) (Authenticate a p) = refl
same_shape (Some kinds.TperInfo) Activate = refl
same_shape (Some kinds.TperInfo) Revert = refl
same_shape (Some kinds.TperInfo) GenKey = refl
same_shape (Some kinds.TperInfo) (RevertSp keep) = refl
same_shape (Some kinds.TperInfo) (Next after count) = refl
same_shape (Some kinds.TperInfo) (GetAcl about what) = refl
same_shape (Some kinds.TperInfo) (Random count) = refl
same_shape (Some kinds.TperInfo) Other = refl
same_shape (Some kinds.LockingInfo) (GetCells f l) = refl
same_shape (Some kinds.LockingInfo) (GetBytes f l) = refl
same_shape (Some kinds.LockingInfo) (SetCells ps) = refl
same_shape (Some kinds.LockingInfo) (SetBytes a b) = refl
same_shape (Some kinds.LockingInfo) (Authenticate a p) = refl
same_shape (Some kinds.LockingInfo) Activate = refl
same_shape (Some kinds.LockingInfo) Revert = refl
same_shape (Some kinds.LockingInfo) GenKey = refl
same_shape (Some kinds.LockingInfo) (RevertSp keep) = refl
same_shape (Some kinds.LockingInfo) (Next after count) = refl
same_shape (Some kinds.LockingInfo) (GetAcl about what) = refl
same_shape (Some kinds.LockingInfo) (Random count) = refl
same_shape (Some kinds.LockingInfo) Other = refl
same_shape (Some kinds.Table) (GetCells f l) = refl
same_shape (Some kinds.Table) (GetBytes f l) = refl
same_shape (Some kinds.Table) (SetCells ps) = refl
same_shape (Some kinds.Table) (SetBytes a b) = refl
same_shape (Some kinds.Table) (Authenticate a p) = refl
same_shape (Some kinds.Table) Activate = refl
same_shape (Some kinds.Table) Revert = refl
same_shape (Some kinds.Table) GenKey = refl
same_shape (Some kinds.Table) (RevertSp keep) = refl
same_shape (Some kinds.Table) (Next after count) = refl
same_shape (Some kinds.Table) (GetAcl about what) = refl
same_shape (Some kinds.Table) (Random count) = refl
same_shape (Some kinds.Table) Other = refl
same_shape (Some kinds.MbrTable) (GetCells f l) = refl
same_shape (Some kinds.MbrTable) (GetBytes f l) = refl
same_shape (Some kinds.MbrTable) (SetCells ps) = refl
same_shape (Some kinds.MbrTable) (SetBytes a b) = refl
same_shape (Some kinds.MbrTable) (Authenticate a p) = refl
same_shape (Some kinds.MbrTable) Activate = refl
same_shape (Some kinds.MbrTable) Revert = refl
same_shape (Some kinds.MbrTable) GenKey = refl
same_shape (Some kinds.MbrTable) (RevertSp keep) = refl
same_shape (Some kinds.MbrTable) (Next after count) = refl
same_shape (Some kinds.MbrTable) (GetAcl about what) = refl
same_shape (Some kinds.MbrTable) (Random count) = refl
same_shape (Some kinds.MbrTable) Other = refl
same_shape (Some kinds.DataStore) (GetCells f l) = refl
same_shape (Some kinds.DataStore) (GetBytes f l) = refl
same_shape (Some kinds.DataStore) (SetCells ps) = refl
same_shape (Some kinds.DataStore) (SetBytes a b) = refl
same_shape (Some kinds.DataStore) (Authenticate a p) = refl
same_shape (Some kinds.DataStore) Activate = refl
same_shape (Some kinds.DataStore) Revert = refl
same_shape (Some kinds.DataStore) GenKey = refl
same_shape (Some kinds.DataStore) (RevertSp keep) = refl
same_shape (Some kinds.DataStore) (Next after count) = refl
same_shape (Some kinds.DataStore) (GetAcl about what) = refl
same_shape (Some kinds.DataStore) (Random count) = refl
same_shape (Some kinds.DataStore) Other = refl
same_shape (Some kinds.DataRemoval) (GetCells f l) = refl
same_shape (Some kinds.DataRemoval) (GetBytes f l) = refl
same_shape (Some kinds.DataRemoval) (SetCells ps) = refl
same_shape (Some kinds.DataRemoval) (SetBytes a b) = refl
same_shape (Some kinds.DataRemoval) (Authenticate a p) = refl
same_shape (Some kinds.DataRemoval) Activate = refl
same_shape (Some kinds.DataRemoval) Revert = refl
same_shape (Some kinds.DataRemoval) GenKey = refl
same_shape (Some kinds.DataRemoval) (RevertSp keep) = refl
same_shape (Some kinds.DataRemoval) (Next after count) = refl
same_shape (Some kinds.DataRemoval) (GetAcl about what) = refl
same_shape (Some kinds.DataRemoval) (Random count) = refl
same_shape (Some kinds.DataRemoval) Other = refl
same_shape (Some kinds.Key) (GetCells f l) = refl
same_shape (Some kinds.Key) (GetBytes f l) = refl
same_shape (Some kinds.Key) (SetCells ps) = refl
same_shape (Some kinds.Key) (SetBytes a b) = refl
same_shape (Some kinds.Key) (Authenticate a p) = refl
same_shape (Some kinds.Key) Activate = refl
same_shape (Some kinds.Key) Revert = refl
same_shape (Some kinds.Key) GenKey = refl
same_shape (Some kinds.Key) (RevertSp keep) = refl
same_shape (Some kinds.Key) (Next after count) = refl
same_shape (Some kinds.Key) (GetAcl about what) = refl
same_shape (Some kinds.Key) (Random count) = refl
same_shape (Some kinds.Key) Other = refl
same_shape (Some kinds.WholeTable) (GetCells f l) = refl
same_shape (Some kinds.WholeTable) (GetBytes f l) = refl
same_shape (Some kinds.WholeTable) (SetCells ps) = refl
same_shape (Some kinds.WholeTable) (SetBytes a b) = refl
same_shape (Some kinds.WholeTable) (Authenticate a p) = refl
same_shape (Some kinds.WholeTable) Activate = refl
same_shape (Some kinds.WholeTable) Revert = refl
same_shape (Some kinds.WholeTable) GenKey = refl
same_shape (Some kinds.WholeTable) (RevertSp keep) = refl
same_shape (Some kinds.WholeTable) (Next after count) = refl
same_shape (Some kinds.WholeTable) (GetAcl about what) = refl
same_shape (Some kinds.WholeTable) (Random count) = refl
same_shape (Some kinds.WholeTable) Other = refl
same_shape (Some kinds.AccessControl) (GetCells f l) = refl
same_shape (Some kinds.AccessControl) (GetBytes f l) = refl
same_shape (Some kinds.AccessControl) (SetCells ps) = refl
same_shape (Some kinds.AccessControl) (SetBytes a b) = refl
same_shape (Some kinds.AccessControl) (Authenticate a p) = refl
same_shape (Some kinds.AccessControl) Activate = refl
same_shape (Some kinds.AccessControl) Revert = refl
same_shape (Some kinds.AccessControl) GenKey = refl
same_shape (Some kinds.AccessControl) (RevertSp keep) = refl
same_shape (Some kinds.AccessControl) (Next after count) = refl
same_shape (Some kinds.AccessControl) (GetAcl about what) = refl
same_shape (Some kinds.AccessControl) (Random count) = refl
same_shape (Some kinds.AccessControl) Other = refl
same_shape (Some kinds.ObjectTable) (GetCells f l) = refl
same_shape (Some kinds.ObjectTable) (GetBytes f l) = refl
same_shape (Some kinds.ObjectTable) (SetCells ps) = refl
same_shape (Some kinds.ObjectTable) (SetBytes a b) = refl
same_shape (Some kinds.ObjectTable) (Authenticate a p) = refl
same_shape (Some kinds.ObjectTable) Activate = refl
same_shape (Some kinds.ObjectTable) Revert = refl
same_shape (Some kinds.ObjectTable) GenKey = refl
same_shape (Some kinds.ObjectTable) (RevertSp keep) = refl
same_shape (Some kinds.ObjectTable) (Next after count) = refl
same_shape (Some kinds.ObjectTable) (GetAcl about what) = refl
same_shape (Some kinds.ObjectTable) (Random count) = refl
same_shape (Some kinds.ObjectTable) Other = refl
same_shape (Some kinds.SpInfo) (GetCells f l) = refl
same_shape (Some kinds.SpInfo) (GetBytes f l) = refl
same_shape (Some kinds.SpInfo) (SetCells ps) = refl
same_shape (Some kinds.SpInfo) (SetBytes a b) = refl
same_shape (Some kinds.SpInfo) (Authenticate a p) = refl
same_shape (Some kinds.SpInfo) Activate = refl
same_shape (Some kinds.SpInfo) Revert = refl
same_shape (Some kinds.SpInfo) GenKey = refl
same_shape (Some kinds.SpInfo) (RevertSp keep) = refl
same_shape (Some kinds.SpInfo) (Next after count) = refl
same_shape (Some kinds.SpInfo) (GetAcl about what) = refl
same_shape (Some kinds.SpInfo) (Random count) = refl
same_shape (Some kinds.SpInfo) Other = refl
same_shape (Some kinds.SpTemplates) (GetCells f l) = refl
same_shape (Some kinds.SpTemplates) (GetBytes f l) = refl
same_shape (Some kinds.SpTemplates) (SetCells ps) = refl
same_shape (Some kinds.SpTemplates) (SetBytes a b) = refl
same_shape (Some kinds.SpTemplates) (Authenticate a p) = refl
same_shape (Some kinds.SpTemplates) Activate = refl
same_shape (Some kinds.SpTemplates) Revert = refl
same_shape (Some kinds.SpTemplates) GenKey = refl
same_shape (Some kinds.SpTemplates) (RevertSp keep) = refl
same_shape (Some kinds.SpTemplates) (Next after count) = refl
same_shape (Some kinds.SpTemplates) (GetAcl about what) = refl
same_shape (Some kinds.SpTemplates) (Random count) = refl
same_shape (Some kinds.SpTemplates) Other = refl
same_shape (Some kinds.MethodId) (GetCells f l) = refl
same_shape (Some kinds.MethodId) (GetBytes f l) = refl
same_shape (Some kinds.MethodId) (SetCells ps) = refl
same_shape (Some kinds.MethodId) (SetBytes a b) = refl
same_shape (Some kinds.MethodId) (Authenticate a p) = refl
same_shape (Some kinds.MethodId) Activate = refl
same_shape (Some kinds.MethodId) Revert = refl
same_shape (Some kinds.MethodId) GenKey = refl
same_shape (Some kinds.MethodId) (RevertSp keep) = refl
same_shape (Some kinds.MethodId) (Next after count) = refl
same_shape (Some kinds.MethodId) (GetAcl about what) = refl
same_shape (Some kinds.MethodId) (Random count) = refl
same_shape (Some kinds.MethodId) Other = refl
same_shape (Some kinds.SecretProtect) (GetCells f l) = refl
same_shape (Some kinds.SecretProtect) (GetBytes f l) = refl
same_shape (Some kinds.SecretProtect) (SetCells ps) = refl
same_shape (Some kinds.SecretProtect) (SetBytes a b) = refl
same_shape (Some kinds.SecretProtect) (Authenticate a p) = refl
same_shape (Some kinds.SecretProtect) Activate = refl
same_shape (Some kinds.SecretProtect) Revert = refl
same_shape (Some kinds.SecretProtect) GenKey = refl
same_shape (Some kinds.SecretProtect) (RevertSp keep) = refl
same_shape (Some kinds.SecretProtect) (Next after count) = refl
same_shape (Some kinds.SecretProtect) (GetAcl about what) = refl
same_shape (Some kinds.SecretProtect) (Random count) = refl
same_shape (Some kinds.SecretProtect) Other = refl
same_shape (Some kinds.Template) (GetCells f l) = refl
same_shape (Some kinds.Template) (GetBytes f l) = refl
same_shape (Some kinds.Template) (SetCells ps) = refl
same_shape (Some kinds.Template) (SetBytes a b) = refl
same_shape (Some kinds.Template) (Authenticate a p) = refl
same_shape (Some kinds.Template) Activate = refl
same_shape (Some kinds.Template) Revert = refl
same_shape (Some kinds.Template) GenKey = refl
same_shape (Some kinds.Template) (RevertSp keep) = refl
same_shape (Some kinds.Template) (Next after count) = refl
same_shape (Some kinds.Template) (GetAcl about what) = refl
same_shape (Some kinds.Template) (Random count) = refl
same_shape (Some kinds.Template) Other = refl

-- what a call asks has the shape that its method wants
abbrev Fits : Option Ask → Ask → Type 0
Fits None s = Unit {0}
Fits (Some ask) s = sketch ask ≡ s

either : (b : Bool) (o p : Option Ask) (s t : Ask) → Fits o s → Fits p t → Fits (if b then o else p) (if b then s else t)
either true o p s t h k = h
either false o p s t h k = k

only_if : (b : Bool) (o : Option Ask) (s : Ask) → Fits o s → Fits (if b then o else None) s
only_if true o s h = h
only_if false o s h = tt

columns_between_fit : (first last : Option ℕ) → Fits (columns_between first last) (GetCells 0 0)
columns_between_fit None last = tt
columns_between_fit (Some first) None = tt
columns_between_fit (Some first) (Some last) = only_if _ (Some (GetCells first last)) (GetCells 0 0) refl

columns_fit : (o : Option (List (ℕ × Tree))) → Fits (columns_asked_in o) (GetCells 0 0)
columns_fit None = tt
columns_fit (Some ps) = columns_between_fit (number_or 0 (value_of start_column_parameter ps)) (number_or (2 ^ 64 - 1) (value_of end_column_parameter ps))

rows_between_fit : (first : Option ℕ) (last : Option (Option ℕ)) → Fits (rows_between first last) (GetBytes 0 None)
rows_between_fit None last = tt
rows_between_fit (Some first) None = tt
rows_between_fit (Some first) (Some last) = only_if (is_ordered first last) (Some (GetBytes first last)) (GetBytes 0 None) refl

rows_fit : (o : Option (List (ℕ × Tree))) → Fits (rows_in o) (GetBytes 0 None)
rows_fit None = tt
rows_fit (Some ps) = rows_between_fit (number_or 0 (value_of start_row_parameter ps)) (number_if_any (value_of end_row_parameter ps))

get_fits : (b : Bool) (args : List Tree) → Fits (get_of b args) (if b then GetBytes 0 None else GetCells 0 0)
get_fits true args = rows_fit (cellblock start_row_parameter end_row_parameter args)
get_fits false args = columns_fit (cellblock start_column_parameter end_column_parameter args)

assigned_fit : (o : Option (List (ℕ × Tree))) → Fits (option_map SetCells o) (SetCells [])
assigned_fit None = tt
assigned_fit (Some ps) = refl

cells_of_fit : (o : Option (List Tree)) → Fits (cells_of o) (SetCells [])
cells_of_fit None = tt
cells_of_fit (Some ts) = assigned_fit (assignments ts)

cells_to_set_fit : (o : Option Tree) → Fits (cells_to_set o) (SetCells [])
cells_to_set_fit None = tt
cells_to_set_fit (Some t) = cells_of_fit (list_in t)

cells_fit : (o : Option (List (ℕ × Tree))) → Fits (cells_in o) (SetCells [])
cells_fit None = tt
cells_fit (Some ps) = cells_to_set_fit (value_of values_parameter ps)

bytes_to_set_fit : (at : Option ℕ) (o : Option Tree) → Fits (bytes_to_set at o) (SetBytes 0 [])
bytes_to_set_fit None o = tt
bytes_to_set_fit (Some at) None = tt
bytes_to_set_fit (Some at) (Some (bytes b)) = refl
bytes_to_set_fit (Some at) (Some (number n)) = tt
bytes_to_set_fit (Some at) (Some (list ts)) = tt
bytes_to_set_fit (Some at) (Some (named n v)) = tt

bytes_fit : (o : Option (List (ℕ × Tree))) → Fits (bytes_in o) (SetBytes 0 [])
bytes_fit None = tt
bytes_fit (Some ps) = bytes_to_set_fit (number_or 0 (value_of where_parameter ps)) (value_of values_parameter ps)

set_fits : (b : Bool) (args : List Tree) → Fits (set_of b args) (if b then SetBytes 0 [] else SetCells [])
set_fits true args = bytes_fit (options (where_parameter ∷ values_parameter ∷ []) args)
set_fits false args = cells_fit (options (values_parameter ∷ []) args)

proof_of_fits : (authority : Uid) (o : Option (List ℕ)) → Fits (proof_of authority o) (Authenticate some_uid [])
proof_of_fits authority None = tt
proof_of_fits authority (Some proof) = refl

proof_fits : (authority : Uid) (o : Option (List (ℕ × Tree))) → Fits (proof_in authority o) (Authenticate some_uid [])
proof_fits authority None = tt
proof_fits authority (Some ps) = proof_of_fits authority (bytes_or_empty (value_of proof_parameter ps))

attempt_fits : (args : List Tree) → Fits (attempt_in args) (Authenticate some_uid [])
attempt_fits [] = tt
attempt_fits (bytes b ∷ rest) = only_if _ (proof_in (uid_of b) (options (proof_parameter ∷ []) rest)) (Authenticate some_uid []) (proof_fits (uid_of b) (options (proof_parameter ∷ []) rest))
attempt_fits (number n ∷ rest) = tt
attempt_fits (list ts ∷ rest) = tt
attempt_fits (named n v ∷ rest) = tt

without_fits : (ask : Ask) (args : List Tree) → Fits (without_arguments ask args) (sketch ask)
without_fits ask [] = refl
without_fits ask (t ∷ ts) = tt

keep_of_fits : (o : Option ℕ) → Fits (keep_of o) (RevertSp false)
keep_of_fits None = tt
keep_of_fits (Some n) = by_number (n == 0) (n == 1)
  where
    by_number : (a b : Bool) → Fits (if a then Some (RevertSp false) else (if b then Some (RevertSp true) else None)) (RevertSp false)
    by_number true b = refl
    by_number false true = refl
    by_number false false = tt

keep_fits : (o : Option (List (ℕ × Tree))) → Fits (keep_in o) (RevertSp false)
keep_fits None = tt
keep_fits (Some ps) = keep_of_fits (number_or 0 (value_of keep_global_range_key_parameter ps))

rows_asked_fit : (after : Option (Option Uid)) (count : Option (Option ℕ)) → Fits (rows_asked_behind after count) (Next None None)
rows_asked_fit None count = tt
rows_asked_fit (Some after) None = tt
rows_asked_fit (Some after) (Some count) = refl

next_fits : (o : Option (List (ℕ × Tree))) → Fits (next_in o) (Next None None)
next_fits None = tt
next_fits (Some ps) = rows_asked_fit (row_if_any (value_of next_where_parameter ps)) (number_if_any (value_of next_count_parameter ps))

line_fits : (object method : Option Uid) → Fits (line_asked object method) (GetAcl some_uid some_uid)
line_fits None method = tt
line_fits (Some object) None = tt
line_fits (Some object) (Some method) = refl

acl_fits : (args : List Tree) → Fits (get_acl_of args) (GetAcl some_uid some_uid)
acl_fits [] = tt
acl_fits (object ∷ []) = tt
acl_fits (object ∷ method ∷ []) = line_fits (uid_in object) (uid_in method)
acl_fits (object ∷ method ∷ t ∷ ts) = tt

random_fits : (args : List Tree) → Fits (random_of args) (Random 0)
random_fits [] = tt
random_fits (number count ∷ []) = refl
random_fits (bytes b ∷ []) = tt
random_fits (list ts ∷ []) = tt
random_fits (named n v ∷ []) = tt
random_fits (number count ∷ t ∷ ts) = tt
random_fits (bytes b ∷ t ∷ ts) = tt
random_fits (list us ∷ t ∷ ts) = tt
random_fits (named n v ∷ t ∷ ts) = tt

other_fits : (profile : Profile) (method : Uid) (args : List Tree) → Fits (other_ask_of profile method args) (sketch_of_other profile method)
other_fits Base method args = refl
other_fits Field method args =
    either (method.0 == gen_key.0) _ _ _ _ (without_fits GenKey args)
    (either (method.0 == revert_sp.0) _ _ _ _ (keep_fits (options (keep_global_range_key_parameter ∷ []) args)) refl)
other_fits Opal method args =
    either (method.0 == next.0) _ _ _ _ (next_fits (options (next_where_parameter ∷ next_count_parameter ∷ []) args))
    (either (method.0 == get_acl.0) _ _ _ _ (acl_fits args)
    (either (method.0 == random.0) _ _ _ _ (random_fits args)
    (either (method.0 == gen_key.0) _ _ _ _ (without_fits GenKey args)
    (either (method.0 == revert_sp.0) _ _ _ _ (keep_fits (options (keep_global_range_key_parameter ∷ []) args)) refl))))

asked_fits : (profile : Profile) (sp : Sp) (object method : Uid) (args : List Tree) → Fits (ask_of profile sp object method args) (sketch_of profile sp object method)
asked_fits profile sp object method args =
    either (method.0 == get.0) _ _ _ _ (get_fits (is_byte_table profile sp object) args)
    (either (method.0 == set.0) _ _ _ _ (set_fits (is_byte_table profile sp object) args)
    (either (method.0 == authenticate.0) _ _ _ _ (attempt_fits args)
    (either (method.0 == activate.0) _ _ _ _ (without_fits Activate args)
    (either (method.0 == revert.0) _ _ _ _ (without_fits Revert args) (other_fits profile method args)))))

fitting : (o : Option Ask) (s ask : Ask) → Fits o s → o ≡ Some ask → sketch ask ≡ s
fitting None s ask h e = absurd (let k : None ≡ Some ask = e in cc)
fitting (Some a) s ask h e = let same : a ≡ ask = cc in sym (ap sketch same) ∙ h

-- ---- each grant has a case

abbrev has_case : Profile → Sp → Uid → Uid → Bool
has_case profile sp object method = has_ask (kind_of sp object) (sketch_of profile sp object method)

covered : Profile → Grant → Bool
covered profile g = has_case profile g.sp g.object g.method

all_covered : (profile : Profile) → list_all (covered profile) (access_list profile) ≡ true
unfolding covered authorities_of_locking this_sp_grants owner_grants label_grants removal_grants authority_grants fixed_ace_gets user_ace_grants range_get_ace_grants gen_key_ace_grants read_locked_ace_grants write_locked_ace_grants done_ace_grants pin_grants range_get_grants range_set_grants mbr_grants info_grants datastore_grants key_grants own_grants listed_grants told_grants method_grants maker_grants name_grants mode_grants
all_covered Base = refl
all_covered Field = refl
all_covered Opal = refl

clash : false ≡ true → ⊥
clash h = cc

three : (a b c : Bool) → (a && b && c) ≡ true → (a ≡ true) × (b ≡ true) × (c ≡ true)
three true true true h = (refl, refl, refl)
three true true false h = absurd (clash h)
three true false c h = absurd (clash h)
three false b c h = absurd (clash h)

both : (a b : Bool) → (a && b) ≡ true → (a ≡ true) × (b ≡ true)
both true true h = (refl, refl)
both true false h = absurd (clash h)
both false b h = absurd (clash h)

same_sp : (s t : Sp) → sp_eq s t ≡ true → s ≡ t
same_sp Admin Admin h = refl
same_sp Admin Locking h = absurd (clash h)
same_sp Locking Admin h = absurd (clash h)
same_sp Locking Locking h = refl

same_uid : (u v : Uid) → (u.0 == v.0) ≡ true → u ≡ v
same_uid u v h = elim (eqb_tells u.0 v.0) [
  | inl same ↦ ap uid same.1
  | inr apart ↦ absurd (clash (sym apart.0 ∙ h))
]

found_step : (profile : Profile) (g : Grant) (gs : List Grant) (sp : Sp) (object method : Uid) (b : Bool) → (sp_eq g.sp sp && (g.object.0 == object.0) && (g.method.0 == method.0)) ≡ b → list_all (covered profile) (g ∷ gs) ≡ true → is_some (if b then Some g.acl else acl_in gs sp object method) ≡ true → (list_all (covered profile) gs ≡ true → is_some (acl_in gs sp object method) ≡ true → has_case profile sp object method ≡ true) → has_case profile sp object method ≡ true
unfolding covered
found_step profile g gs sp object method false t all some rest = rest (both (has_case profile g.sp g.object g.method) (list_all (covered profile) gs) all).1 some
found_step profile g gs sp object method true t all some rest =
    let at = three (sp_eq g.sp sp) (g.object.0 == object.0) (g.method.0 == method.0) t in
    ap (λ s. has_case profile s object method) (sym (same_sp g.sp sp at.0))
    ∙ ap (λ o. has_case profile g.sp o method) (sym (same_uid g.object object at.1))
    ∙ ap (λ m. has_case profile g.sp g.object m) (sym (same_uid g.method method at.2))
    ∙ (both (has_case profile g.sp g.object g.method) (list_all (covered profile) gs) all).0

found_covered : (profile : Profile) (gs : List Grant) (sp : Sp) (object method : Uid) → list_all (covered profile) gs ≡ true → is_some (acl_in gs sp object method) ≡ true → has_case profile sp object method ≡ true
found_covered profile [] sp object method all some = cc
found_covered profile (g ∷ gs) sp object method all some = found_step profile g gs sp object method (sp_eq g.sp sp && (g.object.0 == object.0) && (g.method.0 == method.0)) refl all some (found_covered profile gs sp object method)

pub cases_of_grants : CaseLaw
cases_of_grants profile sp object method args ask some shaped =
    same_shape (kind_of sp object) ask
    ∙ ap (has_ask (kind_of sp object)) (fitting (ask_of profile sp object method args) (sketch_of profile sp object method) ask (asked_fits profile sp object method args) shaped)
    ∙ found_covered profile (access_list profile) sp object method (all_covered profile) some

-- ---- columns

-- the cells stand in columns of their kinds
abbrev stands : Profile → Sp → Item → Bool
stands profile sp i = list_any (λ k. k.0 == i.column.0) (columns_under profile (kind_of sp i.object))

-- behind the first cell of a row follow those of its other columns
abbrev is_whole : Profile → Sp → Item → List Item → Bool
is_whole profile sp i is = list_all (λ k. is_some (item_at (i ∷ is) i.object k)) (columns_under profile (kind_of sp i.object))

abbrev are_whole : Profile → Sp → List Item → Bool
are_whole profile sp [] = true
are_whole profile sp (i ∷ is) = (if i.column.0 == uid_column.0 then is_whole profile sp i is else true) && are_whole profile sp is

-- of each SP
items_new : Profile → (msid psid : List ℕ) → TableSizes → Sp → List Item
items_new profile msid psid sizes Admin = admin_factory profile msid psid
items_new profile msid psid sizes Locking = locking_factory profile sizes

stand_new : (profile : Profile) (msid psid : List ℕ) (sizes : TableSizes) (sp : Sp) → list_all (stands profile sp) (items_new profile msid psid sizes sp) ≡ true
unfolding items_new admin_sps admin_authorities label_authorities locking_authorities admin_pins label_pins locking_pins locking_ranges locking_mbr_controls admin_aces label_aces removal_aces data_removals authority_aces pin_aces range_get_aces range_aces mbr_aces gen_key_aces range_keys locking_infos byte_tables datastore_aces opal_authorities opal_pins opal_admin_aces opal_locking_aces admin_constants locking_constants
stand_new Base msid psid sizes Admin = refl
stand_new Base msid psid sizes Locking = refl
stand_new Field msid psid sizes Admin = refl
stand_new Field msid psid sizes Locking = refl
stand_new Opal msid psid sizes Admin = refl
stand_new Opal msid psid sizes Locking = refl

all_stand : (config : Config) (sp : Sp) → list_all (stands config.profile sp) (new_cells config sp) ≡ true
unfolding items_new
all_stand config Admin = stand_new config.profile config.msid config.psid (sizes_in config) Admin
all_stand config Locking = stand_new config.profile config.msid config.psid (sizes_in config) Locking

whole_new : (profile : Profile) (msid psid : List ℕ) (sizes : TableSizes) (sp : Sp) → are_whole profile sp (items_new profile msid psid sizes sp) ≡ true
unfolding items_new admin_sps admin_authorities label_authorities locking_authorities admin_pins label_pins locking_pins locking_ranges locking_mbr_controls admin_aces label_aces removal_aces data_removals authority_aces pin_aces range_get_aces range_aces mbr_aces gen_key_aces range_keys locking_infos byte_tables datastore_aces opal_authorities opal_pins opal_admin_aces opal_locking_aces admin_constants locking_constants
whole_new Base msid psid sizes Admin = refl
whole_new Base msid psid sizes Locking = refl
whole_new Field msid psid sizes Admin = refl
whole_new Field msid psid sizes Locking = refl
whole_new Opal msid psid sizes Admin = refl
whole_new Opal msid psid sizes Locking = refl

all_whole : (config : Config) (sp : Sp) → are_whole config.profile sp (new_cells config sp) ≡ true
unfolding items_new
all_whole config Admin = whole_new config.profile config.msid config.psid (sizes_in config) Admin
all_whole config Locking = whole_new config.profile config.msid config.psid (sizes_in config) Locking

same_column : (k l : Column) → (k.0 == l.0) ≡ true → k ≡ l
same_column k l h = elim (eqb_tells k.0 l.0) [
  | inl same ↦ ap col same.1
  | inr apart ↦ absurd (clash (sym apart.0 ∙ h))
]

among_step : (l : Column) (ks : List Column) (k : Column) (b : Bool) → (l.0 == k.0) ≡ b → (b || list_any (λ m. m.0 == k.0) ks) ≡ true → (list_any (λ m. m.0 == k.0) ks ≡ true → IsAmong ks k) → IsAmong (l ∷ ks) k
among_step l ks k true e h rest = inl (same_column l k e)
among_step l ks k false e h rest = inr (rest h)

among_any : (ks : List Column) (k : Column) → list_any (λ l. l.0 == k.0) ks ≡ true → IsAmong ks k
among_any [] k h = clash h
among_any (l ∷ ks) k h = among_step l ks k (l.0 == k.0) refl h (among_any ks k)

all_among : (p : Column → Bool) (ks : List Column) (k : Column) → list_all p ks ≡ true → IsAmong ks k → p k ≡ true
all_among p [] k h at = absurd at
all_among p (l ∷ ks) k h (inl same) = ap p (sym same) ∙ (both (p l) (list_all p ks) h).0
all_among p (l ∷ ks) k h (inr at) = all_among p ks k (both (p l) (list_all p ks) h).1 at

two : (a b : Bool) → (a && b) ≡ true → (a ≡ true) × (b ≡ true)
two a b h = both a b h

alone_step : (profile : Profile) (sp : Sp) (i : Item) (is : List Item) (object : Uid) (k : Column) (b : Bool) → is_here object k i ≡ b → list_all (stands profile sp) (i ∷ is) ≡ true → is_some (if b then Some i.value else item_at is object k) ≡ true
    → (list_all (stands profile sp) is ≡ true → is_some (item_at is object k) ≡ true → IsAmong (columns_under profile (kind_of sp object)) k) → IsAmong (columns_under profile (kind_of sp object)) k
alone_step profile sp i is object k false e all some rest = rest (both (stands profile sp i) (list_all (stands profile sp) is) all).1 some
alone_step profile sp i is object k true e all some rest =
    let at = two (i.object.0 == object.0) (i.column.0 == k.0) e in
    let here : IsAmong (columns_under profile (kind_of sp i.object)) i.column = among_any (columns_under profile (kind_of sp i.object)) i.column (both (stands profile sp i) (list_all (stands profile sp) is) all).0 in
    subst (λ (o : Uid). IsAmong (columns_under profile (kind_of sp o)) k) (same_uid i.object object at.0) (subst (λ (l : Column). IsAmong (columns_under profile (kind_of sp i.object)) l) (same_column i.column k at.1) here)

alone : (profile : Profile) (sp : Sp) (is : List Item) (object : Uid) (k : Column) → list_all (stands profile sp) is ≡ true → HasCell is object k → IsAmong (columns_under profile (kind_of sp object)) k
alone profile sp [] object k all some = absurd (clash some)
alone profile sp (i ∷ is) object k all some = alone_step profile sp i is object k (is_here object k i) refl all some (alone profile sp is object k)

-- a cell that the rest has the whole has
kept : (i : Item) (is : List Item) (object : Uid) (k : Column) (b : Bool) → HasCell is object k → is_some (if b then Some i.value else item_at is object k) ≡ true
kept i is object k true h = refl
kept i is object k false h = h

whole_here : (b w : Bool) → b ≡ true → (if b then w else true) ≡ true → w ≡ true
whole_here true w e h = h
whole_here false w e h = absurd (clash e)

each_step : (profile : Profile) (sp : Sp) (i : Item) (is : List Item) (object : Uid) (k : Column) (b : Bool) → is_here object uid_column i ≡ b → are_whole profile sp (i ∷ is) ≡ true → is_some (if b then Some i.value else item_at is object uid_column) ≡ true
    → IsAmong (columns_under profile (kind_of sp object)) k → (are_whole profile sp is ≡ true → HasCell is object uid_column → HasCell is object k) → HasCell (i ∷ is) object k
each_step profile sp i is object k false e all some at rest = kept i is object k (is_here object k i) (rest (both (if i.column.0 == uid_column.0 then is_whole profile sp i is else true) (are_whole profile sp is) all).1 some)
each_step profile sp i is object k true e all some at rest =
    let here = two (i.object.0 == object.0) (i.column.0 == uid_column.0) e in
    let same : i.object ≡ object = same_uid i.object object here.0 in
    let whole : is_whole profile sp i is ≡ true = whole_here (i.column.0 == uid_column.0) (is_whole profile sp i is) here.1 (both (if i.column.0 == uid_column.0 then is_whole profile sp i is else true) (are_whole profile sp is) all).0 in
    let found : is_some (item_at (i ∷ is) i.object k) ≡ true = all_among (λ l. is_some (item_at (i ∷ is) i.object l)) (columns_under profile (kind_of sp i.object)) k whole (subst (λ (o : Uid). IsAmong (columns_under profile (kind_of sp o)) k) (sym same) at) in
    subst (λ (o : Uid). is_some (item_at (i ∷ is) o k) ≡ true) same found

each : (profile : Profile) (sp : Sp) (is : List Item) (object : Uid) (k : Column) → are_whole profile sp is ≡ true → HasCell is object uid_column → IsAmong (columns_under profile (kind_of sp object)) k → HasCell is object k
each profile sp [] object k all some at = absurd (clash some)
each profile sp (i ∷ is) object k all some at = each_step profile sp i is object k (is_here object uid_column i) refl all some at (λ all' some'. each profile sp is object k all' some' at)

pub columns_of_rows : KindColumnLaw
columns_of_rows config sp object k = record {
  alone = alone config.profile sp (new_cells config sp) object k (all_stand config sp);
  each = each config.profile sp (new_cells config sp) object k (all_whole config sp);
}

pub ruleset of_cases = (cases_of_grants, columns_of_rows)
