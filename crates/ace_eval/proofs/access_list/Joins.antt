-- Grants that stand one behind the other.
use Rattle.std.proofs.Common.{◌≡◌, List, [], ◌∷◌, ◌++◌, None, refl, arith}
use Rattle.std.specs.Option.{option_or}
use Rattle.sp_cells.specs.declared.names.Uid.{Uid}
use Rattle.sp_cells.specs.declared.names.Sp.{Sp}
use Rattle.sp_cells.specs.declared.names.Sp.TheVariants.{Admin, Locking}
use Rattle.sp_cells.specs.Authorities.{authorities_of_locking}
use Rattle.basics.specs.declared.profile.Profile.{Profile}
use Rattle.basics.specs.declared.profile.Profile.TheVariants.{Base, Field, Opal}
use Rattle.ace_eval.specs.Access.{Grant, acl_in, owner_grants, label_grants, removal_grants, admin_grants, authority_grants, fixed_ace_gets, user_ace_grants, range_get_ace_grants, gen_key_ace_grants, read_locked_ace_grants, write_locked_ace_grants, done_ace_grants, pin_grants, range_get_grants, range_set_grants, mbr_grants, info_grants, datastore_grants, key_grants, locking_grants, own_grants, listed_grants, told_grants, method_grants, maker_grants, name_grants, mode_grants}

pub acl_in-append : (xs ys : List Grant) (s : Sp) (o m : Uid) → acl_in (xs ++ ys) s o m ≡ option_or (acl_in xs s o m) (acl_in ys s o m)
acl_in-append [] ys s o m = refl
acl_in-append (x ∷ xs) ys s o m = grind (arith, acl_in-append xs ys s o m)

-- each SP has its own grants
pub admin_grants-locking : (p : Profile) (o m : Uid) → acl_in (admin_grants p) Locking o m ≡ None
unfolding owner_grants label_grants removal_grants own_grants listed_grants told_grants method_grants maker_grants
admin_grants-locking Base o m = refl
admin_grants-locking Field o m = refl
admin_grants-locking Opal o m = refl

pub locking_grants-admin : (p : Profile) (o m : Uid) → acl_in (locking_grants p) Admin o m ≡ None
unfolding authorities_of_locking authority_grants fixed_ace_gets user_ace_grants range_get_ace_grants gen_key_ace_grants read_locked_ace_grants write_locked_ace_grants done_ace_grants pin_grants range_get_grants range_set_grants mbr_grants info_grants datastore_grants key_grants own_grants listed_grants told_grants method_grants name_grants mode_grants
locking_grants-admin Base o m = refl
locking_grants-admin Field o m = refl
locking_grants-admin Opal o m = refl

pub ruleset joins = (acl_in-append, admin_grants-locking, locking_grants-admin)
