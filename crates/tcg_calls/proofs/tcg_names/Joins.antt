-- Names that stand one behind the other, and the names of each family.
use Rattle.std.proofs.Common.{◌≡◌, ℕ, ◌++◌, List, [], ◌∷◌, refl, arith, codes, option_map}
use Rattle.std.specs.Option.{option_or}
use Rattle.sp_cells.specs.declared.names.Uid.{Uid}
use Rattle.sp_cells.specs.declared.names.TheConstants.{USERS, ADMINS}
use Rattle.sp_cells.specs.Names.{admin_base, user_base, admin_pin_base, user_pin_base, user_ace_base, user_common_name_ace_base, range_base, key_base, gen_key_ace_base, range_get_ace_base, read_locked_ace_base, write_locked_ace_base, global_range, global_key, admin_uid, user_uid, admin_pin_uid, user_pin_uid, ace_c_pin_user_set_pin, ace_user_set_common_name, range_uid, key_uid, ace_key_gen_key, ace_range_get, ace_range_set_read_locked, ace_range_set_write_locked}
use Rattle.sp_cells.specs.Numbers.{admin_number, user_number, admin_pin_number, user_pin_number, user_ace_number, user_common_name_ace_number, range_number, key_number, gen_key_ace_number, range_get_ace_number, read_locked_ace_number, write_locked_ace_number}
use Rattle.tcg_calls.specs.Objects.{Named, name_in, object_in, of_numbers, of_ranges, number_between, range_between}
use Rattle.tcg_calls.proofs.tcg_names.Numbers.{of_numbers-name, of_ranges-name, of_numbers-object, of_ranges-object, before_all}

pub name_in-append : (xs ys : List Named) (u : Uid) → name_in (xs ++ ys) u ≡ option_or (name_in xs u) (name_in ys u)
name_in-append [] ys u = refl
name_in-append (x ∷ xs) ys u = grind (arith, name_in-append xs ys u)

pub object_in-append : (xs ys : List Named) (name : List ℕ) → object_in (xs ++ ys) name ≡ option_or (object_in xs name) (object_in ys name)
object_in-append [] ys name = refl
object_in-append (x ∷ xs) ys name = grind (arith, object_in-append xs ys name)

-- authorities, their PINs, and the ACEs of Users' PINs and names
pub admins : (u : Uid) → name_in (of_numbers admin_uid (codes "Admin") [] ADMINS) u ≡ option_map (number_between (codes "Admin") []) (admin_number u)
admins u = of_numbers-name admin_base admin_uid (codes "Admin") [] ADMINS (λ n. refl) u

pub users : (u : Uid) → name_in (of_numbers user_uid (codes "User") [] USERS) u ≡ option_map (number_between (codes "User") []) (user_number u)
users u = of_numbers-name user_base user_uid (codes "User") [] USERS (λ n. refl) u

pub admin_pins : (u : Uid) → name_in (of_numbers admin_pin_uid (codes "C_PIN_Admin") [] ADMINS) u ≡ option_map (number_between (codes "C_PIN_Admin") []) (admin_pin_number u)
admin_pins u = of_numbers-name admin_pin_base admin_pin_uid (codes "C_PIN_Admin") [] ADMINS (λ n. refl) u

pub user_pins : (u : Uid) → name_in (of_numbers user_pin_uid (codes "C_PIN_User") [] USERS) u ≡ option_map (number_between (codes "C_PIN_User") []) (user_pin_number u)
user_pins u = of_numbers-name user_pin_base user_pin_uid (codes "C_PIN_User") [] USERS (λ n. refl) u

pub user_aces : (u : Uid) → name_in (of_numbers ace_c_pin_user_set_pin (codes "ACE_C_PIN_User") (codes "_Set_PIN") USERS) u ≡ option_map (number_between (codes "ACE_C_PIN_User") (codes "_Set_PIN")) (user_ace_number u)
user_aces u = of_numbers-name user_ace_base ace_c_pin_user_set_pin (codes "ACE_C_PIN_User") (codes "_Set_PIN") USERS (λ n. refl) u

pub user_name_aces : (u : Uid) → name_in (of_numbers ace_user_set_common_name (codes "ACE_User") (codes "_Set_CommonName") USERS) u ≡ option_map (number_between (codes "ACE_User") (codes "_Set_CommonName")) (user_common_name_ace_number u)
user_name_aces u = of_numbers-name user_common_name_ace_base ace_user_set_common_name (codes "ACE_User") (codes "_Set_CommonName") USERS (λ n. refl) u

-- ranges, their keys, and the ACEs of both
pub ranges : (u : Uid) → name_in (of_ranges range_uid (codes "Locking_") []) u ≡ option_map (range_between (codes "Locking_") []) (range_number u)
ranges u = of_ranges-name range_base range_uid (codes "Locking_") [] (λ n. refl) u (before_all range_base global_range.0 u (omega arith))

pub keys : (u : Uid) → name_in (of_ranges key_uid (codes "K_AES_256_") (codes "_Key")) u ≡ option_map (range_between (codes "K_AES_256_") (codes "_Key")) (key_number u)
keys u = of_ranges-name key_base key_uid (codes "K_AES_256_") (codes "_Key") (λ n. refl) u (before_all key_base global_key.0 u (omega arith))

pub gen_key_aces : (u : Uid) → name_in (of_ranges ace_key_gen_key (codes "ACE_K_AES_256_") (codes "_GenKey")) u ≡ option_map (range_between (codes "ACE_K_AES_256_") (codes "_GenKey")) (gen_key_ace_number u)
gen_key_aces u = of_ranges-name gen_key_ace_base ace_key_gen_key (codes "ACE_K_AES_256_") (codes "_GenKey") (λ n. refl) u (before_all gen_key_ace_base (ace_key_gen_key 0).0 u (omega arith))

pub range_get_aces : (u : Uid) → name_in (of_ranges ace_range_get (codes "ACE_Locking_") (codes "_Get_RangeStartToActiveKey")) u ≡ option_map (range_between (codes "ACE_Locking_") (codes "_Get_RangeStartToActiveKey")) (range_get_ace_number u)
range_get_aces u = of_ranges-name range_get_ace_base ace_range_get (codes "ACE_Locking_") (codes "_Get_RangeStartToActiveKey") (λ n. refl) u (before_all range_get_ace_base (ace_range_get 0).0 u (omega arith))

pub read_locked_aces : (u : Uid) → name_in (of_ranges ace_range_set_read_locked (codes "ACE_Locking_") (codes "_Set_RdLocked")) u ≡ option_map (range_between (codes "ACE_Locking_") (codes "_Set_RdLocked")) (read_locked_ace_number u)
read_locked_aces u = of_ranges-name read_locked_ace_base ace_range_set_read_locked (codes "ACE_Locking_") (codes "_Set_RdLocked") (λ n. refl) u (before_all read_locked_ace_base (ace_range_set_read_locked 0).0 u (omega arith))

pub write_locked_aces : (u : Uid) → name_in (of_ranges ace_range_set_write_locked (codes "ACE_Locking_") (codes "_Set_WrLocked")) u ≡ option_map (range_between (codes "ACE_Locking_") (codes "_Set_WrLocked")) (write_locked_ace_number u)
write_locked_aces u = of_ranges-name write_locked_ace_base ace_range_set_write_locked (codes "ACE_Locking_") (codes "_Set_WrLocked") (λ n. refl) u (before_all write_locked_ace_base (ace_range_set_write_locked 0).0 u (omega arith))

pub ruleset names = (name_in-append, admins, users, admin_pins, user_pins, user_aces, user_name_aces, ranges, keys, gen_key_aces, range_get_aces, read_locked_aces, write_locked_aces)

pub ruleset objects = (object_in-append, of_numbers-object, of_ranges-object)
