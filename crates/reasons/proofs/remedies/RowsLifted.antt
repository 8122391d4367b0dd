-- What lifts denials by small rows, worked by hand from the names of the standards: ACLs are those of Opal SSC 2.01,
-- table AccessControl of section 4.3, and expressions those that a host may set (Core 2.01, section 5.1.3).
use Rattle.std.proofs.Common.{◌≡◌, List, [], ◌∷◌, ◌++◌, Some, None, codes, refl}
use Rattle.std.specs.Fmt.{digits}
use Rattle.hex.specs.Hex.{encode_with}
use Rattle.basics.specs.declared.profile.Profile.TheVariants.{Base, Field}
use Rattle.sp_cells.specs.declared.names.Uid.{Uid}
use Rattle.sp_cells.specs.declared.names.Sp.{Sp}
use Rattle.sp_cells.specs.declared.names.Sp.TheVariants.{Admin, Locking}
use Rattle.sp_cells.specs.declared.names.Column.{Column}
use Rattle.sp_cells.specs.declared.cells.Element.{Element}
use Rattle.sp_cells.specs.declared.cells.Element.TheVariants.{Authority, And, Or}
use Rattle.sp_cells.specs.declared.cells.Cell.TheVariants.{Expr, Columns}
use Rattle.sp_cells.specs.Authorities.{authorities_of_locking}
use Rattle.sp_cells.specs.Names.{get, set, activate, revert_sp, this_sp, locking_sp, anybody, sid, psid, admins_class, user_uid, c_pin_sid, c_pin_msid, admin_pin_uid, range_uid, mbr_control, ace_sp_sid, ace_sp_psid, ace_c_pin_sid_get_nopin, ace_c_pin_sid_set_pin, ace_c_pin_msid_get_pin, ace_c_pin_admins_get_all_nopin, ace_authority_set_enabled, ace_locking_admins_set, ace_range_set_read_locked, ace_range_set_write_locked, ace_mbr_control_admins_set, ace_mbr_control_set_done_to_dor}
use Rattle.sp_cells.specs.ColumnNames.{uid_column, pin_column, tries_column, boolean_expr_column, columns_column, enabled_column, range_start_column, range_length_column, read_locked_column, write_locked_column, mbr_enable_column, mbr_done_column, mbr_done_on_reset_column}
use Rattle.sp_cells.specs.Flat.{PlacedCell, LookUp, cell_at}
use Rattle.ace_eval.specs.Aces.{ace_of}
use Rattle.ace_eval.specs.Access.{this_sp_grants, owner_grants, authority_grants, fixed_ace_gets, user_ace_grants, range_get_ace_grants, read_locked_ace_grants, write_locked_ace_grants, done_ace_grants, pin_grants, range_get_grants, range_set_grants, mbr_grants}
use Rattle.tcg_calls.specs.Objects.{object_singles, table_singles, table_row_singles, authority_singles, admin_ace_singles, locking_ace_singles, method_singles, of_numbers, of_ranges, named_objects}
use Rattle.tcg_calls.specs.Columns.{authority_names, locking_names, mbr_control_names}
use Rattle.audit.specs.declared.reason.AttemptFailure.TheVariants.{WrongPin, LockedOut, Disabled, Blocked, Unknown}
use Rattle.audit.specs.declared.reason.Why.TheVariants.{ReadLocked, WriteLocked, ReadShadow, WriteShadow, NoEntryHolds, NoAccessRow, AttemptFailed}
use Rattle.reasons.specs.Called.{called_object, called_column}
use Rattle.reasons.specs.Phrases.{expression_text}
use Rattle.reasons.specs.Remedies.{remedy_text}

-- an ACE with its expression and its columns
abbrev ace_cells : Sp → Uid → List Element → List Column → List PlacedCell
ace_cells sp ace elements columns =
    record { sp = sp; object = ace; column = boolean_expr_column; value = Expr elements }
    ∷ record { sp = sp; object = ace; column = columns_column; value = Columns columns }
    ∷ []

-- User1 may unlock range 1 for reads, and lift the shadow with User2; the ACEs for C_PIN rows name other columns than PIN,
-- but for that of the MSID
abbrev rows : LookUp
rows = cell_at (
    ace_cells Locking ace_locking_admins_set (Authority admins_class ∷ [])
    (range_start_column ∷ range_length_column ∷ read_locked_column ∷ write_locked_column ∷ [])
    ++ ace_cells Locking (ace_range_set_read_locked 1) (Authority admins_class ∷ Authority (user_uid 1) ∷ Or ∷ []) (read_locked_column ∷ [])
    ++ ace_cells Locking (ace_range_set_write_locked 1) (Authority admins_class ∷ []) (write_locked_column ∷ [])
    ++ ace_cells Locking ace_mbr_control_admins_set (Authority admins_class ∷ []) (mbr_enable_column ∷ [])
    ++ ace_cells Locking ace_mbr_control_set_done_to_dor (Authority admins_class ∷ Authority (user_uid 1) ∷ Or ∷ Authority (user_uid 2) ∷ And ∷ []) (mbr_done_column ∷ mbr_done_on_reset_column ∷ [])
    ++ ace_cells Locking ace_authority_set_enabled (Authority admins_class ∷ []) (enabled_column ∷ [])
    ++ ace_cells Locking ace_c_pin_admins_get_all_nopin (Authority admins_class ∷ []) (uid_column ∷ tries_column ∷ [])
    ++ ace_cells Admin ace_c_pin_sid_get_nopin (Authority sid ∷ []) (uid_column ∷ tries_column ∷ [])
    ++ ace_cells Admin ace_c_pin_msid_get_pin (Authority anybody ∷ []) (uid_column ∷ pin_column ∷ [])
    ++ ace_cells Admin ace_sp_sid (Authority sid ∷ []) []
    ++ ace_cells Admin ace_sp_psid (Authority psid ∷ []) [])

-- a lock of range 1: three ACEs stand in the ACL, and two name each flag
read_lock : remedy_text Base rows (ReadLocked 95 6 1) ≡ codes "lifted by: Set of Locking_Range1 ReadLocked = 0 by Admins (ACE_Locking_Admins_RangeStartToLOR), or by Admins or User1 (ACE_Locking_Range1_Set_RdLocked)"
unfolding this_sp_grants owner_grants authority_grants fixed_ace_gets user_ace_grants range_get_ace_grants read_locked_ace_grants write_locked_ace_grants done_ace_grants pin_grants range_get_grants range_set_grants authorities_of_locking object_singles table_singles table_row_singles authority_singles admin_ace_singles locking_ace_singles method_singles of_numbers of_ranges named_objects locking_names digits
read_lock = refl

write_lock : remedy_text Base rows (WriteLocked 100 10 1) ≡ codes "lifted by: Set of Locking_Range1 WriteLocked = 0 by Admins (ACE_Locking_Admins_RangeStartToLOR), or by Admins (ACE_Locking_Range1_Set_WrLocked)"
unfolding this_sp_grants owner_grants authority_grants fixed_ace_gets user_ace_grants range_get_ace_grants read_locked_ace_grants write_locked_ace_grants done_ace_grants pin_grants range_get_grants range_set_grants authorities_of_locking object_singles table_singles table_row_singles authority_singles admin_ace_singles locking_ace_singles method_singles of_numbers of_ranges named_objects locking_names digits
write_lock = refl

-- the ACEs of the global range have no columns here, and so name none
no_ace_names_it : remedy_text Base rows (ReadLocked 0 1 0) ≡ codes "lifted by: nothing"
unfolding this_sp_grants owner_grants authority_grants fixed_ace_gets user_ace_grants range_get_ace_grants read_locked_ace_grants write_locked_ace_grants done_ace_grants pin_grants range_get_grants range_set_grants authorities_of_locking object_singles table_singles table_row_singles authority_singles admin_ace_singles locking_ace_singles method_singles of_numbers of_ranges named_objects locking_names digits
no_ace_names_it = refl

-- one of the two ACEs names Done
shadow : remedy_text Base rows (WriteShadow 7 2) ≡ codes "lifted by: Set of MBRControl Done = 1 by (Admins or User1) and User2 (ACE_MBRControl_Set_DoneToDOR)"
unfolding this_sp_grants owner_grants authority_grants fixed_ace_gets user_ace_grants range_get_ace_grants read_locked_ace_grants write_locked_ace_grants done_ace_grants pin_grants range_get_grants range_set_grants mbr_grants authorities_of_locking object_singles table_singles table_row_singles authority_singles admin_ace_singles locking_ace_singles method_singles of_numbers of_ranges named_objects mbr_control_names digits
shadow = refl

shadowed_read : remedy_text Base rows (ReadShadow 7 2) ≡ remedy_text Base rows (WriteShadow 7 2)
shadowed_read = refl

-- a call, by the ACEs that it would need
call : remedy_text Base rows (NoEntryHolds Locking (range_uid 1) set (Some read_locked_column) (record { items = ace_locking_admins_set ∷ ace_range_set_read_locked 1 ∷ [] })) ≡ codes "lifted by: Admins (ACE_Locking_Admins_RangeStartToLOR), or Admins or User1 (ACE_Locking_Range1_Set_RdLocked)"
unfolding object_singles table_singles table_row_singles authority_singles admin_ace_singles locking_ace_singles method_singles of_numbers of_ranges named_objects digits
call = refl

-- and who fulfils one of them has it, and nobody else
fulfilled : ace_of Base rows Locking (range_uid 1) set (Some read_locked_column) (user_uid 1 ∷ []) ≡ Some (ace_range_set_read_locked 1)
unfolding this_sp_grants owner_grants authority_grants fixed_ace_gets user_ace_grants range_get_ace_grants read_locked_ace_grants write_locked_ace_grants done_ace_grants pin_grants range_get_grants range_set_grants authorities_of_locking
fulfilled = refl

unfulfilled : ace_of Base rows Locking (range_uid 1) set (Some read_locked_column) (user_uid 2 ∷ []) ≡ None
unfolding this_sp_grants owner_grants authority_grants fixed_ace_gets user_ace_grants range_get_ace_grants read_locked_ace_grants write_locked_ace_grants done_ace_grants pin_grants range_get_grants range_set_grants authorities_of_locking
unfulfilled = refl

-- a C_PIN row may be read, but for its PIN; the MSID is read by anybody; a Set of a PIN sets it
read_pin : remedy_text Base rows (NoEntryHolds Locking (admin_pin_uid 1) get None (record { items = ace_c_pin_admins_get_all_nopin ∷ [] })) ≡ codes "lifted by: Admins (ACE_C_PIN_Admins_Get_All_NOPIN), but for PIN, which nobody reads"
unfolding this_sp_grants owner_grants authority_grants fixed_ace_gets user_ace_grants range_get_ace_grants read_locked_ace_grants write_locked_ace_grants done_ace_grants pin_grants authorities_of_locking object_singles table_singles table_row_singles authority_singles admin_ace_singles locking_ace_singles method_singles of_numbers of_ranges named_objects digits
read_pin = refl

read_sid_pin : remedy_text Base rows (NoEntryHolds Admin c_pin_sid get None (record { items = ace_c_pin_sid_get_nopin ∷ [] })) ≡ codes "lifted by: SID (ACE_C_PIN_SID_Get_NOPIN), but for PIN, which nobody reads"
unfolding this_sp_grants owner_grants object_singles table_singles table_row_singles authority_singles admin_ace_singles locking_ace_singles method_singles of_numbers of_ranges named_objects digits
read_sid_pin = refl

read_msid : remedy_text Base rows (NoEntryHolds Admin c_pin_msid get None (record { items = ace_c_pin_msid_get_pin ∷ [] })) ≡ codes "lifted by: Anybody (ACE_C_PIN_MSID_Get_PIN)"
unfolding this_sp_grants owner_grants object_singles table_singles table_row_singles authority_singles admin_ace_singles locking_ace_singles method_singles of_numbers of_ranges named_objects digits
read_msid = refl

set_pin : remedy_text Base rows (NoEntryHolds Admin c_pin_sid set (Some pin_column) (record { items = ace_c_pin_sid_set_pin ∷ [] })) ≡ codes "lifted by: nobody (ACE_C_PIN_SID_Set_PIN)"
unfolding object_singles table_singles table_row_singles authority_singles admin_ace_singles locking_ace_singles method_singles of_numbers of_ranges named_objects digits
set_pin = refl

not_offered : remedy_text Base rows (NoAccessRow Locking mbr_control set) ≡ codes "lifted by: nothing"
unfolding this_sp_grants owner_grants authority_grants fixed_ace_gets user_ace_grants range_get_ace_grants read_locked_ace_grants write_locked_ace_grants done_ace_grants pin_grants range_get_grants range_set_grants mbr_grants authorities_of_locking object_singles table_singles table_row_singles authority_singles admin_ace_singles locking_ace_singles method_singles of_numbers of_ranges named_objects digits
not_offered = refl

-- Activate is offered in the other SP; ThisSP is another there, and so is nothing told of it
activate_within : remedy_text Base rows (NoAccessRow Locking locking_sp activate) ≡ codes "lifted by: the same in a session on AdminSP by SID (ACE_SP_SID)"
unfolding this_sp_grants owner_grants object_singles table_singles table_row_singles authority_singles admin_ace_singles locking_ace_singles method_singles of_numbers of_ranges named_objects digits
activate_within = refl

unlocks_elsewhere : remedy_text Base rows (NoAccessRow Admin mbr_control set) ≡ codes "lifted by: the same in a session on LockingSP by Admins (ACE_MBRControl_Admins_Set), or by (Admins or User1) and User2 (ACE_MBRControl_Set_DoneToDOR)"
unfolding this_sp_grants owner_grants authority_grants fixed_ace_gets user_ace_grants range_get_ace_grants read_locked_ace_grants write_locked_ace_grants done_ace_grants pin_grants range_get_grants range_set_grants mbr_grants authorities_of_locking object_singles table_singles table_row_singles authority_singles admin_ace_singles locking_ace_singles method_singles of_numbers of_ranges named_objects digits
unlocks_elsewhere = refl

another_sp : remedy_text Field rows (NoAccessRow Admin this_sp revert_sp) ≡ codes "lifted by: nothing"
another_sp = refl

-- attempts
wrong_pin : remedy_text Base rows (AttemptFailed Locking (user_uid 16) WrongPin) ≡ codes "lifted by: the PIN of User16"
unfolding object_singles table_singles table_row_singles authority_singles admin_ace_singles locking_ace_singles method_singles of_numbers of_ranges named_objects digits
wrong_pin = refl

locked_out : remedy_text Base rows (AttemptFailed Locking (user_uid 1) LockedOut) ≡ codes "lifted by: a power cycle, or Revert of LockingSP by SID (ACE_SP_SID)"
unfolding this_sp_grants owner_grants object_singles table_singles table_row_singles authority_singles admin_ace_singles locking_ace_singles method_singles of_numbers of_ranges named_objects digits
locked_out = refl

-- SID reverts the Admin SP, but not where it is locked out itself
sid_locked_out : remedy_text Base rows (AttemptFailed Admin sid LockedOut) ≡ codes "lifted by: a power cycle"
unfolding this_sp_grants owner_grants object_singles table_singles table_row_singles authority_singles admin_ace_singles locking_ace_singles method_singles of_numbers of_ranges named_objects digits
sid_locked_out = refl

-- under Field the drive's label reverts it, too
owner_locked_out : remedy_text Field rows (AttemptFailed Admin sid LockedOut) ≡ codes "lifted by: a power cycle, or Revert of AdminSP by PSID (ACE_SP_PSID)"
unfolding this_sp_grants owner_grants object_singles table_singles table_row_singles authority_singles admin_ace_singles locking_ace_singles method_singles of_numbers of_ranges named_objects digits
owner_locked_out = refl

-- and SID where the label's PIN has no tries left
label_locked_out : remedy_text Field rows (AttemptFailed Admin psid LockedOut) ≡ codes "lifted by: a power cycle, or Revert of AdminSP by SID (ACE_SP_SID)"
unfolding this_sp_grants owner_grants object_singles table_singles table_row_singles authority_singles admin_ace_singles locking_ace_singles method_singles of_numbers of_ranges named_objects digits
label_locked_out = refl

disabled : remedy_text Base rows (AttemptFailed Locking (user_uid 1) Disabled) ≡ codes "lifted by: Set of User1 Enabled = 1 by Admins (ACE_Authority_Set_Enabled)"
unfolding this_sp_grants owner_grants authority_grants authorities_of_locking object_singles table_singles table_row_singles authority_singles admin_ace_singles locking_ace_singles method_singles of_numbers of_ranges named_objects authority_names digits
disabled = refl

blocked : remedy_text Field rows (AttemptFailed Admin sid Blocked) ≡ codes "lifted by: a power cycle"
blocked = refl

unknown : remedy_text Base rows (AttemptFailed Admin admins_class Unknown) ≡ codes "lifted by: nothing"
unknown = refl

-- expressions: an `or` under an `and` alone has parentheses, on either side; two trees, or an operator that lacks an
-- operand, are none
and_under_or : expression_text (Authority sid ∷ Authority (user_uid 1) ∷ And ∷ Authority (user_uid 2) ∷ Or ∷ []) ≡ codes "SID and User1 or User2"
unfolding object_singles table_singles table_row_singles authority_singles admin_ace_singles locking_ace_singles method_singles of_numbers of_ranges named_objects digits
and_under_or = refl

or_under_and : expression_text (Authority sid ∷ Authority (user_uid 1) ∷ Authority (user_uid 2) ∷ Or ∷ And ∷ []) ≡ codes "SID and (User1 or User2)"
unfolding object_singles table_singles table_row_singles authority_singles admin_ace_singles locking_ace_singles method_singles of_numbers of_ranges named_objects digits
or_under_and = refl

two_trees : expression_text (Authority sid ∷ Authority (user_uid 1) ∷ []) ≡ codes "nobody"
two_trees = refl

no_operand : expression_text (Authority sid ∷ And ∷ []) ≡ codes "nobody"
no_operand = refl

-- there is no range 17, and MBRControl has no column 7
unnamed_object : called_object (range_uid 17) ≡ codes "0000080200030011"
unfolding object_singles table_singles table_row_singles authority_singles admin_ace_singles locking_ace_singles method_singles of_numbers of_ranges named_objects digits encode_with
unnamed_object = refl

unnamed_column : called_column mbr_control read_locked_column ≡ codes "7"
unfolding mbr_control_names digits
unnamed_column = refl
