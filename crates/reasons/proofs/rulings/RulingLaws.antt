-- What is told of refused commands is so, and rows of it, worked by hand from the names of the standards.
use Rattle.std.proofs.Common.{◌≡◌, ◌∙◌, ℕ, ◌&&◌, Bool, true, false, List, [], ◌∷◌, Option, None, Some, codes, refl, sym, ap, if◌then◌else◌}
use Rattle.std.specs.Fmt.{digits}
use Rattle.std.proofs.lemmas.Bool.{and_from}
use Rattle.basics.specs.declared.profile.Profile.{Profile}
use Rattle.basics.specs.declared.profile.Profile.TheVariants.{Base, Field, Opal}
use Rattle.sp_cells.specs.declared.names.Sp.TheVariants.{Admin}
use Rattle.sp_cells.specs.declared.cells.Element.TheVariants.{Authority}
use Rattle.sp_cells.specs.declared.cells.Cell.TheVariants.{Expr, Columns}
use Rattle.sp_cells.specs.Names.{sid, ace_tper_info_set_programmatic_reset_enable}
use Rattle.sp_cells.specs.ColumnNames.{boolean_expr_column, columns_column, programmatic_reset_enable_column}
use Rattle.sp_cells.specs.Flat.{LookUp, cell_at}
use Rattle.sp_cells.specs.Resets.{programmatic}
use Rattle.ace_eval.specs.Access.{this_sp_grants, owner_grants}
use Rattle.tcg_calls.specs.Objects.{object_singles, table_singles, table_row_singles, authority_singles, admin_ace_singles, locking_ace_singles, method_singles, of_numbers, of_ranges, named_objects}
use Rattle.tcg_calls.specs.Columns.{tper_info_names}
use Rattle.trusted_cmds.specs.Commands.{is_programmatic_reset, reset_protocol, reset_com_id}
use Rattle.trusted_cmds.specs.declared.command.Command.TheVariants.{Send, Receive}
use Rattle.audit.specs.declared.rules.rule.Rule.{Rule}
use Rattle.audit.specs.declared.rules.rule.Rule.TheVariants as rules
use Rattle.history.specs.Events.{WasReset, did}
use Rattle.history.specs.Facts.{Facts}
use Rattle.history.specs.Decisions.{lets_reset}
use Rattle.history.specs.Tcg.{unqueued, send}
use Rattle.reasons.specs.declared.rulings.Matter.{Matter}
use Rattle.reasons.specs.declared.rulings.Matter.TheVariants.{Reset, OtherThanList, Plain}
use Rattle.reasons.specs.Rulings.{other_than_told, is_by_protocol_0, ruled_text, ResetRuleLaw}

no-rule : (rule : Rule) → ◌≡◌ {A = Option Rule} None (Some rule) → ⊥
no-rule rule h = cc

other-matter : (b : Bool) (p : Profile) → ◌≡◌ {A = Matter} (if b then other_than_told p else Plain) Reset → ⊥
other-matter true Base h = cc
other-matter true Field h = cc
other-matter true Opal h = cc
other-matter false p h = cc

is-reset : (reset other : Bool) (p : Profile) → ◌≡◌ {A = Matter} (if reset then Reset else (if other then other_than_told p else Plain)) Reset → reset ≡ true
is-reset true other p h = refl
is-reset false other p h = absurd (other-matter other p h)

lets : (f : Facts) (payload : List ℕ) (protocol sp_specific blocks : ℕ) (dma b : Bool) → lets_reset f.rows ≡ b
    → is_programmatic_reset (Send protocol sp_specific blocks dma) ≡ true
    → (unqueued f payload (Send protocol sp_specific blocks dma)).rule ≡ Some rules.Protocol → b ≡ false
lets f payload protocol sp_specific blocks dma false e is ruled = refl
lets f payload protocol sp_specific blocks dma true e is ruled =
    let none : (unqueued f payload (Send protocol sp_specific blocks dma)).rule ≡ None
    = ap (λ (b : Bool). (if b then did (WasReset programmatic) else send f protocol sp_specific blocks payload).rule)
    (and_from (is_programmatic_reset (Send protocol sp_specific blocks dma)) (lets_reset f.rows) is e) in
    absurd (no-rule rules.Protocol (sym none ∙ ruled))

pub resets : ResetRuleLaw
resets f payload protocol sp_specific blocks dma matter ruled =
    lets f payload protocol sp_specific blocks dma (lets_reset f.rows) refl
    (is-reset (is_programmatic_reset (Send protocol sp_specific blocks dma))
    (is_by_protocol_0 (Send protocol sp_specific blocks dma)) f.config.profile matter)
    ruled

-- SID lets commands reset the drive
abbrev rows : LookUp
rows = cell_at (
    record {
      sp = Admin;
      object = ace_tper_info_set_programmatic_reset_enable;
      column = boolean_expr_column;
      value = Expr (Authority sid ∷ []);
    }
    ∷ record {
      sp = Admin;
      object = ace_tper_info_set_programmatic_reset_enable;
      column = columns_column;
      value = Columns (programmatic_reset_enable_column ∷ []);
    }
    ∷ [])

no_reset : ruled_text Base rows (Some (Send reset_protocol reset_com_id 1 true)) (Some rules.Protocol) ≡ codes "because TPerInfo ProgrammaticResetEnable = 0\nlifted by: Set of TPerInfo ProgrammaticResetEnable = 1 by SID (ACE_TPerInfo_Set_ProgrammaticResetEnable)\n"
unfolding this_sp_grants owner_grants object_singles table_singles table_row_singles authority_singles admin_ace_singles locking_ace_singles method_singles of_numbers of_ranges named_objects tper_info_names digits
no_reset = refl

-- without a block it is none
no_block : ruled_text Base rows (Some (Send reset_protocol reset_com_id 0 true)) (Some rules.Protocol) ≡ codes "because not security protocol 01h with one block at least\n"
no_block = refl

-- the list of protocols is known under Field alone
other_than_list : ruled_text Field rows (Some (Receive 0 1 1 true)) (Some rules.Protocol) ≡ codes "because security protocol 00h is its list alone: a receive, SP Specific 0000h, one block or more\n"
other_than_list = refl

-- under Opal there are the certificates too
other_than_certificates : ruled_text Opal rows (Some (Receive 0 2 1 true)) (Some rules.Protocol) ≡ codes "because security protocol 00h is a receive, SP Specific 0000h or 0001h, one block or more\n"
other_than_certificates = refl

no_list : ruled_text Base rows (Some (Receive 0 1 1 true)) (Some rules.Protocol) ≡ codes "because not security protocol 01h with one block at least\n"
no_list = refl

-- Level 0 discovery takes no send, and another ComID is none
to_discovery : ruled_text Base rows (Some (Send 1 1 1 true)) (Some rules.ComId) ≡ codes "because Level 0 discovery, ComID 0001h, is received and takes no send\n"
to_discovery = refl

to_none : ruled_text Base rows (Some (Send 1 77 1 true)) (Some rules.ComId) ≡ codes "because the drive has no such ComID\n"
to_none = refl

-- how much a send carries
long_transfer : ruled_text Opal rows (Some (Send 1 4096 129 true)) (Some rules.LongTransfer) ≡ codes "because the transfer is longer than a ComPacket may be\n"
long_transfer = refl

-- how much a response carries
too_long : ruled_text Base rows (Some (Send 1 4096 1 true)) (Some rules.TooLong) ≡ codes "because a response carries at most 65480 bytes of tokens\n"
unfolding digits
too_long = refl

too_long_for_host : ruled_text Opal rows (Some (Send 1 4096 1 true)) (Some rules.TooLong) ≡ codes "because a response carries what its host takes by Properties, at first 1992 and at most 65480 bytes of tokens\n"
unfolding digits
too_long_for_host = refl
