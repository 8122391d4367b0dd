-- What each clause of the law of methods says.
use Rattle.std.proofs.Common.{◌≡◌, ℕ, true, false, List, [], ◌∷◌, Option, Some, None, Ok, refl}
use Rattle.sp_cells.specs.declared.cells.Cell.{Cell}
use Rattle.sp_cells.specs.declared.names.Column.{Column}
use Rattle.sp_cells.specs.declared.names.Sp.TheVariants.{Admin, Locking}
use Rattle.sp_cells.specs.declared.names.Uid.{Uid}
use Rattle.sp_cells.specs.ColumnNames.{pin_column}
use Rattle.sp_cells.specs.Names.{c_pin_sid, table_of}
use Rattle.sp_tables.specs.RowNames.{rows_of_table}
use Rattle.ace_eval.specs.Aces.{acl_at}
use Rattle.methods.specs.Tables.{rows_asked, uids_tree}
use Rattle.methods.specs.Said.{reply_of}
use Rattle.tcg_calls.specs.Statuses.{success}
use Rattle.sp_cells.specs.Numbers.{key_number}
use Rattle.audit.specs.declared.reason.Why.{Why}
use Rattle.tcg_tokens.specs.Message.{reply}
use Rattle.tcg_tokens.specs.Tree.{Tree, Trees, list, trees_of}
use Rattle.tcg_calls.specs.Asks.{uid_of}
use Rattle.tcg_calls.specs.declared.call_shapes.ask.Ask.{Ask}
use Rattle.tcg_calls.specs.declared.call_shapes.ask.Ask.TheVariants.{GetCells, GetBytes, SetCells, SetBytes, Authenticate, Activate, GenKey, RevertSp, Next, GetAcl, Random, Other}
use Rattle.sessions.specs.Attempts.{attempt_failure, credential}
use Rattle.sessions.specs.Starts.{is_in_use}
use Rattle.sessions.specs.Deeds.{Begun, Attempt, Setting, Sets, says, SessionDeed, Unchanged, Tried, Changed, Activated, Reverted, Erased, Drew}
use Rattle.shadow_mbr.specs.Erasure.{all_sectors}
use Rattle.methods.specs.Erasures.{erased_by_key, is_wholly_locked}
use Rattle.methods.specs.Judgement.{to_set}
use Rattle.methods.specs.Laws.{IsAmong, IsListed, are_rising, takes_effect}
use Rattle.methods.specs.Listed.{cell_value}
use Rattle.methods.specs.Calls.{outcome_of}
use Rattle.history.specs.Facts.{Facts, standing}
use Rattle.history.specs.Opening.{Origin}
use Rattle.history.specs.Tcg.{answers, tcg}
use Rattle.port_history.specs.declared.step.Step.{Step}
use Rattle.headline.specs.Steps.{facts_after, event_after}
use Rattle.std.specs.Prelude.{map}
use Rattle.headline.specs.Methods.{IsCallStep, IsGrantedAt, standing_at, comes_to, EffectIs, IsJudged}

-- `refused`: without an entry the step changes nothing, says status 01h and nothing else, and is denied.
refused_says : (o : Origin) (before : List Step) (step : Step) (session : Begun)
    (object method : List ℕ) (args : Trees)
    (c : IsCallStep o before step session object method args) (ask : Ask)
    → IsJudged o before step session object method args c ask
    → (IsGrantedAt o before session object method ask → ⊥)
    → (why : Why) × (event_after tcg o before step
    ≡ Some (answers c.com_id c.frame.session (record {
      deed = Unchanged;
      said = reply (trees_of []) (0x01 ∷ 0 ∷ 0 ∷ []);
      denied = Some why;
      rule = None;
    })))
refused_says o before step session object method args c ask law missing =
    let its = law.refused missing in (its.0, its.1.event)

-- `granted`: with one it does what the ask comes to.
granted_says : (o : Origin) (before : List Step) (step : Step) (session : Begun)
    (object method : List ℕ) (args : Trees)
    (c : IsCallStep o before step session object method args) (ask : Ask)
    → IsJudged o before step session object method args c ask
    → takes_effect (comes_to o before session object ask) ≡ true
    → IsGrantedAt o before session object method ask
    → event_after tcg o before step ≡ Some (answers c.com_id c.frame.session
    (outcome_of (facts_after tcg o before).rows session.sp (comes_to o before session object ask)))
granted_says o before step session object method args c ask law effect has =
    ((law.granted effect).1 has).event

-- `listed`: a Get says its list and success; each of its columns has an entry, and they rise.
listed_says : (o : Origin) (before : List Step) (step : Step) (session : Begun)
    (object method : List ℕ) (args : Trees)
    (c : IsCallStep o before step session object method args) (first last : ℕ)
    → IsJudged o before step session object method args c (GetCells first last)
    → takes_effect (comes_to o before session object (GetCells first last)) ≡ true
    → IsGrantedAt o before session object method (GetCells first last)
    → (cells : List (Column × Cell))
    × (event_after tcg o before step ≡ Some (answers c.com_id c.frame.session (record {
      deed = Unchanged;
      said = reply (trees_of (list (trees_of (map cell_value cells)) ∷ [])) (0 ∷ 0 ∷ 0 ∷ []);
      denied = None;
      rule = None;
    })))
    × ((column : Column) (cell : Cell) → IsAmong {A = Column × Cell} cells (column, cell)
    → IsListed (standing_at o before session).profile (standing_at o before session).rows
    session.sp (uid_of object) first last (standing_at o before session).held column cell)
    × (are_rising (map (λ (pair : Column × Cell). pair.0) cells) ≡ true)
listed_says o before step session object method args c first last law effect has =
    let its = law.listed first last refl effect has in
    (its.cells, its.says, (λ column cell among. (its.exactly column cell).0 among), its.rises)

-- `rows_told`: a Next tells the rows of the table that it asks for. `acl_told`: a GetACL tells the ACEs of its line.
next_says : (o : Origin) (before : List Step) (step : Step) (session : Begun)
    (object method : List ℕ) (args : Trees)
    (c : IsCallStep o before step session object method args) (after : Option Uid) (count : Option ℕ)
    → IsJudged o before step session object method args c (Next after count)
    → takes_effect (comes_to o before session object (Next after count)) ≡ true
    → IsGrantedAt o before session object method (Next after count)
    → (rows : List Uid)
    × (rows_asked after count (rows_of_table session.sp (table_of (uid_of object))) ≡ Some rows)
    × (event_after tcg o before step ≡ Some (answers c.com_id c.frame.session
    (says Unchanged (reply_of (uids_tree rows ∷ []) success))))
next_says o before step session object method args c after count law effect has =
    let its = law.rows_told after count refl effect has in (its.rows, its.asked_for, its.says)

get_acl_says : (o : Origin) (before : List Step) (step : Step) (session : Begun)
    (object method : List ℕ) (args : Trees)
    (c : IsCallStep o before step session object method args) (about what : Uid)
    → IsJudged o before step session object method args c (GetAcl about what)
    → takes_effect (comes_to o before session object (GetAcl about what)) ≡ true
    → IsGrantedAt o before session object method (GetAcl about what)
    → (acl : List Uid) × (acl_at o.tables.config.profile session.sp about what ≡ Some acl)
    × (event_after tcg o before step ≡ Some (answers c.com_id c.frame.session
    (says Unchanged (reply_of (uids_tree acl ∷ []) success))))
get_acl_says o before step session object method args c about what law effect has =
    let its = law.acl_told about what refl effect has in (its.acl, its.line, its.says)

-- `effect`, ask by ask: Get changes nothing.
get_changes_nothing : (f : Facts) (session : Begun) (object : Uid) (first last : ℕ) (deed : SessionDeed)
    → EffectIs f session object (GetCells first last) deed → deed ≡ Unchanged
get_changes_nothing f session object first last deed effect = effect

get_of_bytes_changes_nothing : (f : Facts) (session : Begun) (object : Uid) (first : ℕ) (last : Option ℕ)
    (deed : SessionDeed) → EffectIs f session object (GetBytes first last) deed → deed ≡ Unchanged
get_of_bytes_changes_nothing f session object first last deed effect = effect

-- Set changes what its values write, in the session's SP.
set_changes_its_sp : (f : Facts) (session : Begun) (object : Uid) (values : List (ℕ × Tree))
    (deed : SessionDeed) → EffectIs f session object (SetCells values) deed
    → (set : Setting) × (to_set (standing f session) object (SetCells values) ≡ Ok set)
    × (deed ≡ Changed session.sp (Sets set))
set_changes_its_sp f session object values deed effect = effect

set_of_bytes_changes_its_sp : (f : Facts) (session : Begun) (object : Uid) (at : ℕ) (content : List ℕ)
    (deed : SessionDeed) → EffectIs f session object (SetBytes at content) deed
    → (set : Setting) × (to_set (standing f session) object (SetBytes at content) ≡ Ok set)
    × (deed ≡ Changed session.sp (Sets set))
set_of_bytes_changes_its_sp f session object at content deed effect = effect

-- Authenticate is an attempt on the PIN row of its authority, by the rows in force.
authenticate_tries : (f : Facts) (session : Begun) (object authority : Uid) (pin : List ℕ)
    (deed : SessionDeed) → EffectIs f session object (Authenticate authority pin) deed
    → (attempt : Attempt) × (deed ≡ Tried attempt) × (attempt.sp ≡ session.sp)
    × (attempt.authority ≡ authority)
    × (attempt.row ≡ credential f.rows session.sp authority)
    × (attempt.failure ≡ attempt_failure f.beside.block f.rows session.sp authority pin)
authenticate_tries f session object authority pin deed effect = effect

-- Activate copies SID's PIN where the Locking SP is not in use, and else does nothing.
activate_copies : (f : Facts) (session : Begun) (object : Uid) (deed : SessionDeed)
    → EffectIs f session object Activate deed → is_in_use f.rows Locking ≡ false
    → deed ≡ Activated (f.rows Admin c_pin_sid pin_column)
activate_copies f session object deed effect not_in_use = effect.1 not_in_use

activate_again : (f : Facts) (session : Begun) (object : Uid) (deed : SessionDeed)
    → EffectIs f session object Activate deed → is_in_use f.rows Locking ≡ true → deed ≡ Unchanged
activate_again f session object deed effect in_use = effect.0 in_use

-- GenKey erases by the number of its key; RevertSP all sectors, where it keeps none.
gen_key_erases : (f : Facts) (session : Begun) (object : Uid) (deed : SessionDeed)
    → EffectIs f session object GenKey deed
    → (range : ℕ) × (key_number object ≡ Some range) × (deed ≡ Erased (erased_by_key f.rows range))
gen_key_erases f session object deed effect = effect

revert_sp_erases : (f : Facts) (session : Begun) (object : Uid) (deed : SessionDeed)
    → EffectIs f session object (RevertSp false) deed → deed ≡ Reverted Locking all_sectors
revert_sp_erases f session object deed effect = effect.1

revert_sp_keeps : (f : Facts) (session : Begun) (object : Uid) (deed : SessionDeed)
    → EffectIs f session object (RevertSp true) deed
    → is_wholly_locked (f.rows_of session.number) ≡ false
revert_sp_keeps f session object deed effect = effect.0 refl

-- Next and GetACL change nothing, and Random gives so many bytes that no other call is given.
next_changes_nothing : (f : Facts) (session : Begun) (object : Uid) (after : Option Uid)
    (count : Option ℕ) (deed : SessionDeed) → EffectIs f session object (Next after count) deed
    → deed ≡ Unchanged
next_changes_nothing f session object after count deed effect = effect

get_acl_changes_nothing : (f : Facts) (session : Begun) (object about what : Uid) (deed : SessionDeed)
    → EffectIs f session object (GetAcl about what) deed → deed ≡ Unchanged
get_acl_changes_nothing f session object about what deed effect = effect

random_draws : (f : Facts) (session : Begun) (object : Uid) (count : ℕ) (deed : SessionDeed)
    → EffectIs f session object (Random count) deed → deed ≡ Drew count
random_draws f session object count deed effect = effect

nothing_else : (f : Facts) (session : Begun) (object : Uid) (deed : SessionDeed)
    → EffectIs f session object Other deed → ⊥
nothing_else f session object deed effect = effect
