-- Which deed an item can do, and what follows for open transactions.
use Rattle.std.proofs.Common.{◌≡◌, ℕ, ◌==◌, ◌+◌, Bool, true, false, not, ◌&&◌, ◌||◌, map, List, [], ◌∷◌, ◌++◌, Option, Some, None, refl, sym, ◌∙◌, ap, cond, inl, inr}
use Rattle.std.specs.Prelude.{◌-◌, nat_le, nat_lt, zero, suc, unwrap_or, Result, Ok, Err}
use Rattle.std.specs.List.{list_any}
use Rattle.sp_cells.specs.declared.names.Uid.{Uid}
use Rattle.sp_cells.specs.declared.names.Sp.{Sp}
use Rattle.methods.proofs.FitLemmas.{place-fits}
use Rattle.sp_cells.specs.declared.byte_tables.ByteTable.{ByteTable}
use Rattle.sp_cells.specs.declared.byte_tables.ByteTable.TheVariants.{ShadowMbr, DataStore}
use Rattle.sp_cells.specs.declared.byte_tables.TableSizes.{TableSizes}
use Rattle.sp_cells.specs.ByteTables.{bytes_of_table, table_begin, sectors_of, fits_table}
use Rattle.sp_cells.specs.declared.names.Sp.TheVariants.{Admin, Locking}
use Rattle.sp_cells.specs.declared.names.Column.{Column}
use Rattle.sp_cells.specs.declared.cells.Cell.{Cell}
use Rattle.sp_cells.specs.declared.error.SetError.{SetError}
use Rattle.sp_cells.specs.Names.{set, activate, revert, gen_key, revert_sp, c_pin_sid, properties, start_session, table_of}
use Rattle.ace_eval.specs.Aces.{acl_at}
use Rattle.audit.specs.declared.reason.AttemptFailure.{AttemptFailure}
use Rattle.audit.specs.declared.reason.Why.{Why}
use Rattle.tcg_tokens.specs.declared.error.TokenError.{TokenError}
use Rattle.tcg_tokens.specs.Message.{Message, call, reply, end_session, begin, end}
use Rattle.tcg_tokens.specs.Tree.{Tree, Trees, bytes}
use Rattle.history.specs.Opening.{Origin}
use Rattle.sessions.specs.Deeds.{Sets, Begun, Setting, cells_set, bytes_set, SessionDeed, Unchanged, Started, Tried, Changed, Began, Committed, Aborted, Ended, Activated, Reverted, Erased, Drew, HostTold, StackReset, StackTold, Outcome, says, refuses as refuses_item}
use Rattle.sp_cells.specs.ColumnNames.{pin_column}
use Rattle.sessions.specs.Attempts.{attempt_failure as failure_of}
use Rattle.tcg_calls.specs.Asks.{uid_of}
use Rattle.tcg_calls.specs.Statuses.{fail, success}
use Rattle.sessions.specs.Properties.{properties_message, host_told, told_deed}
use Rattle.tcg_calls.specs.Carried.{is_carried}
use Rattle.methods.specs.declared.kinds.Kind.{Kind}
use Rattle.methods.specs.declared.kinds.Kind.TheVariants as kinds
use Rattle.basics.specs.declared.profile.Profile.{Profile}
use Rattle.basics.specs.Profiles.{has_field}
use Rattle.sp_cells.specs.Numbers.{key_number}
use Rattle.methods.specs.Erasures.{is_wholly_locked}
use Rattle.methods.specs.Kinds.{kind_of, byte_table_of}
use Rattle.methods.specs.Tables.{rows_asked, uids_tree}
use Rattle.sp_tables.specs.RowNames.{rows_of_table}
use Rattle.methods.specs.Columns.{set_types_of}
use Rattle.methods.specs.Settings.{cells_for, setting_of_cells, cells_of_ask, bytes_of_ask, setting}
use Rattle.sessions.specs.Made.{is_within}
use Rattle.methods.specs.Said.{reply_of, refusal_of}
use Rattle.tcg_calls.specs.Limits.{most_response}
use Rattle.methods.specs.Effects.{has_ask, last_row, unless_fault, sp_of_row}
use Rattle.sp_cells.specs.declared.values.ColumnType.{ColumnType}
use Rattle.methods.specs.Judgement.{asked, Standing, Judgement, Refuses, Gives, Makes, Attempts, Activates, Reverts, Erases, RevertsSp, erases, reverts_sp, denial, gives, listing, bytes_between, rows_given, fault_by, valid, to_set, makes, unless_open, does_ask, does, unless_denied, judged, Denies, rows_told, acl_told, Draws, draws, fits}
use Rattle.sessions.specs.declared.opening.Opening.{Opening}
use Rattle.sessions.specs.declared.opening.StartVerdict.{StartVerdict}
use Rattle.sessions.specs.declared.opening.StartVerdict.TheVariants.{Refused, Attempted}
use Rattle.sessions.specs.Live.{Live, lives_on}
use Rattle.sessions.specs.Starts.{opening_of, is_in_use, sp_named, is_full, opening_verdict_on}
use Rattle.tcg_calls.specs.Named.{values_of}
use Rattle.sp_cells.specs.Flat.{LookUp, sp_eq}
use Rattle.tcg_calls.specs.declared.call_shapes.ask.Ask.{Ask}
use Rattle.tcg_calls.specs.declared.call_shapes.ask.Ask.TheVariants.{GetCells, GetBytes, SetCells, SetBytes, Authenticate, Activate, Revert, GenKey, RevertSp, Next, GetAcl, Other, Random}
use Rattle.history.specs.Events.{Deed, Nothing, InSession, OfQueue, Wrote, Trimmed, Took, BlockedSid, Chose, PowerSet, WasReset, Event}
use Rattle.sp_tables.specs.Looks.{RowLook}
use Rattle.history.specs.Changes.{with_tries}
use Rattle.history.specs.Readers.{view, tries, rows_within, rows_after, living, lives_by, restores, session_on, open_on, is_of, in_force, beside}
use Rattle.history.specs.Facts.{facts, numbered, live, has_open, standing}
use Rattle.history.specs.Tcg.{start_verdict, deed_of_start, start_deed, started, is_method_of_manager, to_manager, judgement_on, begins_on, transaction_end, ends_on, in_session, properties_told}
use Rattle.methods.specs.Calls.{tried_in, outcome_of}
use Rattle.history.specs.Deeds.{IsIn, IsOutside, is_set_in_admin, is_of_row, is_inside, CanDo, DeedLaw}
use Rattle.history.proofs.Words.{latest-here, latest-skip, sp-is, sp-same}
use Rattle.history.proofs.Items.{item-from, stack_deed}
use Rattle.history.proofs.MethodProofs.{denial-none, granted-row}
use Rattle.history.proofs.Asked.{is_own, own-of-field, gen-key-locking, revert-sp-locking, asked-own, activate-admin, revert-admin, set-in-admin}
use Rattle.audit.specs.declared.rules.rule.Rule.TheVariants.{NoMethod, NotInUse, SpBusy, NoNumber, OutsideTable, TooLong, GlobalLocked, ManyRandomBytes}
use Rattle.audit.specs.declared.rules.rule.Rule.{Rule}
use Rattle.sessions.specs.declared.beside.HostLimits.{HostLimits}
use Rattle.sessions.specs.Beside.{channel_of}

-- the kinds of judgements, a refusal being 0, and of asks
abbrev kind : Judgement → ℕ
kind (Denies why) = 0
kind (Refuses status rule) = 0
kind (Gives results) = 1
kind (Draws count results) = 8
kind (Makes setting) = 2
kind (Attempts block authority pin) = 3
kind Activates = 4
kind (Reverts sp) = 5
kind (Erases range) = 6
kind (RevertsSp keep) = 7

abbrev ask_kind : Ask → ℕ
ask_kind (GetCells first last) = 1
ask_kind (GetBytes first last) = 1
ask_kind (SetCells values) = 2
ask_kind (SetBytes at content) = 2
ask_kind (Authenticate authority pin) = 3
ask_kind Activate = 4
ask_kind Revert = 5
ask_kind GenKey = 6
ask_kind (RevertSp keep) = 7
ask_kind (Next after count) = 1
ask_kind (GetAcl about what) = 1
ask_kind (Random count) = 8
ask_kind Other = 0

zero-one : {k : ℕ} → 0 ≡ suc k → ⊥
zero-one h = cc

kind-if : (b : Bool) (x y : Judgement) (k n : ℕ) → kind x ≡ 0 → (kind y ≡ suc k → n ≡ suc k) → kind (cond b x y) ≡ suc k → n ≡ suc k
kind-if false x y k n z h g = h g
kind-if true x y k n z h g = absurd (zero-one (sym z ∙ g))

gives-kind : (room : ℕ) (results : List Tree) (k : ℕ) → kind (gives room results) ≡ suc k → 1 ≡ suc k
gives-kind room results k h = by_carried (fits room results) h
  where
    by_carried : (b : Bool) → kind (cond b (Gives results) (Refuses 0x11 TooLong)) ≡ suc k → 1 ≡ suc k
    by_carried true g = g
    by_carried false g = absurd (zero-one g)

rows-kind : (room : ℕ) (byte : ℕ → ℕ) (size first last : ℕ) (k : ℕ) → kind (rows_given room byte size first last) ≡ suc k → 1 ≡ suc k
rows-kind room byte size first last k h =
    kind-if ((size == 0) || (nat_le size last || nat_lt last first)) (Refuses 0x0c OutsideTable) _ k 1 refl
    (kind-if (nat_lt room (last + 1 - first)) (Refuses 0x11 TooLong) (gives room (bytes_between byte first last)) k 1 refl (gives-kind room (bytes_between byte first last) k)) h

makes-kind : (x : Result Setting Rule) (k : ℕ) → kind (makes x) ≡ suc k → 2 ≡ suc k
makes-kind (Err rule) k h = absurd (zero-one h)
makes-kind (Ok set) k h = h

open-kind : (b : Bool) (j : Judgement) (k : ℕ) → kind (unless_open b j) ≡ suc k → (kind j ≡ suc k) × (b ≡ false)
open-kind true j k h = absurd (zero-one h)
open-kind false j k h = (h, refl)

erases-kind : (x : Option ℕ) (k : ℕ) → kind (erases x) ≡ suc k → 6 ≡ suc k
erases-kind None k h = absurd (zero-one h)
erases-kind (Some range) k h = h

reverts-kind : (b keep : Bool) (k : ℕ) → kind (cond b (Refuses 0x3f GlobalLocked) (RevertsSp keep)) ≡ suc k → 7 ≡ suc k
reverts-kind true keep k h = absurd (zero-one h)
reverts-kind false keep k h = h

told-kind : (room : ℕ) (x : Option (List Uid)) (k : ℕ) → kind (rows_told room x) ≡ suc k → 1 ≡ suc k
told-kind room None k h = absurd (zero-one h)
told-kind room (Some rows) k h = gives-kind room (uids_tree rows ∷ []) k h

acl-kind : (room : ℕ) (x : Option (List Uid)) (k : ℕ) → kind (acl_told room x) ≡ suc k → 1 ≡ suc k
acl-kind room None k h = absurd (zero-one h)
acl-kind room (Some acl) k h = gives-kind room (uids_tree acl ∷ []) k h

draws-kind : (room : ℕ) (random : ℕ → List ℕ) (count k : ℕ) → kind (draws room random count) ≡ suc k → 8 ≡ suc k
draws-kind room random count k h =
    kind-if (nat_lt 32 count) (Refuses 0x0c ManyRandomBytes) _ k 8 refl (by_room (fits room (bytes (random count) ∷ []))) h
  where
    by_room : (b : Bool) → kind (cond b (Draws count (bytes (random count) ∷ [])) (Refuses 0x11 TooLong)) ≡ suc k → 8 ≡ suc k
    by_room true g = g
    by_room false g = absurd (zero-one g)

does-kind : (s : Standing) (object : Uid) (ask : Ask) (k : ℕ) → kind (does_ask s object ask) ≡ suc k → ask_kind ask ≡ suc k
does-kind s object (GetCells first last) k h = gives-kind s.room (listing s object first last) k h
does-kind s object (GetBytes first last) k h = rows-kind s.room (λ row. s.byte (table_begin s.sizes (byte_table_of (kind_of s.sp object)) + row)) (bytes_of_table s.sizes (byte_table_of (kind_of s.sp object))) first (last_row (bytes_of_table s.sizes (byte_table_of (kind_of s.sp object))) last) k h
does-kind s object (SetCells values) k h = makes-kind (to_set s object (SetCells values)) k h
does-kind s object (SetBytes place content) k h = makes-kind (to_set s object (SetBytes place content)) k h
does-kind s object (Authenticate a pin) k h = h
does-kind s object Activate k h = (open-kind s.is_open Activates k h).0
does-kind s object Revert k h = (open-kind s.is_open (Reverts (sp_of_row object)) k h).0
does-kind s object GenKey k h = erases-kind (key_number object) k (open-kind s.is_open (erases (key_number object)) k h).0
does-kind s object (RevertSp keep) k h = reverts-kind (keep && is_wholly_locked s.rows) keep k (open-kind s.is_open (reverts_sp s.rows keep) k h).0
does-kind s object (Next after count) k h = told-kind s.room (rows_asked after count (rows_of_table s.sp (table_of object))) k h
does-kind s object (GetAcl about what) k h = acl-kind s.room (acl_at s.profile s.sp about what) k h
does-kind s object (Random count) k h = draws-kind s.room s.random count k h
does-kind s object Other k h = absurd (zero-one h)

-- a judgement that is no refusal: its ask is of the method, the method is offered, and it is what the ask comes to
record Granted (s : Standing) (object method : Uid) (k : ℕ) (j : Judgement) : Type 0 where
  ask : Ask
  own : is_own s.profile ask method ≡ true
  row : List Uid
  has : acl_at s.profile s.sp object method ≡ Some row
  does : does_ask s object ask ≡ j
  kind : ask_kind ask ≡ suc k

with-case : (s : Standing) (object method : Uid) (k : ℕ) (j : Judgement) (ask : Ask) → is_own s.profile ask method ≡ true → (row : List Uid) → acl_at s.profile s.sp object method ≡ Some row → (b : Bool) → does_ask s object (cond b ask Other) ≡ j → kind j ≡ suc k → Granted s object method k j
with-case s object method k j ask own row has true h g =
    record { ask = ask; own = own; row = row; has = has; does = h; kind = does-kind s object ask k (ap kind h ∙ g) }
with-case s object method k j ask own row has false h g = absurd (zero-one (ap kind h ∙ g))

granted-by : (s : Standing) (object method : Uid) (k : ℕ) (j : Judgement) (ask : Ask) → is_own s.profile ask method ≡ true → (why : Option Why) → denial s object method ask ≡ why → unless_denied why (does s object ask) ≡ j → kind j ≡ suc k → Granted s object method k j
granted-by s object method k j ask own (Some why) is h g = absurd (zero-one (ap kind h ∙ g))
granted-by s object method k j ask own None is h g =
    let r = granted-row s object method ask (denial-none s object method ask is) in
    with-case s object method k j ask own r.0 r.1 (has_ask (kind_of s.sp object) ask) h g

granted : (s : Standing) (object method : Uid) (args : Trees) (k : ℕ) (j : Judgement) (ask : Option Ask) → asked s.profile s.sp object method args ≡ ask → judged s object method ask ≡ j → kind j ≡ suc k → Granted s object method k j
granted s object method args k j None is h g = absurd (zero-one (ap kind h ∙ g))
granted s object method args k j (Some ask) is h g =
    granted-by s object method k j ask (asked-own s.profile s.sp object method args ask is) (denial s object method ask) refl h g

-- Activate and Revert: a session of the Admin SP that has no transaction open
activate-is : (profile : Profile) (ask : Ask) (method : Uid) → is_own profile ask method ≡ true → ask_kind ask ≡ 4 → (ask ≡ Activate) × ((method.0 == activate.0) ≡ true)
activate-is profile Activate method own h = (refl, own)
activate-is profile (GetCells a b) method own h = cc
activate-is profile (GetBytes a b) method own h = cc
activate-is profile (SetCells a) method own h = cc
activate-is profile (SetBytes a b) method own h = cc
activate-is profile (Authenticate a b) method own h = cc
activate-is profile Revert method own h = cc
activate-is profile GenKey method own h = cc
activate-is profile (RevertSp keep) method own h = cc
activate-is profile (Next after count) method own h = cc
activate-is profile (GetAcl about what) method own h = cc
activate-is profile (Random count) method own h = cc
activate-is profile Other method own h = cc

revert-is : (profile : Profile) (ask : Ask) (method : Uid) → is_own profile ask method ≡ true → ask_kind ask ≡ 5 → (ask ≡ Revert) × ((method.0 == revert.0) ≡ true)
revert-is profile Revert method own h = (refl, own)
revert-is profile (GetCells a b) method own h = cc
revert-is profile (GetBytes a b) method own h = cc
revert-is profile (SetCells a) method own h = cc
revert-is profile (SetBytes a b) method own h = cc
revert-is profile (Authenticate a b) method own h = cc
revert-is profile Activate method own h = cc
revert-is profile GenKey method own h = cc
revert-is profile (RevertSp keep) method own h = cc
revert-is profile (Next after count) method own h = cc
revert-is profile (GetAcl about what) method own h = cc
revert-is profile (Random count) method own h = cc
revert-is profile Other method own h = cc

activates-outside : (s : Standing) (object method : Uid) → Granted s object method 3 Activates → (s.sp ≡ Admin) × (s.is_open ≡ false)
activates-outside s object method g =
    let x = activate-is s.profile g.ask method g.own g.kind in (
      activate-admin s.profile s.sp object method g.row x.1 g.has,
      (open-kind s.is_open Activates 3 (ap (λ a. kind (does_ask s object a)) (sym x.0) ∙ ap kind g.does)).1,
    )

reverts-outside : (s : Standing) (object method : Uid) (sp : Sp) → Granted s object method 4 (Reverts sp) → (s.sp ≡ Admin) × (s.is_open ≡ false)
reverts-outside s object method sp g =
    let x = revert-is s.profile g.ask method g.own g.kind in (
      revert-admin s.profile s.sp object method g.row x.1 g.has,
      (open-kind s.is_open (Reverts (sp_of_row object)) 4 (ap (λ a. kind (does_ask s object a)) (sym x.0) ∙ ap kind g.does)).1,
    )

-- GenKey and RevertSP: a session of the Locking SP that has no transaction open, under each profile but the base one
gen-key-is : (profile : Profile) (ask : Ask) (method : Uid) → is_own profile ask method ≡ true → ask_kind ask ≡ 6 → (ask ≡ GenKey) × (has_field profile ≡ true) × ((method.0 == gen_key.0) ≡ true)
gen-key-is profile GenKey method own h = let f = own-of-field profile gen_key method own in (refl, f.0, f.1)
gen-key-is profile (RevertSp keep) method own h = cc
gen-key-is profile (Next after count) method own h = cc
gen-key-is profile (GetAcl about what) method own h = cc
gen-key-is profile (Random count) method own h = cc
gen-key-is profile (GetCells a b) method own h = cc
gen-key-is profile (GetBytes a b) method own h = cc
gen-key-is profile (SetCells a) method own h = cc
gen-key-is profile (SetBytes a b) method own h = cc
gen-key-is profile (Authenticate a b) method own h = cc
gen-key-is profile Activate method own h = cc
gen-key-is profile Revert method own h = cc
gen-key-is profile Other method own h = cc

record IsOfSp (ask : Ask) (profile : Profile) (method : Uid) : Type 0 where
  keep : Bool
  is : ask ≡ RevertSp keep
  field : has_field profile ≡ true
  named : (method.0 == revert_sp.0) ≡ true

revert-sp-is : (profile : Profile) (ask : Ask) (method : Uid) → is_own profile ask method ≡ true → ask_kind ask ≡ 7 → IsOfSp ask profile method
revert-sp-is profile (RevertSp keep) method own h = let f = own-of-field profile revert_sp method own in record { keep = keep; is = refl; field = f.0; named = f.1 }
revert-sp-is profile GenKey method own h = cc
revert-sp-is profile (Next after count) method own h = cc
revert-sp-is profile (GetAcl about what) method own h = cc
revert-sp-is profile (Random count) method own h = cc
revert-sp-is profile (GetCells a b) method own h = cc
revert-sp-is profile (GetBytes a b) method own h = cc
revert-sp-is profile (SetCells a) method own h = cc
revert-sp-is profile (SetBytes a b) method own h = cc
revert-sp-is profile (Authenticate a b) method own h = cc
revert-sp-is profile Activate method own h = cc
revert-sp-is profile Revert method own h = cc
revert-sp-is profile Other method own h = cc

erases-outside : (s : Standing) (object method : Uid) (range : ℕ) → Granted s object method 5 (Erases range) → (s.sp ≡ Locking) × (s.is_open ≡ false) × (has_field s.profile ≡ true)
erases-outside s object method range g =
    let x = gen-key-is s.profile g.ask method g.own g.kind in (
      gen-key-locking s.profile s.sp object method g.row x.2 g.has,
      (open-kind s.is_open (erases (key_number object)) 5 (ap (λ a. kind (does_ask s object a)) (sym x.0) ∙ ap kind g.does)).1,
      x.1,
    )

unlocked-by : (b k l keep : Bool) → unless_open b (cond (k && l) (Refuses 0x3f GlobalLocked) (RevertsSp k)) ≡ RevertsSp keep → keep ≡ true → l ≡ false
unlocked-by true k l keep h is = absurd (zero-one (ap kind h))
unlocked-by false true true keep h is = absurd (zero-one (ap kind h))
unlocked-by false true false keep h is = refl
unlocked-by false false l keep h is = let same : false ≡ keep = cc in let no : false ≡ true = same ∙ is in cc

reverts-sp-outside : (s : Standing) (object method : Uid) (keep : Bool) → Granted s object method 6 (RevertsSp keep) → (s.sp ≡ Locking) × (s.is_open ≡ false) × (has_field s.profile ≡ true) × (keep ≡ true → is_wholly_locked s.rows ≡ false)
reverts-sp-outside s object method keep g =
    let x = revert-sp-is s.profile g.ask method g.own g.kind in (
      revert-sp-locking s.profile s.sp object method g.row x.named g.has,
      (open-kind s.is_open (reverts_sp s.rows x.keep) 6 (ap (λ a. kind (does_ask s object a)) (sym x.is) ∙ ap kind g.does)).1,
      x.field,
      unlocked-by s.is_open x.keep (is_wholly_locked s.rows) keep (ap (does_ask s object) (sym x.is) ∙ g.does),
    )

-- a Set is of the object that was called
made-same : {c d : Setting} → Makes c ≡ Makes d → d ≡ c
made-same h = cc

none-some : {A : Type 0} {x : A} → None ≡ Some x → ⊥
none-some h = cc

some-same : {A : Type 0} {x y : A} → Some x ≡ Some y → y ≡ x
some-same h = cc

-- what a call sets: cells of its object, or on the Locking SP bytes within the table
record AreFit (p : Setting → Bool) (sp : Sp) (sectors : ℕ) (object : Uid) : Type 0 where
  cells : (cells : List (Column × Cell)) → p (cells_set object cells) ≡ true
  bytes : (at : ℕ) (content : List ℕ) → sp ≡ Locking → is_within sectors at content ≡ true → p (bytes_set at content) ≡ true

cells-fit : (p : Setting → Bool) (sp : Sp) (sectors : ℕ) (object : Uid) → AreFit p sp sectors object → (x : Option (List (Column × Cell))) (set : Setting) → setting_of_cells object x ≡ Some set → p set ≡ true
cells-fit p sp sectors object fit None set h = absurd (none-some h)
cells-fit p sp sectors object fit (Some cells) set h = ap p (some-same h) ∙ fit.cells cells

asked-fit : (p : Setting → Bool) (sp : Sp) (sectors : ℕ) (object : Uid) → AreFit p sp sectors object → (types : List (Column × ColumnType)) (ask : Ask) (set : Setting) → cells_of_ask object types ask ≡ Some set → p set ≡ true
asked-fit p sp sectors object fit types (SetCells ps) set h = cells-fit p sp sectors object fit (cells_for types ps) set h
asked-fit p sp sectors object fit types (SetBytes a b) set h = absurd (none-some h)
asked-fit p sp sectors object fit types (GetCells a b) set h = absurd (none-some h)
asked-fit p sp sectors object fit types (GetBytes a b) set h = absurd (none-some h)
asked-fit p sp sectors object fit types (Authenticate a b) set h = absurd (none-some h)
asked-fit p sp sectors object fit types Activate set h = absurd (none-some h)
asked-fit p sp sectors object fit types Revert set h = absurd (none-some h)
asked-fit p sp sectors object fit types GenKey set h = absurd (none-some h)
asked-fit p sp sectors object fit types (RevertSp keep) set h = absurd (none-some h)
asked-fit p sp sectors object fit types (Next after count) set h = absurd (none-some h)
asked-fit p sp sectors object fit types (GetAcl about what) set h = absurd (none-some h)
asked-fit p sp sectors object fit types (Random count) set h = absurd (none-some h)
asked-fit p sp sectors object fit types Other set h = absurd (none-some h)

bytes-if : (p : Setting → Bool) (place : ℕ) (content : List ℕ) (b : Bool) (set : Setting) → (b ≡ true → p (bytes_set place content) ≡ true) → cond b (Some (bytes_set place content)) None ≡ Some set → p set ≡ true
bytes-if p place content true set fit h = ap p (some-same h) ∙ fit refl
bytes-if p place content false set fit h = absurd (none-some h)

bytes-fit : (p : Setting → Bool) (sp : Sp) (sizes : TableSizes) (table : ByteTable) (object : Uid) → AreFit p sp (sectors_of sizes) object → (ask : Ask) (set : Setting) → bytes_of_ask sp sizes table ask ≡ Some set → p set ≡ true
bytes-fit p Admin sizes table object fit ask set h = absurd (none-some h)
bytes-fit p Locking sizes table object fit (SetBytes a b) set h = bytes-if p (table_begin sizes table + a) b (fits_table sizes table a b) set (λ is. fit.bytes (table_begin sizes table + a) b refl (place-fits sizes table a b is)) h
bytes-fit p Locking sizes table object fit (SetCells ps) set h = absurd (none-some h)
bytes-fit p Locking sizes table object fit (GetCells a b) set h = absurd (none-some h)
bytes-fit p Locking sizes table object fit (GetBytes a b) set h = absurd (none-some h)
bytes-fit p Locking sizes table object fit (Authenticate a b) set h = absurd (none-some h)
bytes-fit p Locking sizes table object fit Activate set h = absurd (none-some h)
bytes-fit p Locking sizes table object fit Revert set h = absurd (none-some h)
bytes-fit p Locking sizes table object fit GenKey set h = absurd (none-some h)
bytes-fit p Locking sizes table object fit (RevertSp keep) set h = absurd (none-some h)
bytes-fit p Locking sizes table object fit (Next after count) set h = absurd (none-some h)
bytes-fit p Locking sizes table object fit (GetAcl about what) set h = absurd (none-some h)
bytes-fit p Locking sizes table object fit (Random count) set h = absurd (none-some h)
bytes-fit p Locking sizes table object fit Other set h = absurd (none-some h)

setting-fit : (profile : Profile) (p : Setting → Bool) (sp : Sp) (sizes : TableSizes) (object : Uid) → AreFit p sp (sectors_of sizes) object → (k : Option Kind) (ask : Ask) (set : Setting) → setting profile sp sizes object k ask ≡ Some set → p set ≡ true
setting-fit profile p sp sizes object fit None ask set h = asked-fit p sp (sectors_of sizes) object fit (set_types_of profile None) ask set h
setting-fit profile p sp sizes object fit (Some kinds.MbrTable) ask set h = bytes-fit p sp sizes ShadowMbr object fit ask set h
setting-fit profile p sp sizes object fit (Some kinds.DataStore) ask set h = bytes-fit p sp sizes DataStore object fit ask set h
setting-fit profile p sp sizes object fit (Some kinds.DataRemoval) ask set h = asked-fit p sp (sectors_of sizes) object fit (set_types_of profile (Some kinds.DataRemoval)) ask set h
setting-fit profile p sp sizes object fit (Some kinds.ThisSp) ask set h = asked-fit p sp (sectors_of sizes) object fit (set_types_of profile (Some kinds.ThisSp)) ask set h
setting-fit profile p sp sizes object fit (Some kinds.Sp) ask set h = asked-fit p sp (sectors_of sizes) object fit (set_types_of profile (Some kinds.Sp)) ask set h
setting-fit profile p sp sizes object fit (Some kinds.Authority) ask set h = asked-fit p sp (sectors_of sizes) object fit (set_types_of profile (Some kinds.Authority)) ask set h
setting-fit profile p sp sizes object fit (Some kinds.CPin) ask set h = asked-fit p sp (sectors_of sizes) object fit (set_types_of profile (Some kinds.CPin)) ask set h
setting-fit profile p sp sizes object fit (Some kinds.Ace) ask set h = asked-fit p sp (sectors_of sizes) object fit (set_types_of profile (Some kinds.Ace)) ask set h
setting-fit profile p sp sizes object fit (Some kinds.Locking) ask set h = asked-fit p sp (sectors_of sizes) object fit (set_types_of profile (Some kinds.Locking)) ask set h
setting-fit profile p sp sizes object fit (Some kinds.MbrControl) ask set h = asked-fit p sp (sectors_of sizes) object fit (set_types_of profile (Some kinds.MbrControl)) ask set h
setting-fit profile p sp sizes object fit (Some kinds.TperInfo) ask set h = asked-fit p sp (sectors_of sizes) object fit (set_types_of profile (Some kinds.TperInfo)) ask set h
setting-fit profile p sp sizes object fit (Some kinds.LockingInfo) ask set h = asked-fit p sp (sectors_of sizes) object fit (set_types_of profile (Some kinds.LockingInfo)) ask set h
setting-fit profile p sp sizes object fit (Some kinds.Table) ask set h = asked-fit p sp (sectors_of sizes) object fit (set_types_of profile (Some kinds.Table)) ask set h
setting-fit profile p sp sizes object fit (Some kinds.Key) ask set h = asked-fit p sp (sectors_of sizes) object fit (set_types_of profile (Some kinds.Key)) ask set h
setting-fit profile p sp sizes object fit (Some kinds.WholeTable) ask set h = asked-fit p sp (sectors_of sizes) object fit (set_types_of profile (Some kinds.WholeTable)) ask set h
setting-fit profile p sp sizes object fit (Some kinds.AccessControl) ask set h = asked-fit p sp (sectors_of sizes) object fit (set_types_of profile (Some kinds.AccessControl)) ask set h
setting-fit profile p sp sizes object fit (Some kinds.ObjectTable) ask set h = asked-fit p sp (sectors_of sizes) object fit (set_types_of profile (Some kinds.ObjectTable)) ask set h
setting-fit profile p sp sizes object fit (Some kinds.SpInfo) ask set h = asked-fit p sp (sectors_of sizes) object fit (set_types_of profile (Some kinds.SpInfo)) ask set h
setting-fit profile p sp sizes object fit (Some kinds.SpTemplates) ask set h = asked-fit p sp (sectors_of sizes) object fit (set_types_of profile (Some kinds.SpTemplates)) ask set h
setting-fit profile p sp sizes object fit (Some kinds.MethodId) ask set h = asked-fit p sp (sectors_of sizes) object fit (set_types_of profile (Some kinds.MethodId)) ask set h
setting-fit profile p sp sizes object fit (Some kinds.SecretProtect) ask set h = asked-fit p sp (sectors_of sizes) object fit (set_types_of profile (Some kinds.SecretProtect)) ask set h
setting-fit profile p sp sizes object fit (Some kinds.Template) ask set h = asked-fit p sp (sectors_of sizes) object fit (set_types_of profile (Some kinds.Template)) ask set h

unfaulted : (fault : Option SetError) (set made : Setting) → unless_fault fault set ≡ Ok made → made ≡ set
unfaulted None set made h = cc
unfaulted (Some fault) set made h = cc

valid-fit : (p : Setting → Bool) (s : Standing) (x : Option Setting) (made : Setting) → ((set : Setting) → x ≡ Some set → p set ≡ true) → valid s x ≡ Ok made → p made ≡ true
valid-fit p s None made h g = cc
valid-fit p s (Some set) made h g = ap p (unfaulted (fault_by s.sectors s.newest s.sp set) set made g) ∙ h set refl

makes-is : (x : Result Setting Rule) (made : Setting) → makes x ≡ Makes made → x ≡ Ok made
makes-is (Err rule) made h = absurd (zero-one (ap kind h))
makes-is (Ok set) made h = ap (λ (y : Setting). let r : Result Setting Rule = Ok y in r) (sym (made-same h))

makes-fit : (p : Setting → Bool) (s : Standing) (object : Uid) → AreFit p s.sp (sectors_of s.sizes) object → (ask : Ask) (made : Setting) → ask_kind ask ≡ 2 → does_ask s object ask ≡ Makes made → p made ≡ true
makes-fit p s object fit (SetCells values) made k h =
    valid-fit p s (setting s.profile s.sp s.sizes object (kind_of s.sp object) (SetCells values)) made (λ set is. setting-fit s.profile p s.sp s.sizes object fit (kind_of s.sp object) (SetCells values) set is) (makes-is (to_set s object (SetCells values)) made h)
makes-fit p s object fit (SetBytes place content) made k h =
    valid-fit p s (setting s.profile s.sp s.sizes object (kind_of s.sp object) (SetBytes place content)) made (λ set is. setting-fit s.profile p s.sp s.sizes object fit (kind_of s.sp object) (SetBytes place content) set is) (makes-is (to_set s object (SetBytes place content)) made h)
makes-fit p s object fit (GetCells a b) c k h = cc
makes-fit p s object fit (GetBytes a b) c k h = cc
makes-fit p s object fit (Authenticate a b) c k h = cc
makes-fit p s object fit Activate c k h = cc
makes-fit p s object fit Revert c k h = cc
makes-fit p s object fit GenKey c k h = cc
makes-fit p s object fit (RevertSp keep) c k h = cc
makes-fit p s object fit (Next after count) c k h = cc
makes-fit p s object fit (GetAcl about what) c k h = cc
makes-fit p s object fit (Random count) c k h = cc
makes-fit p s object fit Other c k h = cc

row-fit : (p : Uid → Bool) (s : Standing) (object : Uid) → p object ≡ true → AreFit (λ y. is_of_row p (Sets y)) s.sp (sectors_of s.sizes) object
row-fit p s object h = record { cells = λ cells. h; bytes = λ place content on is. refl }

inside-fit : (s : Standing) (object : Uid) → AreFit (λ y. is_inside (sectors_of s.sizes) s.sp (Sets y)) s.sp (sectors_of s.sizes) object
inside-fit s object = record {
  cells = λ cells. of_cells s.sp cells;
  bytes = λ place content on is. ap (λ x. is_inside (sectors_of s.sizes) x (Sets (bytes_set place content))) on ∙ is;
}
  where
    of_cells : (sp : Sp) (cells : List (Column × Cell)) → is_inside (sectors_of s.sizes) sp (Sets (cells_set object cells)) ≡ true
    of_cells Admin cells = refl
    of_cells Locking cells = refl

makes-inside : (s : Standing) (object method : Uid) (c : Setting) → Granted s object method 1 (Makes c) → is_inside (sectors_of s.sizes) s.sp (Sets c) ≡ true
makes-inside s object method c g = makes-fit (λ y. is_inside (sectors_of s.sizes) s.sp (Sets y)) s object (inside-fit s object) g.ask c g.kind g.does

set-is : (profile : Profile) (ask : Ask) (method : Uid) → is_own profile ask method ≡ true → ask_kind ask ≡ 2 → (method.0 == set.0) ≡ true
set-is profile (SetCells a) method own h = own
set-is profile (SetBytes a b) method own h = own
set-is profile Activate method own h = cc
set-is profile (GetCells a b) method own h = cc
set-is profile (GetBytes a b) method own h = cc
set-is profile (Authenticate a b) method own h = cc
set-is profile Revert method own h = cc
set-is profile GenKey method own h = cc
set-is profile (RevertSp keep) method own h = cc
set-is profile (Next after count) method own h = cc
set-is profile (GetAcl about what) method own h = cc
set-is profile (Random count) method own h = cc
set-is profile Other method own h = cc

makes-one : (s : Standing) (object method : Uid) (c : Setting) → Granted s object method 1 (Makes c) → s.sp ≡ Admin → is_of_row (is_set_in_admin s.profile) (Sets c) ≡ true
makes-one s object method c g admin =
    makes-fit (λ y. is_of_row (is_set_in_admin s.profile) (Sets y)) s object
    (row-fit (is_set_in_admin s.profile) s object (set-in-admin s.profile object method g.row (set-is s.profile g.ask method g.own g.kind) (ap (λ x. acl_at s.profile x object method) (sym admin) ∙ g.has)))
    g.ask c g.kind g.does

-- the live session of an SP is on it
abbrev gone : Option (Option Begun)
gone = Some None

lives-on : (sp : Sp) (d : SessionDeed) (s : Begun) → lives_by sp d ≡ Some (Some s) → s.sp ≡ sp
lives-on sp (Started session row) s h = by_sp (sp_eq session.sp sp) refl h
  where
    by_sp : (b : Bool) → sp_eq session.sp sp ≡ b → cond b (Some (Some session)) None ≡ Some (Some s) → s.sp ≡ sp
    by_sp true same k = let y : s ≡ session = cc in ap (λ (z : Begun). z.sp) y ∙ sp-is session.sp sp same
    by_sp false same k = cc
lives-on sp (Ended t) s h = by_sp (sp_eq t sp) h
  where
    by_sp : (b : Bool) → cond b gone None ≡ Some (Some s) → s.sp ≡ sp
    by_sp true k = cc
    by_sp false k = cc
lives-on sp (Reverted t w) s h = by_sp (restores t sp) h
  where
    by_sp : (b : Bool) → cond b gone None ≡ Some (Some s) → s.sp ≡ sp
    by_sp true k = cc
    by_sp false k = cc
lives-on sp Unchanged s h = cc
lives-on sp (Tried a) s h = cc
lives-on sp (Changed t c) s h = cc
lives-on sp (Began t n) s h = cc
lives-on sp (Committed t) s h = cc
lives-on sp (Aborted t) s h = cc
lives-on sp (Activated pin) s h = cc
lives-on sp (Erased w) s h = cc
lives-on sp (Drew count) s h = cc
lives-on sp (HostTold com_id limits) s h = cc
lives-on sp (StackTold com_id) s h = cc
lives-on sp (StackReset com_id ends) s h = by_sp (ends sp) h
  where
    by_sp : (b : Bool) → cond b gone None ≡ Some (Some s) → s.sp ≡ sp
    by_sp true k = cc
    by_sp false k = cc

living-on : (sp : Sp) (d : Deed) (s : Begun) → living sp d ≡ Some (Some s) → s.sp ≡ sp
living-on sp (InSession d r) s h = lives-on sp d s h
living-on sp (WasReset kind) s h = cc
living-on sp Nothing s h = cc
living-on sp (OfQueue d) s h = cc
living-on sp (Wrote lba written) s h = cc
living-on sp (Trimmed extents) s h = cc
living-on sp (Took c) s h = cc
living-on sp (BlockedSid block) s h = cc
living-on sp (Chose feature) s h = cc
living-on sp (PowerSet in_standby) s h = cc

session-step : (sp : Sp) (s : Begun) (e : Event) (es : List Event) (t : Option (Option Begun)) → living sp e.deed ≡ t → session_on (e ∷ es) sp ≡ Some s → (session_on es sp ≡ Some s → s.sp ≡ sp) → s.sp ≡ sp
session-step sp s e es (Some x) is h before = living-on sp e.deed s (is ∙ ap (λ y. Some y) (sym (ap (λ o. unwrap_or o None) (latest-here (living sp) e es x is)) ∙ h))
session-step sp s e es None is h before = before (sym (ap (λ o. unwrap_or o None) (latest-skip (living sp) e es is)) ∙ h)

pub session-on : (past : List Event) (sp : Sp) (s : Begun) → session_on past sp ≡ Some s → s.sp ≡ sp
session-on [] sp s h = cc
session-on (e ∷ es) sp s h = session-step sp s e es (living sp e.deed) refl h (session-on es sp s)

-- what an item of a live session can do
outside-of : (o : Origin) (past : List Event) (s : Begun) → session_on past s.sp ≡ Some s → (sp : Sp) → s.sp ≡ sp → has_open (facts o past) s ≡ false → IsOutside past sp
outside-of o past s h sp on outside = record {
  session = s;
  lives = record { lives = ap (session_on past) (sym on) ∙ h; on = on };
  outside = ap (λ x. is_of s.number (open_on past x)) (sym on) ∙ outside;
}

judged-can : (o : Origin) (past : List Event) (s : Begun) → session_on past s.sp ≡ Some s → (object method : Uid) (args : Trees) (j : Judgement) → judgement_on (facts o past) s object method args ≡ j → CanDo o past (outcome_of (in_force o past) s.sp j).deed
judged-can o past s h object method args (Denies why) is = tt
judged-can o past s h object method args (Refuses status rule) is = tt
judged-can o past s h object method args (Gives results) is = tt
judged-can o past s h object method args (Draws count results) is = tt
judged-can o past s h object method args (Makes c) is = record {
  session = s;
  lives = record { lives = h; on = refl };
  row = λ admin. makes-one (standing (facts o past) s) object method c (granted (standing (facts o past) s) object method args 1 (Makes c) (asked o.tables.config.profile s.sp object method args) refl is refl) admin;
  inside = makes-inside (standing (facts o past) s) object method c (granted (standing (facts o past) s) object method args 1 (Makes c) (asked o.tables.config.profile s.sp object method args) refl is refl);
}
judged-can o past s h object method args (Attempts block authority pin) is = by_failure (failure_of block (in_force o past) s.sp authority pin)
  where
    by_failure : (x : Option AttemptFailure) → CanDo o past (tried_in (in_force o past) s.sp authority x).deed
    by_failure None = tt
    by_failure (Some x) = tt
judged-can o past s h object method args Activates is = by_state (is_in_use (in_force o past) Locking) refl
  where
    outside : (s.sp ≡ Admin) × (has_open (facts o past) s ≡ false)
    outside = activates-outside (standing (facts o past) s) object method (granted (standing (facts o past) s) object method args 3 Activates (asked o.tables.config.profile s.sp object method args) refl is refl)

    by_state : (b : Bool) → is_in_use (in_force o past) Locking ≡ b → CanDo o past (cond b Unchanged (Activated (in_force o past Admin c_pin_sid pin_column)))
    by_state true g = tt
    by_state false g = (outside-of o past s h Admin outside.0 outside.1, g)
judged-can o past s h object method args (Reverts sp) is = inl (record { outside = outside-of o past s h Admin outside.0 outside.1; erases = refl })
  where
    outside : (s.sp ≡ Admin) × (has_open (facts o past) s ≡ false)
    outside = reverts-outside (standing (facts o past) s) object method sp (granted (standing (facts o past) s) object method args 4 (Reverts sp) (asked o.tables.config.profile s.sp object method args) refl is refl)
judged-can o past s h object method args (Erases range) is = record { outside = outside-of o past s h Locking outside.0 outside.1; profile = outside.2; range = range; erases = refl }
  where
    outside : (s.sp ≡ Locking) × (has_open (facts o past) s ≡ false) × (has_field o.tables.config.profile ≡ true)
    outside = erases-outside (standing (facts o past) s) object method range (granted (standing (facts o past) s) object method args 5 (Erases range) (asked o.tables.config.profile s.sp object method args) refl is refl)
judged-can o past s h object method args (RevertsSp keep) is = inr (record { outside = outside-of o past s h Locking outside.0 outside.1; profile = outside.2; reverts = refl; keep = keep; erases = refl; unlocked = λ kept. ap (λ (rows : RowLook). is_wholly_locked (λ _. rows)) seen ∙ outside.3 kept })
  where
    outside : (s.sp ≡ Locking) × (has_open (facts o past) s ≡ false) × (has_field o.tables.config.profile ≡ true) × (keep ≡ true → is_wholly_locked (view o past s.number) ≡ false)
    outside = reverts-sp-outside (standing (facts o past) s) object method keep (granted (standing (facts o past) s) object method args 6 (RevertsSp keep) (asked o.tables.config.profile s.sp object method args) refl is refl)

    seen : in_force o past Locking ≡ view o past s.number Locking
    seen = ap (λ b. with_tries (tries past Locking) (cond b (rows_within o past Locking) (rows_after o past Locking))) (sym (ap (λ x. is_of s.number (open_on past x)) (sym outside.0) ∙ outside.1))

ended-can : (o : Origin) (past : List Event) (s : Begun) → session_on past s.sp ≡ Some s → is_of s.number (open_on past s.sp) ≡ true → (n : ℕ) → CanDo o past (transaction_end s.sp n).deed
ended-can o past s h own zero = record { session = s; lives = record { lives = h; on = refl }; own = own }
ended-can o past s h own (suc n) = record { session = s; lives = record { lives = h; on = refl }; own = own }

session-can : (o : Origin) (past : List Event) (s : Begun) → session_on past s.sp ≡ Some s → (read : Result Message TokenError) → CanDo o past (in_session (facts o past) s read).deed
session-can o past s h (Err e) = tt
session-can o past s h (Ok (reply results status)) = tt
session-can o past s h (Ok end_session) = (s, record { lives = h; on = refl })
session-can o past s h (Ok (call object method args status)) = judged-can o past s h (uid_of object) (uid_of method) args (judgement_on (facts o past) s (uid_of object) (uid_of method) args) refl
session-can o past s h (Ok (begin n)) = by_open (open_on past s.sp) refl
  where
    by_open : (x : Option ℕ) → open_on past s.sp ≡ x → CanDo o past (begins_on s.sp s.number x).deed
    by_open None is = record { session = s; lives = record { lives = h; on = refl }; own = refl; free = is }
    by_open (Some m) is = tt
session-can o past s h (Ok (end n)) = by_open (has_open (facts o past) s) refl
  where
    by_open : (b : Bool) → has_open (facts o past) s ≡ b → CanDo o past (ends_on s.sp n b).deed
    by_open true is = ended-can o past s h is n
    by_open false is = tt

-- what an item of the session manager can do
abbrev alive : Sp → Option Begun → Bool
alive sp None = false
alive sp (Some s) = sp_eq s.sp sp

or-false : (b : Bool) → (b || false) ≡ b
or-false true = refl
or-false false = refl

alive-live : (sp : Sp) (a b : Option Begun) → list_any (λ s. sp_eq s.sp sp) (map (λ e. e.1) (numbered a ++ numbered b)) ≡ (alive sp a || alive sp b)
alive-live sp None None = refl
alive-live sp None (Some t) = or-false (sp_eq t.sp sp)
alive-live sp (Some s) None = refl
alive-live sp (Some s) (Some t) = ap (λ b. sp_eq s.sp sp || b) (or-false (sp_eq t.sp sp))

neither : (a b : Bool) → (a || b) ≡ false → (a ≡ false) × (b ≡ false)
neither true b h = cc
neither false b h = (refl, h)

true-false : true ≡ false → ⊥
true-false h = cc

none-alive : (past : List Event) (sp : Sp) (x : Option Begun) → session_on past sp ≡ x → alive sp x ≡ false → session_on past sp ≡ None
none-alive past sp None is h = is
none-alive past sp (Some s) is h =
    absurd (true-false (sym (ap (λ t. sp_eq t sp) (session-on past sp s is) ∙ sp-same sp) ∙ h))

no-session : (o : Origin) (past : List Event) (sp : Sp) → lives_on sp (live (facts o past)) ≡ false → session_on past sp ≡ None
no-session o past Admin h =
    let apart = neither (alive Admin (session_on past Admin)) (alive Admin (session_on past Locking)) (sym (alive-live Admin (session_on past Admin) (session_on past Locking)) ∙ h) in
    none-alive past Admin (session_on past Admin) refl apart.0
no-session o past Locking h =
    let apart = neither (alive Locking (session_on past Admin)) (alive Locking (session_on past Locking)) (sym (alive-live Locking (session_on past Admin) (session_on past Locking)) ∙ h) in
    none-alive past Locking (session_on past Locking) refl apart.1

begins-new : (look : LookUp) (l : Live) (sp sp' : Sp) (x : Option AttemptFailure) (m b n : Bool) → is_in_use look sp' ≡ m → lives_on sp' l ≡ b
    → cond (not m) (Refused 0x0c NotInUse) (cond b (Refused 3 SpBusy) (cond n (Refused 7 NoNumber) (Attempted sp' x))) ≡ Attempted sp None → (lives_on sp l ≡ false) × (is_in_use look sp ≡ true)
begins-new look l sp sp' x false b n is lives h = cc
begins-new look l sp sp' x true true n is lives h = cc
begins-new look l sp sp' x true false true is lives h = cc
begins-new look l sp sp' x true false false is lives h =
    let same : sp' ≡ sp = cc in (ap (λ s. lives_on s l) (sym same) ∙ lives, ap (is_in_use look) (sym same) ∙ is)

start-new : (look : LookUp) (l : Live) (opening : Opening) (sp : Sp) (x : Option Sp) → opening_verdict_on look l opening x ≡ Attempted sp None → (lives_on sp l ≡ false) × (is_in_use look sp ≡ true)
start-new look l opening sp None h = cc
start-new look l opening sp (Some sp') h = begins-new look l sp sp' (failure_of l.beside.block look sp' opening.authority opening.proof) (is_in_use look sp') (lives_on sp' l) (is_full l) refl refl h

started-can : (o : Origin) (past : List Event) (com_id : ℕ) (x : Option Opening) → CanDo o past (start_deed (facts o past) com_id x)
started-can o past com_id None = tt
started-can o past com_id (Some opening) = by_verdict (start_verdict (facts o past) (Some opening)) refl
  where
    by_verdict : (v : StartVerdict) → start_verdict (facts o past) (Some opening) ≡ v → CanDo o past (deed_of_start (facts o past) com_id opening v)
    by_verdict (Refused status rule) is = tt
    by_verdict (Attempted sp (Some failure)) is = tt
    by_verdict (Attempted sp None) is =
        let x = start-new (in_force o past) (live (facts o past)) opening sp (sp_named opening.spid) is in
        record { free = no-session o past sp x.0; made = x.1; number = refl }

either-can : (o : Origin) (past : List Event) (b : Bool) (x y : Outcome) → CanDo o past x.deed → CanDo o past y.deed → CanDo o past (cond b x y).deed
either-can o past true x y h g = h
either-can o past false x y h g = g

told-can : (o : Origin) (past : List Event) (com_id : ℕ) (x : Option HostLimits) → CanDo o past (told_deed com_id x)
told-can o past com_id None = tt
told-can o past com_id (Some limits) = tt

manager-can : (o : Origin) (past : List Event) (com_id : ℕ) (read : Result Message TokenError) → CanDo o past (to_manager (facts o past) com_id read).deed
manager-can o past com_id (Ok (call object method args status)) =
    either-can o past (is_method_of_manager properties (uid_of object) (uid_of method)) (properties_told (facts o past) com_id (values_of args)) _ (told-can o past com_id (host_told (facts o past).config.profile (channel_of (beside past) com_id).limits (values_of args)))
    (either-can o past (is_method_of_manager start_session (uid_of object) (uid_of method)) (started (facts o past) com_id (values_of args)) (refuses_item (refusal_of fail) NoMethod) (started-can o past com_id (opening_of (facts o past).config.profile (values_of args))) tt)
manager-can o past com_id (Ok (reply results status)) = tt
manager-can o past com_id (Ok (begin n)) = tt
manager-can o past com_id (Ok (end n)) = tt
manager-can o past com_id (Ok end_session) = tt
manager-can o past com_id (Err e) = tt

-- what is asked of the stack of a ComID
stack-can : (o : Origin) (past : List Event) (com_id : ℕ) (b : Bool) → CanDo o past (stack_deed (facts o past) com_id b)
stack-can o past com_id true = λ sp. refl
stack-can o past com_id false = tt

pub deed_law : DeedLaw
deed_law o past act deed response is = elim (item-from (facts o past) act deed response is) [
  | inl m ↦ can-by m.does (manager-can o past m.com_id m.read)
  | inr (inl s) ↦ can-by s.does (session-can o past s.session (ap (session_on past) (session-on past s.sp s.session s.lives) ∙ s.lives) s.read)
  | inr (inr t) ↦ can-by t.does (stack-can o past t.com_id t.is_reset)
]
  where
    can-by : {x y : SessionDeed} → x ≡ y → CanDo o past y → CanDo o past x
    can-by {x} {y} same h = rw same h
