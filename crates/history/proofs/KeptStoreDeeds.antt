-- What each deed makes of a store keeps what one more event says.
use Rattle.std.proofs.Common.{◌≡◌, ◌≤◌, ℕ, ◌==◌, ◌*◌, ◌+◌, Bool, true, false, List, [], ◌∷◌, ◌++◌, Option, Some, None, refl, sym, ◌∙◌, ap, cond, length, subst, arith}
use Rattle.std.specs.Prelude.{is_some, option_map, nat_le}
use Rattle.std.proofs.lemmas.Bool.Decides.{nat_tests}
use Rattle.sp_cells.specs.declared.names.Uid.{Uid}
use Rattle.sp_cells.specs.declared.names.Sp.{Sp}
use Rattle.sp_cells.specs.declared.names.Sp.TheVariants.{Admin, Locking}
use Rattle.sp_cells.specs.declared.names.Column.{Column}
use Rattle.sp_cells.specs.declared.cells.Cell.{Cell}
use Rattle.sp_cells.specs.declared.cells.Cell.TheVariants.{Number}
use Rattle.sp_cells.specs.Config.{Config, table_sectors}
use Rattle.sp_cells.specs.Flat.{sp_eq}
use Rattle.sp_cells.specs.Names.{admin_pin_uid, locking_sp}
use Rattle.sp_cells.specs.ColumnNames.{life_cycle_state_column, pin_column, tries_column}
use Rattle.sp_cells.specs.Limits.{manufactured, manufactured_inactive}
use Rattle.sp_cells.specs.Ranges.{number}
use Rattle.sp_tables.specs.Items.{item_at, with_item}
use Rattle.sp_tables.specs.Contents.{new_admin, new_locking, Contents, items_of, factory_contents, cells_look_up}
use Rattle.sp_tables.specs.Looks.{put_in}
use Rattle.sp_tables.specs.AtReset.{locking_tries_after}
use Rattle.sp_tables.specs.Tries.{is_tries}
use Rattle.sp_tables.proofs.LookLemmas.{look_up-sp}
use Rattle.shadow_mbr.specs.Stored.{sector_size}
use Rattle.audit.specs.declared.reason.AttemptFailure.{AttemptFailure}
use Rattle.audit.specs.declared.reason.AttemptFailure.TheVariants.{WrongPin, LockedOut, Disabled, Blocked, Unknown}
use Rattle.audit.specs.declared.reason.Why.{Why}
use Rattle.transactions.specs.Bytes.{blank}
use Rattle.transactions.specs.Stored.{Transaction, Part, Stored, part, at_part, part_begin, part_commit, part_close, part_tries, part_put, part_from, reverted, after_reset}
use Rattle.transactions.specs.Sights.{activated_with, with_pin}
use Rattle.sessions.specs.Answers.{rows_in_force, up}
use Rattle.shadow_mbr.specs.declared.erasure.Erasure.{Erasure}
use Rattle.sessions.specs.Deeds.{Setting, cells_set, bytes_set, Sets, Restores, Resets, Begun, Attempt, Unchanged, Started, Tried, Changed, Began, Committed, Aborted, Ended, Activated, Reverted, Erased, Drew, HostTold, StackReset, StackTold}
use Rattle.sessions.specs.Made.{part_with, StoresChange, closed_if, closed_where, with_count, CanSet}
use Rattle.history.specs.Opening.{Origin, factory_origin}
use Rattle.history.specs.Changes.{byte_in, reset_rows}
use Rattle.history.specs.Events.{Response, Deed, Nothing, InSession, OfQueue, Wrote, Trimmed, Took, BlockedSid, Chose, PowerSet, WasReset, Event}
use Rattle.history.specs.Readers.{begins, turns, changes_on, brought, changes, factory_rows, open_on, rows_after, tries, one_more, same_row}
use Rattle.history.specs.KeptStore.{HasKnownRows, KeepsPart, KeepsBytes, KeepsStore, StoresBy, StoreLaw}
use Rattle.history.proofs.Steps.{rows-by, turned}
use Rattle.history.proofs.Openings.{factory_law}
use Rattle.history.proofs.KeptStoreRows.{ShowTries, shows-places, put-places, item-shows, reset-shows, reset-same, count-shows, counts-same}
use Rattle.history.proofs.KeptStoreParts.{Spares, closed-part, was-closed, was-open, counted-part, spared-part, begun-part, set-part, committed-part}
use Rattle.history.proofs.KeptStoreBytes.{closed-bytes, spared-bytes, shut-bytes, begun-bytes, set-bytes, committed-bytes, blank-length, blank-at, FitsIn}
use Rattle.history.proofs.KeptStoreOpenings.{restored-part, no-tries-in}
use Rattle.history.proofs.KeptStoreTries.{unknown-none, one_more-up, counted-number, tries-after, reset-tries, admin-reset}
use Rattle.audit.specs.declared.rules.rule.Rule.{Rule}

abbrev other : Sp → Sp
other Admin = Locking
other Locking = Admin

other-apart : (sp : Sp) → sp_eq sp (other sp) ≡ false
other-apart Admin = refl
other-apart Locking = refl

-- an event by its deed
abbrev doing : Option ℕ → Option Why × Option Rule → Deed → Event
doing failed w deed = record { failed = failed; deed = deed; denied = w.0; rule = w.1 }

-- the Tries of an SP stay
abbrev SameTries : Event → List Event → Sp → Type 0
SameTries e past sp = (u : Uid) → tries (e ∷ past) sp u ≡ tries past sp u

abbrev BytesOn : Sp → Part → Origin → List Event → Type 0
BytesOn Admin p o past = Unit {0}
BytesOn Locking p o past = KeepsBytes p o past

-- a deed on one SP
one-part : (s : Stored) (o : Origin) (e : Event) (past : List Event) (sp : Sp) (f : Part → Part) → KeepsStore s o past → KeepsPart (f (part s sp)) o (e ∷ past) sp → BytesOn sp (f (part s sp)) o (e ∷ past)
    → Spares e.deed past (other sp) → SameTries e past (other sp) → KeepsStore (at_part sp f s) o (e ∷ past)
one-part s o e past Admin f h here bytes apart same = record {
  config = h.config;
  known = h.known;
  parts = parts;
  bytes = spared-bytes s.locking s.locking o e past h.bytes apart refl refl;
}
  where
    parts : (sp : Sp) → KeepsPart (part (at_part Admin f s) sp) o (e ∷ past) sp
    parts Admin = here
    parts Locking = spared-part s.locking o e past Locking (h.parts Locking) apart same
one-part s o e past Locking f h here bytes apart same = record {
  config = h.config;
  known = h.known;
  parts = parts;
  bytes = bytes;
}
  where
    parts : (sp : Sp) → KeepsPart (part (at_part Locking f s) sp) o (e ∷ past) sp
    parts Admin = spared-part s.admin o e past Admin (h.parts Admin) apart same
    parts Locking = here

-- a deed that leaves the store
left : (s : Stored) (o : Origin) (e : Event) (past : List Event) → KeepsStore s o past → ((sp : Sp) → Spares e.deed past sp) → ((sp : Sp) → SameTries e past sp) → KeepsStore s o (e ∷ past)
left s o e past h apart same = record {
  config = h.config;
  known = h.known;
  parts = λ sp. spared-part (part s sp) o e past sp (h.parts sp) (apart sp) (same sp);
  bytes = spared-bytes s.locking s.locking o e past h.bytes (apart Locking) refl refl;
}

keep-as : (s t : Stored) (o : Origin) (past : List Event) → t ≡ s → KeepsStore s o past → KeepsStore t o past
keep-as s t o past same h = subst (λ (x : Stored). KeepsStore x o past) (sym same) h

-- a count in one row
counted-bytes : (p : Part) (row : Uid) (n : ℕ) (o : Origin) (e : Event) (past : List Event) (sp : Sp) → BytesOn sp p o past → Spares e.deed past sp → BytesOn sp (part_tries row n p) o (e ∷ past)
counted-bytes p row n o e past Admin h apart = tt
counted-bytes p row n o e past Locking h apart = spared-bytes p (part_tries row n p) o e past h apart refl refl

bytes-on : (s : Stored) (o : Origin) (past : List Event) (sp : Sp) → KeepsStore s o past → BytesOn sp (part s sp) o past
bytes-on s o past Admin h = tt
bytes-on s o past Locking h = h.bytes

same-here : (sp : Sp) (row u : Uid) (b : Bool) (m k : ℕ) → (row.0 == u.0) ≡ b → cond (same_row sp row sp u) m k ≡ cond b m k
same-here Admin row u b m k h = ap (λ t. cond t m k) h
same-here Locking row u b m k h = ap (λ t. cond t m k) h

not-there : (sp : Sp) (row u : Uid) (m k : ℕ) → cond (same_row sp row (other sp) u) m k ≡ k
not-there Admin row u m k = refl
not-there Locking row u m k = refl

count-kept : (s : Stored) (o : Origin) (e : Event) (past : List Event) (sp : Sp) (row : Uid) (n : ℕ) (then : ℕ → ℕ) → KeepsStore s o past → ((any : Sp) → Spares e.deed past any)
    → ((any : Sp) (u : Uid) → tries (e ∷ past) any u ≡ cond (same_row sp row any u) (then (tries past any u)) (tries past any u))
    → ((u : Uid) (k : Column) → (row.0 == u.0) ≡ true → is_tries u k ≡ true → is_some (rows_after o past sp u k) ≡ true → then (tries past sp u) ≡ n)
    → KeepsStore (with_count sp row n s) o (e ∷ past)
count-kept s o e past sp row n then h apart counts here =
    one-part s o e past sp (part_tries row n) h
    (counted-part (part s sp) (with_item (part s sp).tries row tries_column (Number n)) o e past sp (h.parts sp) (apart sp)
    (count-shows (part s sp).tries row n (tries past sp) (tries (e ∷ past) sp) (rows_after o past sp) (λ object column. (h.parts sp).tries object column)
    (λ u k is counted some. counts sp u ∙ same-here sp row u true (then (tries past sp u)) (tries past sp u) is ∙ here u k is counted some)
    (λ u apart-row. counts sp u ∙ same-here sp row u false (then (tries past sp u)) (tries past sp u) apart-row)))
    (counted-bytes (part s sp) row n o e past sp (bytes-on s o past sp h) (apart sp))
    (apart (other sp))
    (λ u. counts (other sp) u ∙ not-there sp row u (then (tries past (other sp) u)) (tries past (other sp) u))

-- what ends a transaction
close-part : (p : Part) (o : Origin) (e : Event) (past : List Event) (sp : Sp) → KeepsPart p o past sp → open_on (e ∷ past) sp ≡ None → rows_after o (e ∷ past) sp ≡ rows_after o past sp → SameTries e past sp → KeepsPart (part_close p) o (e ∷ past) sp
close-part p o e past sp h closed rows same =
    closed-part (part_close p) o (e ∷ past) sp refl closed (rows_after o past sp) rows (λ object column. h.rows object column)
    (counts-same p.tries (tries past sp) (tries (e ∷ past) sp) (rows_after o past sp) (λ object column. h.tries object column) same)

-- a cell that is put in force
put-part : (p : Part) (object : Uid) (column : Column) (v : Cell) (o : Origin) (e : Event) (past : List Event) (sp : Sp) → KeepsPart p o past sp → open_on (e ∷ past) sp ≡ None → rows_after o (e ∷ past) sp ≡ put_in object column v (rows_after o past sp) → SameTries e past sp
    → KeepsPart (part_put object column v p) o (e ∷ past) sp
put-part p object column v o e past sp h closed rows same =
    closed-part (part_put object column v p) o (e ∷ past) sp refl closed (put_in object column v (rows_after o past sp)) rows
    (item-shows p.rows (rows_after o past sp) object column v (λ u k. h.rows u k))
    (shows-places p.tries (tries (e ∷ past) sp) (rows_after o past sp) (put_in object column v (rows_after o past sp))
    (counts-same p.tries (tries past sp) (tries (e ∷ past) sp) (rows_after o past sp) (λ u k. h.tries u k) same) (put-places object column v (rows_after o past sp)))

-- sessions, attempts
started-kept : (s : Stored) (o : Origin) (past : List Event) (x : Option ℕ) (w : Option Why × Option Rule) (session : Begun) (row : Uid) (r : Response) → KeepsStore s o past → KeepsStore (with_count session.sp row 0 s) o (doing x w (InSession (Started session row) r) ∷ past)
started-kept s o past x w session row r h =
    count-kept s o (doing x w (InSession (Started session row) r)) past session.sp row 0 (λ n. 0) h (λ any. record { turn = refl; start = refl; change = refl; bring = refl }) (λ any u. refl) (λ u k is counted some. refl)

if-same : (b : Bool) (n : ℕ) → cond b n n ≡ n
if-same true n = refl
if-same false n = refl

tried-kept : (s t : Stored) (o : Origin) (past : List Event) (x : Option ℕ) (w : Option Why × Option Rule) (a : Attempt) (r : Response) (f : Option AttemptFailure) → a.failure ≡ f → KeepsStore s o past → StoresBy (InSession (Tried (record a { failure = f })) r) s t → KeepsStore t o (doing x w (InSession (Tried (record a { failure = f })) r) ∷ past)
tried-kept s t o past x w a r None is h by =
    keep-as (with_count a.sp a.row 0 s) t o _ by
    (count-kept s o (doing x w (InSession (Tried (record a { failure = None })) r)) past a.sp a.row 0 (λ n. 0) h (λ any. record { turn = refl; start = refl; change = refl; bring = refl }) (λ any u. refl) (λ u k is counted some. refl))
tried-kept s t o past x w a r (Some WrongPin) is h by =
    keep-as (with_count a.sp a.row (up (number (rows_in_force s) a.sp a.row tries_column)) s) t o _ by
    (count-kept s o (doing x w (InSession (Tried (record a { failure = Some WrongPin })) r)) past a.sp a.row (up (number (rows_in_force s) a.sp a.row tries_column)) one_more h (λ any. record { turn = refl; start = refl; change = refl; bring = refl }) (λ any u. refl)
    (λ u k here counted some. one_more-up past a.sp u ∙ ap up (sym (counted-number s o past a.sp a.row u k h here counted some))))
tried-kept s t o past x w a r (Some LockedOut) is h by =
    keep-as s t o _ by (left s o (doing x w (InSession (Tried (record a { failure = Some LockedOut })) r)) past h (λ any. record { turn = refl; start = refl; change = refl; bring = refl }) (λ any u. if-same (same_row a.sp a.row any u) (tries past any u)))
tried-kept s t o past x w a r (Some Disabled) is h by =
    keep-as s t o _ by (left s o (doing x w (InSession (Tried (record a { failure = Some Disabled })) r)) past h (λ any. record { turn = refl; start = refl; change = refl; bring = refl }) (λ any u. if-same (same_row a.sp a.row any u) (tries past any u)))
tried-kept s t o past x w a r (Some Blocked) is h by =
    keep-as s t o _ by (left s o (doing x w (InSession (Tried (record a { failure = Some Blocked })) r)) past h (λ any. record { turn = refl; start = refl; change = refl; bring = refl }) (λ any u. if-same (same_row a.sp a.row any u) (tries past any u)))
tried-kept s t o past x w a r (Some Unknown) is h by =
    keep-as s t o _ by (left s o (doing x w (InSession (Tried (record a { failure = Some Unknown })) r)) past h (λ any. record { turn = refl; start = refl; change = refl; bring = refl }) (λ any u. if-same (same_row a.sp a.row any u) (tries past any u)))

-- Sets
le-of : (a b : ℕ) → nat_le a b ≡ true → a ≤ b
le-of a b h = grind (arith, nat_tests)

set-kept : (s : Stored) (o : Origin) (past : List Event) (x : Option ℕ) (w : Option Why × Option Rule) (sp : Sp) (st : Setting) (r : Response) → KeepsStore s o past → (sp ≡ Locking → FitsIn st (sector_size * table_sectors o.tables.config)) → KeepsStore (at_part sp (λ p. part_with st p p.pending) s) o (doing x w (InSession (Changed sp (Sets st)) r) ∷ past)
set-kept s o past x w Admin st r h fits =
    let e : Event = doing x w (InSession (Changed Admin (Sets st)) r) in
    one-part s o e past Admin (λ p. part_with st p p.pending) h (set-part s.admin o e past Admin st r (h.parts Admin) refl (λ u. refl) refl) tt (record { turn = refl; start = refl; change = refl; bring = refl }) (λ u. refl)
set-kept s o past x w Locking st r h fits =
    let e : Event = doing x w (InSession (Changed Locking (Sets st)) r) in
    one-part s o e past Locking (λ p. part_with st p p.pending) h (set-part s.locking o e past Locking st r (h.parts Locking) refl (λ u. refl) refl)
    (set-bytes s.locking o e past st r h.bytes (fits refl) refl (was-closed s.locking o past Locking (h.parts Locking)) (λ t. was-open s.locking o past Locking t (h.parts Locking)))
    (record { turn = refl; start = refl; change = refl; bring = refl }) (λ u. refl)

can-fit : (s : Stored) (o : Origin) (past : List Event) (st : Setting) → KeepsStore s o past → CanSet (table_sectors s.config) Locking st → FitsIn st (sector_size * table_sectors o.tables.config)
can-fit s o past (cells_set object cells) h can = tt
can-fit s o past (bytes_set start bytes) h can = subst (λ (c : Config). start + length bytes ≤ sector_size * table_sectors c) h.config (le-of (start + length bytes) (512 * table_sectors s.config) can)

setting-kept : (s t : Stored) (o : Origin) (past : List Event) (x : Option ℕ) (w : Option Why × Option Rule) (sp : Sp) (st : Setting) (r : Response) → KeepsStore s o past → StoresChange sp (Sets st) s t → KeepsStore t o (doing x w (InSession (Changed sp (Sets st)) r) ∷ past)
setting-kept s t o past x w sp st r h by = keep-as _ t o _ by.1 (set-kept s o past x w sp st r h (λ is. can-fit s o past st h (subst (λ sp. CanSet (table_sectors s.config) sp st) is by.0)))

-- transactions
begun-kept : (s : Stored) (o : Origin) (past : List Event) (x : Option ℕ) (w : Option Why × Option Rule) (sp : Sp) (n : ℕ) (r : Response) → KeepsStore s o past → KeepsStore (at_part sp (part_begin n) s) o (doing x w (InSession (Began sp n) r) ∷ past)
begun-kept s o past x w Admin n r h =
    let e : Event = doing x w (InSession (Began Admin n) r) in
    one-part s o e past Admin (part_begin n) h (begun-part s.admin o e past Admin n r (h.parts Admin) refl (λ u. refl)) tt (record { turn = refl; start = refl; change = refl; bring = refl }) (λ u. refl)
begun-kept s o past x w Locking n r h =
    let e : Event = doing x w (InSession (Began Locking n) r) in
    one-part s o e past Locking (part_begin n) h (begun-part s.locking o e past Locking n r (h.parts Locking) refl (λ u. refl)) (begun-bytes s.locking o e past n r h.bytes refl) (record { turn = refl; start = refl; change = refl; bring = refl }) (λ u. refl)

committed-kept : (s : Stored) (o : Origin) (past : List Event) (x : Option ℕ) (w : Option Why × Option Rule) (sp : Sp) (its : Transaction) (r : Response) → KeepsStore s o past → (part s sp).pending ≡ Some its → KeepsStore (at_part sp (part_commit its.tsn) s) o (doing x w (InSession (Committed sp) r) ∷ past)
committed-kept s o past x w Admin its r h has =
    let e : Event = doing x w (InSession (Committed Admin) r) in
    one-part s o e past Admin (part_commit its.tsn) h (committed-part s.admin o e past Admin its r (h.parts Admin) refl has (λ u. refl)) tt (record { turn = refl; start = refl; change = refl; bring = refl }) (λ u. refl)
committed-kept s o past x w Locking its r h has =
    let e : Event = doing x w (InSession (Committed Locking) r) in
    one-part s o e past Locking (part_commit its.tsn) h (committed-part s.locking o e past Locking its r (h.parts Locking) refl has (λ u. refl)) (committed-bytes s.locking o e past its r h.bytes refl has) (record { turn = refl; start = refl; change = refl; bring = refl }) (λ u. refl)

closed-kept : (s : Stored) (o : Origin) (e : Event) (past : List Event) (sp : Sp) → KeepsStore s o past → turns sp e.deed ≡ Some None → brought past sp e.deed ≡ [] → SameTries e past sp → Spares e.deed past (other sp) → SameTries e past (other sp) → KeepsStore (at_part sp part_close s) o (e ∷ past)
closed-kept s o e past Admin h turn bring same apart there =
    one-part s o e past Admin part_close h (close-part s.admin o e past Admin (h.parts Admin) (turned Admin e past None turn) (rows-by o e past Admin [] bring) same) tt apart there
closed-kept s o e past Locking h turn bring same apart there =
    one-part s o e past Locking part_close h (close-part s.locking o e past Locking (h.parts Locking) (turned Locking e past None turn) (rows-by o e past Locking [] bring) same)
    (shut-bytes s.locking (part_close s.locking) o e past h.bytes (λ place. ap (λ cs. byte_in (cs ++ changes past Locking) place) bring) refl refl) apart there

-- the reset of a ComID's stack
ended-part : (p : Part) (o : Origin) (e : Event) (past : List Event) (sp : Sp) (b : Bool) → turns sp e.deed ≡ cond b (Some None) None → begins sp e.deed ≡ false → changes_on sp e.deed ≡ None → brought past sp e.deed ≡ [] → SameTries e past sp
    → KeepsPart p o past sp → KeepsPart (cond b (part_close p) p) o (e ∷ past) sp
ended-part p o e past sp true turn start change bring same h = close-part p o e past sp h (turned sp e past None turn) (rows-by o e past sp [] bring) same
ended-part p o e past sp false turn start change bring same h = spared-part p o e past sp h (record { turn = turn; start = start; change = change; bring = bring }) same

ended-bytes : (p : Part) (o : Origin) (e : Event) (past : List Event) (b : Bool) → turns Locking e.deed ≡ cond b (Some None) None → begins Locking e.deed ≡ false → changes_on Locking e.deed ≡ None → brought past Locking e.deed ≡ []
    → KeepsBytes p o past → KeepsBytes (cond b (part_close p) p) o (e ∷ past)
ended-bytes p o e past true turn start change bring h = shut-bytes p (part_close p) o e past h (λ place. ap (λ cs. byte_in (cs ++ changes past Locking) place) bring) refl refl
ended-bytes p o e past false turn start change bring h = spared-bytes p p o e past h (record { turn = turn; start = start; change = change; bring = bring }) refl refl

admin-ended : (a b : Bool) (s : Stored) → (closed_if b Locking (closed_if a Admin s)).admin ≡ cond a (part_close s.admin) s.admin
admin-ended true true s = refl
admin-ended true false s = refl
admin-ended false true s = refl
admin-ended false false s = refl

locking-ended : (a b : Bool) (s : Stored) → (closed_if b Locking (closed_if a Admin s)).locking ≡ cond b (part_close s.locking) s.locking
locking-ended true true s = refl
locking-ended true false s = refl
locking-ended false true s = refl
locking-ended false false s = refl

config-ended : (a b : Bool) (s : Stored) → (closed_if b Locking (closed_if a Admin s)).config ≡ s.config
config-ended true true s = refl
config-ended true false s = refl
config-ended false true s = refl
config-ended false false s = refl

stack-kept : (s : Stored) (o : Origin) (past : List Event) (x : Option ℕ) (w : Option Why × Option Rule) (com_id : ℕ) (ends : Sp → Bool) (r : Response) → KeepsStore s o past → KeepsStore (closed_where ends s) o (doing x w (InSession (StackReset com_id ends) r) ∷ past)
stack-kept s o past x w com_id ends r h = record {
  config = config-ended (ends Admin) (ends Locking) s ∙ h.config;
  known = h.known;
  parts = parts;
  bytes =
      subst (λ (p : Part). KeepsBytes p o (e ∷ past)) (sym (locking-ended (ends Admin) (ends Locking) s))
      (ended-bytes s.locking o e past (ends Locking) refl refl refl refl h.bytes);
}
  where
    e : Event
    e = doing x w (InSession (StackReset com_id ends) r)

    parts : (sp : Sp) → KeepsPart (part (closed_where ends s) sp) o (e ∷ past) sp
    parts Admin =
        subst (λ (p : Part). KeepsPart p o (e ∷ past) Admin) (sym (admin-ended (ends Admin) (ends Locking) s))
        (ended-part s.admin o e past Admin (ends Admin) refl refl refl refl (λ u. refl) (h.parts Admin))
    parts Locking =
        subst (λ (p : Part). KeepsPart p o (e ∷ past) Locking) (sym (locking-ended (ends Admin) (ends Locking) s))
        (ended-part s.locking o e past Locking (ends Locking) refl refl refl refl (λ u. refl) (h.parts Locking))

-- Activate
pin-part : (s : Stored) (o : Origin) (past : List Event) (x : Option ℕ) (w : Option Why × Option Rule) (pin : Option Cell) (r : Response) → KeepsStore s o past → KeepsPart (with_pin pin s.locking) o (doing x w (InSession (Activated pin) r) ∷ past) Locking
pin-part s o past x w None r h =
    let e : Event = doing x w (InSession (Activated None) r) in
    close-part s.locking o e past Locking (h.parts Locking) (turned Locking e past None refl) (rows-by o e past Locking [] refl) (λ u. refl)
pin-part s o past x w (Some pin) r h =
    let e : Event = doing x w (InSession (Activated (Some pin)) r) in
    put-part s.locking (admin_pin_uid 1) pin_column pin o e past Locking (h.parts Locking) (turned Locking e past None refl) (rows-by o e past Locking _ refl) (λ u. refl)

pin-bytes : (s : Stored) (o : Origin) (past : List Event) (x : Option ℕ) (w : Option Why × Option Rule) (pin : Option Cell) (r : Response) → KeepsStore s o past → KeepsBytes (with_pin pin s.locking) o (doing x w (InSession (Activated pin) r) ∷ past)
pin-bytes s o past x w None r h = shut-bytes s.locking (with_pin None s.locking) o (doing x w (InSession (Activated None) r)) past h.bytes (λ place. refl) refl refl
pin-bytes s o past x w (Some pin) r h = shut-bytes s.locking (with_pin (Some pin) s.locking) o (doing x w (InSession (Activated (Some pin)) r)) past h.bytes (λ place. refl) refl refl

activated-kept : (s : Stored) (o : Origin) (past : List Event) (x : Option ℕ) (w : Option Why × Option Rule) (pin : Option Cell) (r : Response) → KeepsStore s o past → KeepsStore (activated_with pin s) o (doing x w (InSession (Activated pin) r) ∷ past)
activated-kept s o past x w pin r h = record {
  config = h.config;
  known = h.known;
  parts = parts;
  bytes = pin-bytes s o past x w pin r h;
}
  where
    e : Event
    e = doing x w (InSession (Activated pin) r)

    parts : (sp : Sp) → KeepsPart (part (activated_with pin s) sp) o (e ∷ past) sp
    parts Admin = put-part s.admin locking_sp life_cycle_state_column (Number manufactured) o e past Admin (h.parts Admin) (turned Admin e past None refl) (rows-by o e past Admin _ refl) (λ u. refl)
    parts Locking = pin-part s o past x w pin r h

-- Revert
factory-clean : (config : Config) (sp : Sp) (object : Uid) (column : Column) → is_tries object column ≡ true → item_at (items_of (factory_contents config) sp) object column ≡ option_map (λ _. Number 0) (item_at (items_of (factory_contents config) sp) object column)
factory-clean config sp = no-tries-in (factory_origin config) (factory_law config) sp

new-rows : (o : Origin) → HasKnownRows o → (sp : Sp) → factory_rows o sp ≡ item_at (items_of (factory_contents o.tables.config) sp)
new-rows o known sp = ap (λ (t : Contents). cells_look_up t sp) known.factory ∙ look_up-sp (factory_contents o.tables.config) sp

locking-part : (s : Stored) (o : Origin) (e : Event) (past : List Event) → KeepsStore s o past → turns Locking e.deed ≡ Some None → brought past Locking e.deed ≡ Restores ∷ [] → ((u : Uid) → tries (e ∷ past) Locking u ≡ 0) → KeepsPart (part_from (new_locking s.config) (blank s.locking.bytes)) o (e ∷ past) Locking
locking-part s o e past h turn bring zeros =
    restored-part (new_locking s.config) (blank s.locking.bytes) o (e ∷ past) Locking (turned Locking e past None turn)
    (rows-by o e past Locking (Restores ∷ []) bring ∙ new-rows o h.known Locking ∙ ap (λ (c : Config). item_at (new_locking c)) (sym h.config)) zeros (factory-clean s.config Locking)

locking-bytes : (s : Stored) (o : Origin) (e : Event) (past : List Event) → KeepsStore s o past → brought past Locking e.deed ≡ Restores ∷ [] → KeepsBytes (part_from (new_locking s.config) (blank s.locking.bytes)) o (e ∷ past)
locking-bytes s o e past h bring =
    closed-bytes (part_from (new_locking s.config) (blank s.locking.bytes)) o (e ∷ past) (Restores ∷ changes past Locking) refl (ap (λ cs. cs ++ changes past Locking) bring) (blank-length s.locking.bytes ∙ h.bytes.size) (λ place. blank-at s.locking.bytes place)

reverted-kept : (s : Stored) (o : Origin) (past : List Event) (x : Option ℕ) (w : Option Why × Option Rule) (sp : Sp) (erasure : Erasure) (r : Response) → KeepsStore s o past → KeepsStore (reverted sp s) o (doing x w (InSession (Reverted sp erasure) r) ∷ past)
reverted-kept s o past x w Admin erasure r h = record { config = h.config; known = h.known; parts = parts; bytes = locking-bytes s o e past h refl }
  where
    e : Event
    e = doing x w (InSession (Reverted Admin erasure) r)

    parts : (sp : Sp) → KeepsPart (part (reverted Admin s) sp) o (e ∷ past) sp
    parts Admin =
        restored-part (new_admin s.config) [] o (e ∷ past) Admin (turned Admin e past None refl)
        (rows-by o e past Admin (Restores ∷ []) refl ∙ new-rows o h.known Admin ∙ ap (λ (c : Config). item_at (new_admin c)) (sym h.config))
        (λ u. refl) (factory-clean s.config Admin)
    parts Locking = locking-part s o e past h refl refl (λ u. refl)
reverted-kept s o past x w Locking erasure r h = record { config = h.config; known = h.known; parts = parts; bytes = locking-bytes s o e past h refl }
  where
    e : Event
    e = doing x w (InSession (Reverted Locking erasure) r)

    parts : (sp : Sp) → KeepsPart (part (reverted Locking s) sp) o (e ∷ past) sp
    parts Admin = put-part s.admin locking_sp life_cycle_state_column (Number manufactured_inactive) o e past Admin (h.parts Admin) (turned Admin e past None refl) (rows-by o e past Admin _ refl) (λ u. refl)
    parts Locking = locking-part s o e past h refl refl (λ u. refl)

-- a reset
reset-kept : (s : Stored) (o : Origin) (past : List Event) (x : Option ℕ) (w : Option Why × Option Rule) (kind : ℕ) → KeepsStore s o past → KeepsStore (after_reset kind s) o (doing x w (WasReset kind) ∷ past)
reset-kept s o past x w kind h = record {
  config = h.config;
  known = h.known;
  parts = parts;
  bytes = shut-bytes s.locking (after_reset kind s).locking o e past h.bytes (λ place. refl) refl refl;
}
  where
    e : Event
    e = doing x w (WasReset kind)

    counts : (sp : Sp) → ShowTries (tries-after sp kind (part s sp).tries) (tries (e ∷ past) sp) (rows_after o past sp)
    counts sp = reset-tries sp kind (part s sp).tries (tries past sp) (tries (e ∷ past) sp) (rows_after o past sp) (λ object column. (h.parts sp).tries object column) (λ object column. unknown-none o past sp object column h.known) (λ u. refl)

    parts : (sp : Sp) → KeepsPart (part (after_reset kind s) sp) o (e ∷ past) sp
    parts Admin =
        closed-part (after_reset kind s).admin o (e ∷ past) Admin refl (turned Admin e past None refl) (rows_after o past Admin) (rows-by o e past Admin (Resets kind ∷ []) refl ∙ admin-reset o past kind h.known)
        (λ object column. (h.parts Admin).rows object column) (counts Admin)
    parts Locking =
        closed-part (after_reset kind s).locking o (e ∷ past) Locking refl (turned Locking e past None refl) (reset_rows kind (rows_after o past Locking)) (rows-by o e past Locking (Resets kind ∷ []) refl)
        (reset-shows kind s.locking.rows (rows_after o past Locking) (λ object column. (h.parts Locking).rows object column))
        (shows-places (locking_tries_after kind s.locking.tries) (tries (e ∷ past) Locking) (rows_after o past Locking) (reset_rows kind (rows_after o past Locking)) (counts Locking) (reset-same kind (rows_after o past Locking)))

-- each deed
deed-kept : (s t : Stored) (o : Origin) (past : List Event) (x : Option ℕ) (w : Option Why × Option Rule) (d : Deed) → KeepsStore s o past → StoresBy d s t → KeepsStore t o (doing x w d ∷ past)
deed-kept s t o past x w Nothing h by = keep-as s t o _ by (left s o (doing x w Nothing) past h (λ sp. record { turn = refl; start = refl; change = refl; bring = refl }) (λ sp u. refl))
deed-kept s t o past x w (OfQueue d) h by = keep-as s t o _ by (left s o (doing x w (OfQueue d)) past h (λ sp. record { turn = refl; start = refl; change = refl; bring = refl }) (λ sp u. refl))
deed-kept s t o past x w (Wrote lba bytes) h by = keep-as s t o _ by (left s o (doing x w (Wrote lba bytes)) past h (λ sp. record { turn = refl; start = refl; change = refl; bring = refl }) (λ sp u. refl))
deed-kept s t o past x w (Trimmed extents) h by = keep-as s t o _ by (left s o (doing x w (Trimmed extents)) past h (λ sp. record { turn = refl; start = refl; change = refl; bring = refl }) (λ sp u. refl))
deed-kept s t o past x w (Took com_id) h by = keep-as s t o _ by (left s o (doing x w (Took com_id)) past h (λ sp. record { turn = refl; start = refl; change = refl; bring = refl }) (λ sp u. refl))
deed-kept s t o past x w (BlockedSid block) h by = keep-as s t o _ by (left s o (doing x w (BlockedSid block)) past h (λ sp. record { turn = refl; start = refl; change = refl; bring = refl }) (λ sp u. refl))
deed-kept s t o past x w (Chose feature) h by = keep-as s t o _ by (left s o (doing x w (Chose feature)) past h (λ sp. record { turn = refl; start = refl; change = refl; bring = refl }) (λ sp u. refl))
deed-kept s t o past x w (PowerSet in_standby) h by = keep-as s t o _ by (left s o (doing x w (PowerSet in_standby)) past h (λ sp. record { turn = refl; start = refl; change = refl; bring = refl }) (λ sp u. refl))
deed-kept s t o past x w (InSession Unchanged r) h by = keep-as s t o _ by (left s o (doing x w (InSession Unchanged r)) past h (λ sp. record { turn = refl; start = refl; change = refl; bring = refl }) (λ sp u. refl))
deed-kept s t o past x w (InSession (Started session row) r) h by = keep-as _ t o _ by (started-kept s o past x w session row r h)
deed-kept s t o past x w (InSession (Tried a) r) h by = tried-kept s t o past x w a r a.failure refl h by
deed-kept s t o past x w (InSession (Changed sp (Sets st)) r) h by = setting-kept s t o past x w sp st r h by
deed-kept s t o past x w (InSession (Changed sp Restores) r) h by = absurd by
deed-kept s t o past x w (InSession (Changed sp (Resets kind)) r) h by = absurd by
deed-kept s t o past x w (InSession (Began sp n) r) h by = keep-as _ t o _ by.1 (begun-kept s o past x w sp n r h)
deed-kept s t o past x w (InSession (Committed sp) r) h by = keep-as _ t o _ by.2 (committed-kept s o past x w sp by.0 r h by.1)
deed-kept s t o past x w (InSession (Aborted Admin) r) h by = keep-as _ t o _ by (closed-kept s o (doing x w (InSession (Aborted Admin) r)) past Admin h refl refl (λ u. refl) (record { turn = refl; start = refl; change = refl; bring = refl }) (λ u. refl))
deed-kept s t o past x w (InSession (Aborted Locking) r) h by = keep-as _ t o _ by (closed-kept s o (doing x w (InSession (Aborted Locking) r)) past Locking h refl refl (λ u. refl) (record { turn = refl; start = refl; change = refl; bring = refl }) (λ u. refl))
deed-kept s t o past x w (InSession (Ended Admin) r) h by = keep-as _ t o _ by (closed-kept s o (doing x w (InSession (Ended Admin) r)) past Admin h refl refl (λ u. refl) (record { turn = refl; start = refl; change = refl; bring = refl }) (λ u. refl))
deed-kept s t o past x w (InSession (Ended Locking) r) h by = keep-as _ t o _ by (closed-kept s o (doing x w (InSession (Ended Locking) r)) past Locking h refl refl (λ u. refl) (record { turn = refl; start = refl; change = refl; bring = refl }) (λ u. refl))
deed-kept s t o past x w (InSession (Activated pin) r) h by = keep-as _ t o _ by (activated-kept s o past x w pin r h)
deed-kept s t o past x w (InSession (Reverted sp erasure) r) h by = keep-as _ t o _ by (reverted-kept s o past x w sp erasure r h)
deed-kept s t o past x w (InSession (Erased erasure) r) h by = keep-as s t o _ by (left s o (doing x w (InSession (Erased erasure) r)) past h (λ sp. record { turn = refl; start = refl; change = refl; bring = refl }) (λ sp u. refl))
deed-kept s t o past x w (InSession (Drew count) r) h by = keep-as s t o _ by (left s o (doing x w (InSession (Drew count) r)) past h (λ sp. record { turn = refl; start = refl; change = refl; bring = refl }) (λ sp u. refl))
deed-kept s t o past x w (InSession (HostTold com_id limits) r) h by = keep-as s t o _ by (left s o (doing x w (InSession (HostTold com_id limits) r)) past h (λ sp. record { turn = refl; start = refl; change = refl; bring = refl }) (λ sp u. refl))
deed-kept s t o past x w (InSession (StackTold com_id) r) h by = keep-as s t o _ by (left s o (doing x w (InSession (StackTold com_id) r)) past h (λ sp. record { turn = refl; start = refl; change = refl; bring = refl }) (λ sp u. refl))
deed-kept s t o past x w (InSession (StackReset com_id ends) r) h by = keep-as _ t o _ by (stack-kept s o past x w com_id ends r h)
deed-kept s t o past x w (WasReset kind) h by = keep-as _ t o _ by (reset-kept s o past x w kind h)

pub store_law : StoreLaw
store_law o past e s t h by = deed-kept s t o past e.failed (e.denied, e.rule) e.deed h by
