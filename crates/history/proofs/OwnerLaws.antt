-- Whose an open transaction is, and when none can be open.
use Rattle.std.proofs.Common.{◌≡◌, ℕ, ◌+◌, ◌==◌, Bool, true, false, ◌&&◌, List, [], ◌∷◌, ◌++◌, Option, Some, None, refl, sym, ◌∙◌, ap, cond, ◌⊎◌, inl, inr, eqb-true, eq-eqb, ◌||◌}
use Rattle.std.specs.Prelude.{unwrap_or, option_map, option_to_list}
use Rattle.std.specs.List.{list_all}
use Rattle.basics.specs.declared.profile.Profile.{Profile}
use Rattle.basics.specs.declared.profile.Profile.TheVariants.{Base, Field, Opal}
use Rattle.sp_cells.specs.declared.names.Uid.{Uid}
use Rattle.sp_cells.specs.declared.names.Sp.{Sp}
use Rattle.sp_cells.specs.declared.names.Sp.TheVariants.{Admin, Locking}
use Rattle.sp_cells.specs.declared.names.Column.{Column}
use Rattle.sp_cells.specs.declared.cells.Cell.{Cell}
use Rattle.sp_cells.specs.Names.{c_pin_sid, tper_info, data_removal, makers_class, admin_sp_admin, c_pin_admin_sp_admin, locking_sp, mbr_control}
use Rattle.sp_cells.specs.declared.cells.Cell.TheVariants.{Number}
use Rattle.sp_cells.specs.Flat.{sp_eq}
use Rattle.sp_cells.specs.Ranges.{cell_number}
use Rattle.sp_cells.specs.ColumnNames.{life_cycle_state_column, mbr_done_on_reset_column}
use Rattle.sp_tables.specs.Contents.{cells_look_up}
use Rattle.history.specs.Opening.{Origin}
use Rattle.sp_tables.specs.Looks.{RowLook, put_in, puts_in}
use Rattle.sp_cells.specs.declared.names.TheConstants.{RANGES}
use Rattle.sp_tables.specs.AtReset.{has_kind}
use Rattle.transactions.specs.Resets.{is_range, locks_seen}
use Rattle.sessions.specs.Deeds.{cells_set, bytes_set, Change, Sets, Restores, Resets, Begun, SessionDeed, Unchanged, Started, Tried, Changed, Began, Committed, Aborted, Ended, Activated, Reverted, Erased, Drew, HostTold, StackReset, StackTold}
use Rattle.history.specs.Changes.{reset_rows, apply, apply_all}
use Rattle.sessions.specs.Starts.{is_in_use}
use Rattle.history.specs.Events.{Response, Deed, Nothing, InSession, OfQueue, Wrote, Trimmed, Took, BlockedSid, Chose, PowerSet, WasReset, Event}
use Rattle.history.specs.Readers.{restores, living, session_on, open_on, is_of, in_force, turns, begins, changes_on, own_changes, if_open, open_changes, only_on, unless_any_open, brought, changes, factory_rows}
use Rattle.history.specs.History.{Act, event, log}
use Rattle.history.specs.Deeds.{IsNew, is_set_on_each, is_set_on_opal, is_set_in_admin, is_of_row, Begins, Changes, IsOutside, IsRevert, IsRevertSp, CanDo, OwnerLaw, LifeLaw, ActivateLaw, RevertLaw}
use Rattle.history.proofs.Words.{latest-here, latest-skip, sp-is}
use Rattle.history.proofs.Emptied.{every-since-more, closed}
use Rattle.history.proofs.DeedLaws.{deed_law}

abbrev gone : Option (Option Begun)
gone = Some None

-- what a deed is, by what is read off it
began-is : (sp : Sp) (d : Deed) (n : ℕ) → turns sp d ≡ Some (Some n) → (r : Response) × (d ≡ InSession (Began sp n) r)
began-is sp (InSession (Began s m) r) n h = by_sp (sp_eq s sp) refl h
  where
    by_sp : (b : Bool) → sp_eq s sp ≡ b → cond b (Some (Some m)) None ≡ Some (Some n) → (r' : Response) × (InSession (Began s m) r ≡ InSession (Began sp n) r')
    by_sp true same g = let k : m ≡ n = cc in (r, ap (λ x. InSession (Began x m) r) (sp-is s sp same) ∙ ap (λ x. InSession (Began sp x) r) k)
    by_sp false same g = absurd (clash g)
      where
        clash : {x : Option ℕ} → None ≡ Some x → ⊥
        clash g = cc
began-is sp (InSession (Committed s) r) n h = by_sp (sp_eq s sp) h
  where
    by_sp : (b : Bool) → cond b closed None ≡ Some (Some n) → (r' : Response) × (InSession (Committed s) r ≡ InSession (Began sp n) r')
    by_sp true g = cc
    by_sp false g = cc
began-is sp (InSession (Aborted s) r) n h = by_sp (sp_eq s sp) h
  where
    by_sp : (b : Bool) → cond b closed None ≡ Some (Some n) → (r' : Response) × (InSession (Aborted s) r ≡ InSession (Began sp n) r')
    by_sp true g = cc
    by_sp false g = cc
began-is sp (InSession (Ended s) r) n h = by_sp (sp_eq s sp) h
  where
    by_sp : (b : Bool) → cond b closed None ≡ Some (Some n) → (r' : Response) × (InSession (Ended s) r ≡ InSession (Began sp n) r')
    by_sp true g = cc
    by_sp false g = cc
began-is sp (InSession Unchanged r) n h = cc
began-is sp (InSession (Started session row) r) n h = cc
began-is sp (InSession (Tried attempt) r) n h = cc
began-is sp (InSession (Changed s c) r) n h = cc
began-is sp (InSession (Activated pin) r) n h = cc
began-is sp (InSession (Reverted s w) r) n h = cc
began-is sp (InSession (Erased w) r) n h = cc
began-is sp (InSession (Drew count) r) n h = cc
began-is sp (InSession (HostTold com_id limits) r) n h = cc
began-is sp (InSession (StackTold com_id) r) n h = cc
began-is sp (InSession (StackReset com_id ends) r) n h = by_sp (ends sp) h
  where
    by_sp : (b : Bool) → cond b closed None ≡ Some (Some n) → (r' : Response) × (InSession (StackReset com_id ends) r ≡ InSession (Began sp n) r')
    by_sp true g = cc
    by_sp false g = cc
began-is sp Nothing n h = cc
began-is sp (OfQueue d) n h = cc
began-is sp (Wrote lba bytes) n h = cc
began-is sp (Trimmed extents) n h = cc
began-is sp (Took c) n h = cc
began-is sp (BlockedSid block) n h = cc
began-is sp (Chose feature) n h = cc
began-is sp (PowerSet in_standby) n h = cc
began-is sp (WasReset kind) n h = cc

record StartedOn (sp : Sp) (d : Deed) : Type 0 where
  session : Begun
  row : Uid
  response : Response
  is : d ≡ InSession (Started session row) response
  on : session.sp ≡ sp

-- what brings or ends a session without turning the transaction of its SP is a start
start-is : (sp : Sp) (d : Deed) (x : Option Begun) → living sp d ≡ Some x → turns sp d ≡ None → StartedOn sp d
start-is sp (InSession (Started session row) r) x h g = by_sp (sp_eq session.sp sp) refl h
  where
    by_sp : (b : Bool) → sp_eq session.sp sp ≡ b → cond b (Some (Some session)) None ≡ Some x → StartedOn sp (InSession (Started session row) r)
    by_sp true same k = record { session = session; row = row; response = r; is = refl; on = sp-is session.sp sp same }
    by_sp false same k = cc
start-is sp (InSession (Ended s) r) x h g = by_sp (sp_eq s sp) h g
  where
    by_sp : (b : Bool) → cond b gone None ≡ Some x → cond b closed None ≡ None → StartedOn sp (InSession (Ended s) r)
    by_sp true k l = cc
    by_sp false k l = cc
start-is sp (InSession (Reverted s w) r) x h g = cc
start-is sp (WasReset kind) x h g = cc
start-is sp (InSession Unchanged r) x h g = cc
start-is sp (InSession (Tried attempt) r) x h g = cc
start-is sp (InSession (Changed s c) r) x h g = cc
start-is sp (InSession (Began s n) r) x h g = cc
start-is sp (InSession (Committed s) r) x h g = cc
start-is sp (InSession (Aborted s) r) x h g = cc
start-is sp (InSession (Activated pin) r) x h g = cc
start-is sp (InSession (Erased w) r) x h g = cc
start-is sp (InSession (Drew count) r) x h g = cc
start-is sp (InSession (HostTold com_id limits) r) x h g = cc
start-is sp (InSession (StackTold com_id) r) x h g = cc
start-is sp (InSession (StackReset com_id ends) r) x h g = by_sp (ends sp) h g
  where
    by_sp : (b : Bool) → cond b gone None ≡ Some x → cond b closed None ≡ None → StartedOn sp (InSession (StackReset com_id ends) r)
    by_sp true k l = cc
    by_sp false k l = cc
start-is sp Nothing x h g = cc
start-is sp (OfQueue d) x h g = cc
start-is sp (Wrote lba bytes) x h g = cc
start-is sp (Trimmed extents) x h g = cc
start-is sp (Took c) x h g = cc
start-is sp (BlockedSid block) x h g = cc
start-is sp (Chose feature) x h g = cc
start-is sp (PowerSet in_standby) x h g = cc

-- what brings a session is a start
begun-is : (sp : Sp) (d : Deed) (s : Begun) → living sp d ≡ Some (Some s) → StartedOn sp d
begun-is sp (InSession (Started session row) r) s h = by_sp (sp_eq session.sp sp) refl h
  where
    by_sp : (b : Bool) → sp_eq session.sp sp ≡ b → cond b (Some (Some session)) None ≡ Some (Some s) → StartedOn sp (InSession (Started session row) r)
    by_sp true same k = record { session = session; row = row; response = r; is = refl; on = sp-is session.sp sp same }
    by_sp false same k = cc
begun-is sp (InSession (Ended t) r) s h = by_sp (sp_eq t sp) h
  where
    by_sp : (b : Bool) → cond b gone None ≡ Some (Some s) → StartedOn sp (InSession (Ended t) r)
    by_sp true k = cc
    by_sp false k = cc
begun-is sp (InSession (Reverted t w) r) s h = by_sp (restores t sp) h
  where
    by_sp : (b : Bool) → cond b gone None ≡ Some (Some s) → StartedOn sp (InSession (Reverted t w) r)
    by_sp true k = cc
    by_sp false k = cc
begun-is sp (WasReset kind) s h = cc
begun-is sp (InSession Unchanged r) s h = cc
begun-is sp (InSession (Tried attempt) r) s h = cc
begun-is sp (InSession (Changed t c) r) s h = cc
begun-is sp (InSession (Began t n) r) s h = cc
begun-is sp (InSession (Committed t) r) s h = cc
begun-is sp (InSession (Aborted t) r) s h = cc
begun-is sp (InSession (Activated pin) r) s h = cc
begun-is sp (InSession (Erased w) r) s h = cc
begun-is sp (InSession (Drew count) r) s h = cc
begun-is sp (InSession (HostTold com_id limits) r) s h = cc
begun-is sp (InSession (StackTold com_id) r) s h = cc
begun-is sp (InSession (StackReset com_id ends) r) s h = by_sp (ends sp) h
  where
    by_sp : (b : Bool) → cond b gone None ≡ Some (Some s) → StartedOn sp (InSession (StackReset com_id ends) r)
    by_sp true k = cc
    by_sp false k = cc
begun-is sp Nothing s h = cc
begun-is sp (OfQueue d) s h = cc
begun-is sp (Wrote lba bytes) s h = cc
begun-is sp (Trimmed extents) s h = cc
begun-is sp (Took c) s h = cc
begun-is sp (BlockedSid block) s h = cc
begun-is sp (Chose feature) s h = cc
begun-is sp (PowerSet in_standby) s h = cc

-- it leaves the state of the Locking SP
abbrev spares : Change → Bool
spares (Sets (cells_set object cells)) = is_set_in_admin Opal object
spares (Sets (bytes_set place bytes)) = true
spares (Resets kind) = true
spares Restores = false

or-left : (a b : Bool) → a ≡ true → (a || b) ≡ true
or-left true b h = refl
or-left false b h = cc

on-any : (profile : Profile) (object : Uid) → is_set_in_admin profile object ≡ true → is_set_in_admin Opal object ≡ true
on-any Base object h = or-left (is_set_on_each object) (is_set_on_opal object) h
on-any Field object h = or-left (is_set_on_each object) (is_set_on_opal object) h
on-any Opal object h = h

row-spares : (profile : Profile) (c : Change) → is_of_row (is_set_in_admin profile) c ≡ true → spares c ≡ true
row-spares profile (Sets (cells_set object cells)) h = on-any profile object h
row-spares profile (Sets (bytes_set place bytes)) h = refl
row-spares profile (Resets kind) h = refl
row-spares profile Restores h = h

-- a Set on an SP
pub changed-is : (sp : Sp) (d : Deed) (c : Change) → changes_on sp d ≡ Some c → (r : Response) × (d ≡ InSession (Changed sp c) r)
changed-is sp (InSession (Changed s k) r) c h = by_sp (sp_eq s sp) refl h
  where
    by_sp : (b : Bool) → sp_eq s sp ≡ b → cond b (Some k) None ≡ Some c → (r' : Response) × (InSession (Changed s k) r ≡ InSession (Changed sp c) r')
    by_sp true same g = let l : k ≡ c = cc in (r, ap (λ x. InSession (Changed x k) r) (sp-is s sp same) ∙ ap (λ x. InSession (Changed sp x) r) l)
    by_sp false same g = cc
changed-is sp (InSession Unchanged r) c h = cc
changed-is sp (InSession (Started session row) r) c h = cc
changed-is sp (InSession (Tried attempt) r) c h = cc
changed-is sp (InSession (Began s n) r) c h = cc
changed-is sp (InSession (Committed s) r) c h = cc
changed-is sp (InSession (Aborted s) r) c h = cc
changed-is sp (InSession (Ended s) r) c h = cc
changed-is sp (InSession (Activated pin) r) c h = cc
changed-is sp (InSession (Reverted s w) r) c h = cc
changed-is sp (InSession (Erased w) r) c h = cc
changed-is sp (InSession (Drew count) r) c h = cc
changed-is sp (InSession (HostTold com_id limits) r) c h = cc
changed-is sp (InSession (StackTold com_id) r) c h = cc
changed-is sp (InSession (StackReset com_id ends) r) c h = cc
changed-is sp Nothing c h = cc
changed-is sp (OfQueue d) c h = cc
changed-is sp (Wrote lba bytes) c h = cc
changed-is sp (Trimmed extents) c h = cc
changed-is sp (Took x) c h = cc
changed-is sp (BlockedSid block) c h = cc
changed-is sp (Chose feature) c h = cc
changed-is sp (PowerSet in_standby) c h = cc
changed-is sp (WasReset kind) c h = cc

-- what each past of acts keeps
record Kept (o : Origin) (past : List Event) : Type 0 where
  owner : (sp : Sp) (n : ℕ) → open_on past sp ≡ Some n → (s : Begun) × (session_on past sp ≡ Some s) × (s.number ≡ n)
  own : list_all spares (own_changes past Admin) ≡ true
  alive : (s : Begun) → session_on past Locking ≡ Some s → is_in_use (in_force o past) Locking ≡ true

abbrev Can : Origin → List Event → Event → Type 0
Can o past e = (d : SessionDeed) (r : Response) → e.deed ≡ InSession d r → CanDo o past d

same-session : (sp : Sp) (e : Event) (es : List Event) → living sp e.deed ≡ None → session_on (e ∷ es) sp ≡ session_on es sp
same-session sp e es h = ap (λ o. unwrap_or o None) (latest-skip (living sp) e es h)

same-open : (sp : Sp) (e : Event) (es : List Event) → turns sp e.deed ≡ None → open_on (e ∷ es) sp ≡ open_on es sp
same-open sp e es h = ap (λ o. unwrap_or o None) (latest-skip (turns sp) e es h)

some-none : {A : Type 0} {x : Option A} {a : A} → x ≡ Some a → x ≡ None → ⊥
some-none h g = absurd (clash (sym h ∙ g))
  where
    clash : {A : Type 0} {a : A} → Some a ≡ None → ⊥
    clash k = cc

owner-kept : (o : Origin) (e : Event) (es : List Event) → Can o es e → Kept o es → (sp : Sp) (n : ℕ) → open_on (e ∷ es) sp ≡ Some n → (s : Begun) × (session_on (e ∷ es) sp ≡ Some s) × (s.number ≡ n)
owner-kept o e es can k sp n h = by_turn (turns sp e.deed) refl
  where
    by_life : turns sp e.deed ≡ None → (t : Option (Option Begun)) → living sp e.deed ≡ t → (s : Begun) × (session_on (e ∷ es) sp ≡ Some s) × (s.number ≡ n)
    by_life is None life = let x = k.owner sp n (sym (same-open sp e es is) ∙ h) in (x.0, same-session sp e es life ∙ x.1, x.2)
    by_life is (Some y) life =
        let st = start-is sp e.deed y life is in
        let new : IsNew o es st.session = can (Started st.session st.row) st.response st.is in
        let x = k.owner sp n (sym (same-open sp e es is) ∙ h) in
        absurd (some-none x.1 (ap (session_on es) (sym st.on) ∙ new.free))

    by_turn : (t : Option (Option ℕ)) → turns sp e.deed ≡ t → (s : Begun) × (session_on (e ∷ es) sp ≡ Some s) × (s.number ≡ n)
    by_turn None is = by_life is (living sp e.deed) refl
    by_turn (Some None) is = absurd (some-none h (ap (λ o. unwrap_or o None) (latest-here (turns sp) e es None is)))
    by_turn (Some (Some m)) is =
        let b = began-is sp e.deed m is in
        let can_begin : Begins es sp m = can (Began sp m) b.0 b.1 in
        let same : m ≡ n = some-same (sym (ap (λ o. unwrap_or o None) (latest-here (turns sp) e es (Some m) is)) ∙ h) in
        (can_begin.session, same-session sp e es (ap (living sp) b.1) ∙ can_begin.lives.lives, can_begin.own ∙ same)
      where
        some-same : {x y : ℕ} → Some x ≡ Some y → x ≡ y
        some-same g = cc

own-kept : (o : Origin) (e : Event) (es : List Event) → Can o es e → Kept o es → list_all spares (own_changes (e ∷ es) Admin) ≡ true
own-kept o e es can k = by_begin (begins Admin e.deed) refl
  where
    by_change : (x : Option Change) → changes_on Admin e.deed ≡ x → list_all spares (option_to_list x ++ own_changes es Admin) ≡ true
    by_change None is = k.own
    by_change (Some c) is =
        let d = changed-is Admin e.deed c is in
        let set : Changes o es Admin c = can (Changed Admin c) d.0 d.1 in
        ap (λ b. b && list_all spares (own_changes es Admin)) (row-spares o.tables.config.profile c (set.row refl)) ∙ k.own

    by_begin : (b : Bool) → begins Admin e.deed ≡ b → list_all spares (own_changes (e ∷ es) Admin) ≡ true
    by_begin true is = ap (list_all spares) (every-since-more (changes_on Admin) (begins Admin) e es true is)
    by_begin false is = ap (list_all spares) (every-since-more (changes_on Admin) (begins Admin) e es false is) ∙ by_change (changes_on Admin e.deed) refl

-- changes that spare the state of the Locking SP leave it
put-spares : (object : Uid) (c : Column) (v : Cell) (rows : RowLook) → is_set_in_admin Opal object ≡ true → put_in object c v rows locking_sp life_cycle_state_column ≡ rows locking_sp life_cycle_state_column
put-spares object c v rows h = by_each (object.0 == c_pin_sid.0) (object.0 == tper_info.0) (object.0 == data_removal.0) refl refl refl h
  where
    by_opal : (a b d : Bool) → (object.0 == makers_class.0) ≡ a → (object.0 == admin_sp_admin.0) ≡ b → (object.0 == c_pin_admin_sp_admin.0) ≡ d → (a || b || d) ≡ true → put_in object c v rows locking_sp life_cycle_state_column ≡ rows locking_sp life_cycle_state_column
    by_opal true b d is other last g = ap (λ (n : ℕ). put_in (record { 0 = n }) c v rows locking_sp life_cycle_state_column) (eqb-true object.0 makers_class.0 is)
    by_opal false true d is other last g = ap (λ (n : ℕ). put_in (record { 0 = n }) c v rows locking_sp life_cycle_state_column) (eqb-true object.0 admin_sp_admin.0 other)
    by_opal false false true is other last g = ap (λ (n : ℕ). put_in (record { 0 = n }) c v rows locking_sp life_cycle_state_column) (eqb-true object.0 c_pin_admin_sp_admin.0 last)
    by_opal false false false is other last g = cc

    by_each : (a b d : Bool) → (object.0 == c_pin_sid.0) ≡ a → (object.0 == tper_info.0) ≡ b → (object.0 == data_removal.0) ≡ d → ((a || b || d) || is_set_on_opal object) ≡ true → put_in object c v rows locking_sp life_cycle_state_column ≡ rows locking_sp life_cycle_state_column
    by_each true b d is other last g = ap (λ (n : ℕ). put_in (record { 0 = n }) c v rows locking_sp life_cycle_state_column) (eqb-true object.0 c_pin_sid.0 is)
    by_each false true d is other last g = ap (λ (n : ℕ). put_in (record { 0 = n }) c v rows locking_sp life_cycle_state_column) (eqb-true object.0 tper_info.0 other)
    by_each false false true is other last g = ap (λ (n : ℕ). put_in (record { 0 = n }) c v rows locking_sp life_cycle_state_column) (eqb-true object.0 data_removal.0 last)
    by_each false false false is other last g = by_opal (object.0 == makers_class.0) (object.0 == admin_sp_admin.0) (object.0 == c_pin_admin_sp_admin.0) refl refl refl g

puts-spare : (object : Uid) (cells : List (Column × Cell)) (rows : RowLook) → is_set_in_admin Opal object ≡ true → puts_in object cells rows locking_sp life_cycle_state_column ≡ rows locking_sp life_cycle_state_column
puts-spare object [] rows h = refl
puts-spare object (p ∷ ps) rows h = puts-spare object ps (put_in object p.0 p.1 rows) h ∙ put-spares object p.0 p.1 rows h

and-false : (b : Bool) → (b && false) ≡ false
and-false true = refl
and-false false = refl

reset-spares : (kind : ℕ) (rows : RowLook) → reset_rows kind rows locking_sp life_cycle_state_column ≡ rows locking_sp life_cycle_state_column
unfolding is_range
reset-spares kind rows =
    let locked : RowLook = locks_seen (RANGES + 1) kind rows in
    ap (λ b. cond b (option_map (λ _. Number 0) (locked locking_sp life_cycle_state_column)) (locked locking_sp life_cycle_state_column)) (and-false (has_kind kind (locked mbr_control mbr_done_on_reset_column)))

change-spares : (factory rows : RowLook) (c : Change) → spares c ≡ true → apply factory c rows locking_sp life_cycle_state_column ≡ rows locking_sp life_cycle_state_column
change-spares factory rows (Sets (cells_set object cells)) h = puts-spare object cells rows h
change-spares factory rows (Sets (bytes_set place bytes)) h = refl
change-spares factory rows (Resets kind) h = reset-spares kind rows
change-spares factory rows Restores h = cc

and-parts : (a b : Bool) → (a && b) ≡ true → (a ≡ true) × (b ≡ true)
and-parts true b h = (refl, h)
and-parts false b h = cc

changes-spare : (factory rows : RowLook) (cs ds : List Change) → list_all spares cs ≡ true → apply_all factory (cs ++ ds) rows locking_sp life_cycle_state_column ≡ apply_all factory ds rows locking_sp life_cycle_state_column
changes-spare factory rows [] ds h = refl
changes-spare factory rows (c ∷ cs) ds h =
    let parts = and-parts (spares c) (list_all spares cs) h in
    change-spares factory (apply_all factory (cs ++ ds) rows) c parts.0 ∙ changes-spare factory rows cs ds parts.1

state-kept : (o : Origin) (e : Event) (es : List Event) → list_all spares (brought es Admin e.deed) ≡ true → is_in_use (in_force o (e ∷ es)) Locking ≡ is_in_use (in_force o es) Locking
state-kept o e es h = ap (λ cell. cell_number cell == 9) (changes-spare (factory_rows o Admin) (cells_look_up o.tables Admin) (brought es Admin e.deed) (changes es Admin) h)

-- what an event brings to the Admin SP, but for an Activate and a Revert
open-spare : (x : Option ℕ) (own : List Change) → list_all spares own ≡ true → list_all spares (if_open x own) ≡ true
open-spare None own h = refl
open-spare (Some n) own h = h

only-spare : (t : Sp) (xs : List Change) → (t ≡ Admin → list_all spares xs ≡ true) → list_all spares (only_on Admin t xs) ≡ true
only-spare Admin xs h = h refl
only-spare Locking xs h = refl

set-spare : (x : Option ℕ) (c : Change) → spares c ≡ true → list_all spares (unless_any_open x c) ≡ true
set-spare None c h = ap (λ b. b && true) h
set-spare (Some n) c h = refl

abbrev is_activation : Deed → Bool
is_activation (InSession (Activated pin) r) = true
is_activation (InSession (Reverted s w) r) = true
is_activation _ = false

brought-spare : (o : Origin) (es : List Event) (d : Deed) → ((x : SessionDeed) (r : Response) → d ≡ InSession x r → CanDo o es x) → list_all spares (own_changes es Admin) ≡ true → is_activation d ≡ false → list_all spares (brought es Admin d) ≡ true
brought-spare o es (InSession (Changed t c) r) can own h =
    let set : Changes o es t c = can (Changed t c) r refl in
    only-spare t (unless_any_open (open_on es Admin) c) (λ admin. set-spare (open_on es Admin) c (row-spares o.tables.config.profile c (set.row admin)))
brought-spare o es (InSession (Committed t) r) can own h = only-spare t (open_changes es Admin) (λ admin. open-spare (open_on es Admin) (own_changes es Admin) own)
brought-spare o es (InSession Unchanged r) can own h = refl
brought-spare o es (InSession (Started session row) r) can own h = refl
brought-spare o es (InSession (Tried attempt) r) can own h = refl
brought-spare o es (InSession (Began s n) r) can own h = refl
brought-spare o es (InSession (Aborted s) r) can own h = refl
brought-spare o es (InSession (Ended s) r) can own h = refl
brought-spare o es (InSession (Erased w) r) can own h = refl
brought-spare o es (InSession (Drew count) r) can own h = refl
brought-spare o es (InSession (HostTold com_id limits) r) can own h = refl
brought-spare o es (InSession (StackTold com_id) r) can own h = refl
brought-spare o es (InSession (StackReset com_id ends) r) can own h = refl
brought-spare o es (InSession (Activated pin) r) can own h = cc
brought-spare o es (InSession (Reverted s w) r) can own h = cc
brought-spare o es Nothing can own h = refl
brought-spare o es (OfQueue d) can own h = refl
brought-spare o es (Wrote lba bytes) can own h = refl
brought-spare o es (Trimmed extents) can own h = refl
brought-spare o es (Took x) can own h = refl
brought-spare o es (BlockedSid block) can own h = refl
brought-spare o es (Chose feature) can own h = refl
brought-spare o es (PowerSet in_standby) can own h = refl
brought-spare o es (WasReset kind) can own h = refl

-- an Activate that takes effect, or a Revert, by the session of the Locking SP
activation-is : (d : Deed) → is_activation d ≡ true → ((pin : Option Cell) × (r : Response) × (d ≡ InSession (Activated pin) r)) ⊎ (living Locking d ≡ Some None)
activation-is (InSession (Activated pin) r) h = inl (pin, r, refl)
activation-is (InSession (Reverted Admin w) r) h = inr refl
activation-is (InSession (Reverted Locking w) r) h = inr refl
activation-is (InSession Unchanged r) h = cc
activation-is (InSession (Started session row) r) h = cc
activation-is (InSession (Tried attempt) r) h = cc
activation-is (InSession (Changed s c) r) h = cc
activation-is (InSession (Began s n) r) h = cc
activation-is (InSession (Committed s) r) h = cc
activation-is (InSession (Aborted s) r) h = cc
activation-is (InSession (Ended s) r) h = cc
activation-is (InSession (Erased w) r) h = cc
activation-is (InSession (Drew count) r) h = cc
activation-is (InSession (HostTold com_id limits) r) h = cc
activation-is (InSession (StackTold com_id) r) h = cc
activation-is (InSession (StackReset com_id ends) r) h = cc
activation-is Nothing h = cc
activation-is (OfQueue d) h = cc
activation-is (Wrote lba bytes) h = cc
activation-is (Trimmed extents) h = cc
activation-is (Took x) h = cc
activation-is (BlockedSid block) h = cc
activation-is (Chose feature) h = cc
activation-is (PowerSet in_standby) h = cc
activation-is (WasReset kind) h = cc

clash-bool : {b : Bool} → b ≡ true → b ≡ false → ⊥
clash-bool h g = absurd (clash (sym h ∙ g))
  where
    clash : true ≡ false → ⊥
    clash k = cc

alive-kept : (o : Origin) (e : Event) (es : List Event) → Can o es e → Kept o es → (s : Begun) → session_on (e ∷ es) Locking ≡ Some s → is_in_use (in_force o (e ∷ es)) Locking ≡ true
alive-kept o e es can k s h = by_life (living Locking e.deed) refl
  where
    kept : is_activation e.deed ≡ false → is_in_use (in_force o (e ∷ es)) Locking ≡ is_in_use (in_force o es) Locking
    kept g = state-kept o e es (brought-spare o es e.deed can k.own g)

    -- it lived before
    by_kind : living Locking e.deed ≡ None → (b : Bool) → is_activation e.deed ≡ b → is_in_use (in_force o (e ∷ es)) Locking ≡ true
    by_kind life false g = kept g ∙ k.alive s (sym (same-session Locking e es life) ∙ h)
    by_kind life true g = elim (activation-is e.deed g) [
      | inl a ↦ let can_activate : CanDo o es (Activated a.0) = can (Activated a.0) a.1 a.2 in absurd (clash-bool (k.alive s (sym (same-session Locking e es life) ∙ h)) can_activate.1)
      | inr r ↦ absurd (some-none r life)
    ]

    -- it began here
    by_start : StartedOn Locking e.deed → is_in_use (in_force o (e ∷ es)) Locking ≡ true
    by_start st =
        let new : IsNew o es st.session = can (Started st.session st.row) st.response st.is in
        kept (ap is_activation st.is) ∙ ap (is_in_use (in_force o es)) (sym st.on) ∙ new.made

    by_life : (t : Option (Option Begun)) → living Locking e.deed ≡ t → is_in_use (in_force o (e ∷ es)) Locking ≡ true
    by_life None life = by_kind life (is_activation e.deed) refl
    by_life (Some None) life = absurd (some-none h (ap (λ x. unwrap_or x None) (latest-here (living Locking) e es None life)))
    by_life (Some (Some t)) life = by_start (begun-is Locking e.deed t life)

kept : (o : Origin) (acts : List Act) → Kept o (log o acts)
kept o [] = record { owner = λ sp n h. absurd (none-some h); own = refl; alive = λ s h. absurd (none-some h) }
  where
    none-some : {A : Type 0} {a : A} → None ≡ Some a → ⊥
    none-some h = cc
kept o (act ∷ acts) =
    let es : List Event = log o acts in
    let e : Event = event o (log o acts) act in
    let can : Can o es e = λ d r is. deed_law o es act d r is in
    let before : Kept o es = kept o acts in
    record { owner = owner-kept o e es can before; own = own-kept o e es can before; alive = alive-kept o e es can before }

pub owner_law : OwnerLaw
owner_law o acts sp n h = (kept o acts).owner sp n h

pub life_law : LifeLaw
life_law o acts s h = (kept o acts).alive s h

-- a session that has none open: none is open on its SP
none-open : (o : Origin) (acts : List Act) (sp : Sp) (s : Begun) → session_on (log o acts) sp ≡ Some s → is_of s.number (open_on (log o acts) sp) ≡ false → open_on (log o acts) sp ≡ None
none-open o acts sp s h g = by_open (open_on (log o acts) sp) refl
  where
    same-session-of : {x y : Begun} → Some x ≡ Some y → x ≡ y
    same-session-of k = cc

    by_open : (x : Option ℕ) → open_on (log o acts) sp ≡ x → open_on (log o acts) sp ≡ None
    by_open None is = is
    by_open (Some n) is =
        let w = (kept o acts).owner sp n is in
        let same : s.number ≡ n = ap (λ (t : Begun). t.number) (same-session-of (sym h ∙ w.1)) ∙ w.2 in
        absurd (clash-bool (eq-eqb n s.number (sym same)) (sym (ap (is_of s.number) is) ∙ g))

pub activate_law : ActivateLaw
activate_law o acts act pin r is sp = by_sp sp
  where
    can : IsOutside (log o acts) Admin × (is_in_use (in_force o (log o acts)) Locking ≡ false)
    can = deed_law o (log o acts) act (Activated pin) r is

    by_locking : (x : Option ℕ) → open_on (log o acts) Locking ≡ x → open_on (log o acts) Locking ≡ None
    by_locking None g = g
    by_locking (Some n) g = let w = (kept o acts).owner Locking n g in absurd (clash-bool ((kept o acts).alive w.0 w.1) can.1)

    by_sp : (sp : Sp) → open_on (log o acts) sp ≡ None
    by_sp Admin = none-open o acts Admin can.0.session can.0.lives.lives can.0.outside
    by_sp Locking = by_locking (open_on (log o acts) Locking) refl

pub revert_law : RevertLaw
revert_law o acts act sp w r is = (by_can can, closes, ended sp is)
  where
    past : List Event
    past = log o acts

    e : Event
    e = event o past act

    can : IsRevert o past w ⊎ IsRevertSp o past sp w
    can = deed_law o past act (Reverted sp w) r is

    by_can : IsRevert o past w ⊎ IsRevertSp o past sp w → (IsRevert o past w × (open_on past Admin ≡ None)) ⊎ (IsRevertSp o past sp w × (open_on past Locking ≡ None))
    by_can (inl a) = inl (a, none-open o acts Admin a.outside.session a.outside.lives.lives a.outside.outside)
    by_can (inr b) = inr (b, none-open o acts Locking b.outside.session b.outside.lives.lives b.outside.outside)

    closes : (s : Sp) → open_on (e ∷ past) s ≡ None
    closes s = ap (λ x. unwrap_or x None) (latest-here (turns s) e past None (ap (turns s) is))

    ended : (s : Sp) → e.deed ≡ InSession (Reverted s w) r → session_on (e ∷ past) Locking ≡ None
    ended Admin h = ap (λ x. unwrap_or x None) (latest-here (living Locking) e past None (ap (living Locking) h))
    ended Locking h = ap (λ x. unwrap_or x None) (latest-here (living Locking) e past None (ap (living Locking) h))
