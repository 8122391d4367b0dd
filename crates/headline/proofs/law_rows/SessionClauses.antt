-- What each clause of the laws of sessions and of stores of `history` says: of what is kept beside the past.
use Rattle.std.proofs.Common.{◌≡◌, ℕ, ◌<◌, true, false, List, [], ◌∷◌, Some, None, Ok, refl}
use Rattle.std.specs.Prelude.{◌==◌, option_map, slice_index}
use Rattle.sp_cells.specs.Config.{Config, table_sectors}
use Rattle.sp_cells.specs.declared.names.Column.{Column}
use Rattle.sp_cells.specs.declared.names.Sp.{Sp}
use Rattle.sp_cells.specs.declared.names.Sp.TheVariants.{Admin, Locking}
use Rattle.sp_cells.specs.declared.names.Uid.{Uid}
use Rattle.sp_tables.specs.Items.{item_at}
use Rattle.sp_tables.specs.Contents.{Contents, factory_contents, cells_look_up}
use Rattle.sp_tables.specs.Tries.{is_tries}
use Rattle.compacket.specs.declared.session.Session.{Session}
use Rattle.locking.specs.declared.range.RangeRow.{RangeRow}
use Rattle.shadow_mbr.specs.Erasure.{no_sectors}
use Rattle.shadow_mbr.specs.Stored.{StoredSectors, byte_at}
use Rattle.tcg_tokens.specs.Tree.{Tree}
use Rattle.transactions.specs.Sights.{look_up, committed_sight, side_at, side_for}
use Rattle.transactions.specs.Stored.{Stored, part, bytes_seen, new_store, after_reset}
use Rattle.sessions.specs.Deeds.{Begun, erased_by}
use Rattle.sessions.specs.Live.{Live, session_at, found, AreNumbered}
use Rattle.sessions.specs.Made.{Leaves}
use Rattle.sessions.specs.Starts.{start_reply, start_denied, start_rule, start_at, start_next}
use Rattle.history.specs.Agreement.{HasNoTries}
use Rattle.history.specs.Events.{Event, WasReset, did}
use Rattle.history.specs.Facts.{facts, session_named}
use Rattle.history.specs.KeptCalls.{StartLaw}
use Rattle.history.specs.KeptSessions.{SessionsOpeningLaw, SessionsLaw, NamedLaw, KeepsSessions, IsKeptAs, LivesBy, session_numbered, id_of}
use Rattle.history.specs.KeptStore.{StoreOpeningLaw, KnownRowsLaw, StoreLaw, StoreReadLaw, KeepsStore, HasKnownRows, StoresBy, but_tries, is_cleared, has_locks}
use Rattle.history.specs.Opening.{Origin, origin_on, factory_origin, origin_with}
use Rattle.history.specs.Readers.{session_on, next_number, in_force, view, byte_in_force, byte_in_view, rows_after, beside}
use Rattle.history.specs.Tcg.{started}

-- `opened`: no sessions, of which the first will be 1000h, are kept as those of no past.
none_are_kept : SessionsOpeningLaw → (live : Live) → live.next ≡ 0x1000
    → ((n : ℕ) → session_at live n ≡ None)
    → (live.next ≡ next_number []) × ((n : ℕ) → IsKeptAs [] (session_at live n) (session_numbered [] n))
none_are_kept law live next none = let its = law live next none in (its.next, its.at)

-- `kept`: a deed that leaves the sessions as the past does keeps them; behind a reset they are those of the past.
sessions_go_on : SessionsLaw → (past : List Event) (e : Event) (l m : Live) → KeepsSessions l past
    → LivesBy e.deed l m → (m.next ≡ next_number (e ∷ past))
    × ((n : ℕ) → IsKeptAs (e ∷ past) (session_at m n) (session_numbered (e ∷ past) n))
    × ((sp : Sp) (session : Begun) → session_on (e ∷ past) sp ≡ Some session → session.sp ≡ sp)
    × ((sp : Sp) (session : Begun) → session_on (e ∷ past) sp ≡ Some session → session.number < m.next)
    × ((a b : Begun) → session_on (e ∷ past) Admin ≡ Some a → session_on (e ∷ past) Locking ≡ Some b
    → (a.number == b.number) ≡ false)
sessions_go_on law past e l m kept lives =
    let its = law past e l m kept lives in (its.next, its.at, its.on, its.below, its.apart)

reset_keeps_the_number : SessionsLaw → (past : List Event) (l m : Live) → KeepsSessions l past
    → Leaves (λ h. None) l m → m.next ≡ next_number past
reset_keeps_the_number law past l m kept leaves = (law past (did (WasReset 1)) l m kept leaves).next

-- `named`: a packet names the same session among them.
named_says : NamedLaw → (o : Origin) (live : Live) (past : List Event) (com_id : ℕ) (named : Session)
    → KeepsSessions live past
    → option_map (λ sp. record { tsn = named.tsn; sp = sp })
    (found com_id named.hsn (session_at live named.tsn))
    ≡ option_map id_of (session_named (facts o past) com_id named)
named_says law o live past com_id named kept = law o live past com_id named kept

-- `started`: a StartSession is answered and denied as by the past.
started_says_so : StartLaw → (o : Origin) (past : List Event) (s : Stored) (l m : Live) (com_id : ℕ)
    (args : List Tree) → KeepsStore s o past → KeepsSessions l past → AreNumbered l
    → l.beside ≡ beside past → m.beside ≡ l.beside → m.next ≡ start_next s l args
    → ((n : ℕ) → session_at m n ≡ start_at s l com_id args n)
    → (start_reply s l args ≡ (started (facts o past) com_id args).said)
    × (start_denied s l args ≡ (started (facts o past) com_id args).denied)
    × (start_rule s l args ≡ (started (facts o past) com_id args).rule)
    × (no_sectors ≡ erased_by (started (facts o past) com_id args).deed)
started_says_so law o past s l m com_id args stored kept numbered known same next at =
    let its = law o past s l m com_id args stored kept numbered known same next at in
    (its.answer, its.denied, its.rule, its.erases)

-- A store's `opened`: the tables and zeros of a new one are those of no past.
new_store_keeps : StoreOpeningLaw → (tables : Contents) (mbr : StoredSectors)
    → HasNoTries (origin_on tables) → HasKnownRows (origin_on tables)
    → mbr.sectors ≡ table_sectors tables.config → ((place : ℕ) → byte_at mbr place ≡ 0)
    → ((new_store tables mbr).config ≡ tables.config)
    × ((sp : Sp) (object : Uid) (column : Column) → item_at (part (new_store tables mbr) sp).rows object column
    ≡ but_tries (rows_after (origin_on tables) [] sp) object column)
    × ((place : ℕ) → slice_index (new_store tables mbr).locking.bytes place ≡ byte_in_force [] place)
new_store_keeps law tables mbr no_tries known size zeros =
    let its = law tables mbr no_tries known size zeros in
    (its.config, (λ sp. (its.parts sp).rows), its.bytes.bytes)

-- `known`: a Revert brings back the factory's tables; no row but a PIN's counts, and the Admin SP has no range.
factory_is_known : KnownRowsLaw → (config : Config)
    → ((factory_origin config).factory ≡ factory_contents (factory_origin config).tables.config)
    × ((sp : Sp) (object : Uid) (column : Column) → is_tries object column ≡ true
    → is_cleared sp object ≡ false → cells_look_up (factory_origin config).tables sp object column ≡ None)
    × ((object : Uid) (column : Column) → has_locks object ≡ true
    → cells_look_up (factory_origin config).tables Admin object column ≡ None)
factory_is_known law config = let its = (law config).0 in (its.factory, its.tries, its.locks)

opening_is_known : KnownRowsLaw → (config : Config) (rows : List RangeRow) (o : Origin)
    → origin_with config rows ≡ Ok o → o.factory ≡ factory_contents o.tables.config
opening_is_known law config rows o is = ((law config).1 rows o is).factory

-- `kept`: what a deed makes of a store keeps one event more; a reset locks what it does by the past.
store_goes_on : StoreLaw → (o : Origin) (past : List Event) (e : Event) (s t : Stored) → KeepsStore s o past
    → StoresBy e.deed s t
    → ((sp : Sp) (object : Uid) (column : Column) → item_at (part t sp).rows object column
    ≡ but_tries (rows_after o (e ∷ past) sp) object column)
    × ((place : ℕ) → slice_index t.locking.bytes place ≡ byte_in_force (e ∷ past) place)
store_goes_on law o past e s t kept stores =
    let its = law o past e s t kept stores in ((λ sp. (its.parts sp).rows), its.bytes.bytes)

reset_is_kept : StoreLaw → (o : Origin) (past : List Event) (s : Stored) → KeepsStore s o past
    → (object : Uid) (column : Column) → item_at (part (after_reset 0 s) Locking).rows object column
    ≡ but_tries (rows_after o (did (WasReset 0) ∷ past) Locking) object column
reset_is_kept law o past s kept =
    ((law o past (did (WasReset 0)) s (after_reset 0 s) kept refl).parts Locking).rows

-- `read`: rows and bytes in force, and each session's.
read_says : StoreReadLaw → (s : Stored) (o : Origin) (past : List Event) → KeepsStore s o past
    → (look_up (committed_sight s) ≡ in_force o past)
    × (slice_index s.locking.bytes ≡ byte_in_force past)
    × ((number : ℕ) (sp : Sp) → side_at (side_for (part s sp) number) ≡ view o past number sp)
    × ((number place : ℕ) → slice_index (bytes_seen s.locking number) place ≡ byte_in_view past number place)
read_says law s o past kept =
    let its = law s o past kept in (its.rows, its.bytes, its.views, its.view_bytes)
