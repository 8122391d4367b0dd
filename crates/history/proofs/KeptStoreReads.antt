-- What is read of a store that keeps what the past says.
use Rattle.std.proofs.Common.{◌≡◌, ℕ, ◌==◌, Bool, true, false, List, ◌++◌, Option, Some, None, refl, sym, ◌∙◌, ap, cond}
use Rattle.std.specs.Prelude.{is_some, option_map, slice_index}
use Rattle.std.specs.Option.{option_or}
use Rattle.std.proofs.Math.Path.{fun_ext}
use Rattle.sp_cells.specs.declared.names.Uid.{Uid}
use Rattle.sp_cells.specs.declared.names.Sp.{Sp}
use Rattle.sp_cells.specs.declared.names.Sp.TheVariants.{Admin, Locking}
use Rattle.sp_cells.specs.declared.names.Column.{Column}
use Rattle.sp_cells.specs.declared.cells.Cell.{Cell}
use Rattle.sp_cells.specs.declared.cells.Cell.TheVariants.{Number}
use Rattle.sp_tables.specs.Items.{item_at}
use Rattle.sp_tables.specs.Looks.{RowLook}
use Rattle.sp_tables.specs.Tries.{is_tries}
use Rattle.transactions.specs.Stored.{Transaction, Part, Stored, part, bytes_seen}
use Rattle.transactions.specs.Sights.{side_at, side_of, side_for, look_up, committed_sight}
use Rattle.history.specs.Opening.{Origin}
use Rattle.history.specs.Changes.{with_tries, byte_in}
use Rattle.history.specs.Events.{Event}
use Rattle.history.specs.Readers.{changes, open_changes, open_on, rows_after, rows_within, tries, is_of, in_force, view, byte_in_force, byte_in_view}
use Rattle.history.specs.KeptStore.{but_tries, tries_alone, KeepsPart, KeepsBytes, KeepsStore, StoreReadLaw}
use Rattle.history.proofs.KeptStoreRows.{alone-if}

-- rows and Tries apart are both together
or-none : (x : Option Cell) → option_or x None ≡ x
or-none None = refl
or-none (Some v) = refl

joined : (b : Bool) (k : ℕ) (x y : Option Cell) → is_some x ≡ is_some y → option_or (cond b (option_map (λ _. Number k) y) None) (cond b None x) ≡ cond b (option_map (λ _. Number k) x) x
joined true k x y h = or-none _ ∙ alone-if k y x (sym h)
joined false k x y h = refl

pub seen-together : (counted : Uid → ℕ) (rows seen : RowLook) (o : Uid) (c : Column) → is_some (seen o c) ≡ is_some (rows o c) → option_or (tries_alone counted rows o c) (but_tries seen o c) ≡ with_tries counted seen o c
seen-together counted rows seen o c h = joined (is_tries o c) (counted o) (seen o c) (rows o c) h

pub part-rows : (p : Part) (o : Origin) (past : List Event) (sp : Sp) → KeepsPart p o past sp → (object : Uid) (column : Column) → side_at (side_of p) object column ≡ in_force o past sp object column
part-rows p o past sp h object column =
    ap (λ x. option_or x (item_at p.rows object column)) (h.tries object column)
    ∙ ap (λ x. option_or (tries_alone (tries past sp) (rows_after o past sp) object column) x) (h.rows object column)
    ∙ seen-together (tries past sp) (rows_after o past sp) (rows_after o past sp) object column refl

pub in_force-read : (s : Stored) (o : Origin) (past : List Event) → KeepsStore s o past → look_up (committed_sight s) ≡ in_force o past
in_force-read s o past h = fun_ext (λ sp. by_sp sp)
  where
    by_sp : (sp : Sp) → look_up (committed_sight s) sp ≡ in_force o past sp
    by_sp Admin = fun_ext (λ object. fun_ext (λ column. part-rows s.admin o past Admin (h.parts Admin) object column))
    by_sp Locking = fun_ext (λ object. fun_ext (λ column. part-rows s.locking o past Locking (h.parts Locking) object column))

-- a session's view of an SP
abbrev opened : Part → Option Transaction → Part
opened p x = record p { pending = x }

view-by : (p : Part) (o : Origin) (past : List Event) (sp : Sp) → KeepsPart p o past sp → (number : ℕ) (object : Uid) (column : Column) (x : Option Transaction) → p.pending ≡ x → option_map (λ t. t.tsn) x ≡ open_on past sp
    → side_at (side_for (opened p x) number) object column ≡ view o past number sp object column
view-by p o past sp h number object column None is opens =
    part-rows p o past sp h object column ∙ ap (λ y. with_tries (tries past sp) (cond (is_of number y) (rows_within o past sp) (rows_after o past sp)) object column) opens
view-by p o past sp h number object column (Some t) is opens =
    by_owner (t.tsn == number) ∙ ap (λ y. with_tries (tries past sp) (cond (is_of number y) (rows_within o past sp) (rows_after o past sp)) object column) opens
  where
    by_owner : (b : Bool) → option_or (item_at p.tries object column) (item_at (cond b t.rows p.rows) object column) ≡ with_tries (tries past sp) (cond b (rows_within o past sp) (rows_after o past sp)) object column
    by_owner true =
        ap (λ y. option_or y (item_at t.rows object column)) (h.tries object column)
        ∙ ap (λ y. option_or (tries_alone (tries past sp) (rows_after o past sp) object column) y) (h.within t is object column)
        ∙ seen-together (tries past sp) (rows_after o past sp) (rows_within o past sp) object column (h.places object column)
    by_owner false = part-rows p o past sp h object column

view-read : (p : Part) (o : Origin) (past : List Event) (sp : Sp) → KeepsPart p o past sp → (number : ℕ) → side_at (side_for p number) ≡ view o past number sp
view-read p o past sp h number = fun_ext (λ object. fun_ext (λ column. view-by p o past sp h number object column p.pending refl h.transaction))

-- and of the bytes
bytes-by : (p : Part) (o : Origin) (past : List Event) → KeepsBytes p o past → (number place : ℕ) (x : Option Transaction) → p.pending ≡ x → option_map (λ t. t.tsn) x ≡ open_on past Locking
    → slice_index (bytes_seen (opened p x) number) place ≡ byte_in_view past number place
bytes-by p o past h number place None is opens =
    h.bytes place ∙ ap (λ y. cond (is_of number y) (byte_in (open_changes past Locking ++ changes past Locking) place) (byte_in_force past place)) opens
bytes-by p o past h number place (Some t) is opens =
    by_owner (t.tsn == number) ∙ ap (λ y. cond (is_of number y) (byte_in (open_changes past Locking ++ changes past Locking) place) (byte_in_force past place)) opens
  where
    by_owner : (b : Bool) → slice_index (cond b t.bytes p.bytes) place ≡ cond b (byte_in (open_changes past Locking ++ changes past Locking) place) (byte_in_force past place)
    by_owner true = h.within t is place
    by_owner false = h.bytes place

pub store_read_law : StoreReadLaw
store_read_law s o past h = record {
  rows = in_force-read s o past h;
  bytes = fun_ext (λ place. h.bytes.bytes place);
  views = λ number sp. view-read (part s sp) o past sp (h.parts sp) number;
  view_bytes = λ number place. bytes-by s.locking o past h.bytes number place s.locking.pending refl (h.parts Locking).transaction;
}
