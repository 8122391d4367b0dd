-- The cells of an SP as whoever reads them sees them, before and after a change.
use Rattle.std.proofs.Common.{◌≡◌, List, [], ◌∷◌, not, refl, sym, ◌∙◌, ap}
use Rattle.std.proofs.Math.Path.{fun_ext}
use Rattle.sp_cells.specs.declared.names.Uid.{Uid}
use Rattle.sp_cells.specs.declared.names.Sp.{Sp}
use Rattle.sp_cells.specs.declared.names.Sp.TheVariants.{Admin, Locking}
use Rattle.sp_cells.specs.declared.names.Column.{Column}
use Rattle.sp_cells.specs.declared.cells.Cell.{Cell}
use Rattle.sp_cells.specs.declared.error.SetError.TheVariants as faults
use Rattle.sp_cells.specs.Flat.{LookUp, has_each}
use Rattle.sp_cells.specs.Values.{takes_each}
use Rattle.sp_tables.specs.Items.{Item, item_at, with_item, with_items}
use Rattle.sp_tables.specs.Contents.{Contents, items_of, cells_look_up, with_row}
use Rattle.sp_tables.specs.Faults.{range_row_number, is_overlap, is_beyond, are_fit, first_of, set_fault}
use Rattle.sp_tables.specs.Looks.{put_in, puts_in, changed, fault_seen}
use Rattle.sp_tables.proofs.ContentLemmas.{look_up-half}
use Rattle.sp_tables.proofs.ChangeLemmas.{item_at-with_item}

-- one cell
pub item_at-put : (is : List Item) (o : Uid) (c : Column) (v : Cell) → item_at (with_item is o c v) ≡ put_in o c v (item_at is)
item_at-put is o c v = fun_ext (λ u. fun_ext (λ k. item_at-with_item is o u c k v))

-- the cells of one object
pub item_at-puts : (is : List Item) (o : Uid) (ps : List (Column × Cell)) → item_at (with_items is o ps) ≡ puts_in o ps (item_at is)
item_at-puts is o [] = refl
item_at-puts is o (p ∷ ps) = item_at-puts (with_item is o p.0 p.1) o ps ∙ ap (puts_in o ps) (item_at-put is o p.0 p.1)

-- the cells of one SP
pub look_up-sp : (t : Contents) (sp : Sp) → cells_look_up t sp ≡ item_at (items_of t sp)
look_up-sp t sp = fun_ext (λ u. fun_ext (λ k. look_up-half t sp u k))

changed-at : (t : Contents) (sp s : Sp) (o : Uid) (ps : List (Column × Cell)) → cells_look_up (with_row sp o ps t) s ≡ changed (cells_look_up t) sp o ps s
changed-at t Admin Admin o ps = look_up-sp (with_row Admin o ps t) Admin ∙ item_at-puts t.admin o ps ∙ ap (puts_in o ps) (sym (look_up-sp t Admin))
changed-at t Admin Locking o ps = look_up-sp (with_row Admin o ps t) Locking ∙ sym (look_up-sp t Locking)
changed-at t Locking Admin o ps = look_up-sp (with_row Locking o ps t) Admin ∙ sym (look_up-sp t Admin)
changed-at t Locking Locking o ps = look_up-sp (with_row Locking o ps t) Locking ∙ item_at-puts t.locking o ps ∙ ap (puts_in o ps) (sym (look_up-sp t Locking))

pub look_up-changed : (t : Contents) (sp : Sp) (o : Uid) (ps : List (Column × Cell)) → cells_look_up (with_row sp o ps t) ≡ changed (cells_look_up t) sp o ps
look_up-changed t sp o ps = fun_ext (λ s. changed-at t sp s o ps)

-- a fault is the same, whether it is told by the cells or by what is seen of them
pub fault-seen : (t : Contents) (sp : Sp) (o : Uid) (ps : List (Column × Cell)) → set_fault t sp o ps ≡ fault_seen t.config.sectors (cells_look_up t) sp o ps
fault-seen t sp o ps = ap (λ (l : LookUp). first_of (
    (not (has_each (cells_look_up t) sp o ps), faults.NoCell)
    ∷ (not (takes_each o ps), faults.WrongType)
    ∷ (is_overlap l (range_row_number sp o), faults.Overlap)
    ∷ (is_beyond t.config.sectors l (range_row_number sp o), faults.Beyond)
    ∷ (not (are_fit ps), faults.Expr)
    ∷ [])) (look_up-changed t sp o ps)
