-- Cells that are given as those of a drive.
use Rattle.std.specs.Prelude.{◌≡◌, ℕ, Bool, ◌&&◌, nat_lt, List, [], ◌∷◌}
use Rattle.sp_cells.specs.declared.names.TheConstants.{RANGES}
use Rattle.sp_cells.specs.Config.{Config}
use Rattle.sp_cells.specs.Flat.{LookUp}
use Rattle.sp_cells.specs.Ranges.{ranges_meet}
use Rattle.sp_tables.specs.Items.{Item, item_at, with_item}
use Rattle.sp_tables.specs.Contents.{Contents, new_admin, new_locking}
use Rattle.sp_tables.specs.Faults.{any_to}
use Rattle.sp_tables.specs.Undo.{RangesApart}

-- the list with each of these cells in its place, where there is one
abbrev pub with_placed : List Item → List Item → List Item
with_placed is [] = is
with_placed is (i ∷ more) = with_placed (with_item is i.object i.column i.value) more

-- the contents with just these cells
abbrev pub given_contents : Config → List Item → List Item → Contents
given_contents config admin locking =
    record { admin = admin; locking = locking; config = config }

-- The cells are all those of a drive that was made so, in their order, with values that may be others than those of a
-- new one: put into a new drive they are what it has. No two numbered ranges meet.
pub record AreCellsOf (config : Config) (admin locking : List Item) : Type 0 where
  pub admin_cells : with_placed (new_admin config) admin ≡ admin
  pub locking_cells : with_placed (new_locking config) locking ≡ locking
  pub apart : RangesApart locking

-- the rows of one SP as whoever reads them sees them
abbrev pub look_of : List Item → LookUp
look_of is sp object column = item_at is object column

-- a range and a later one have a sector in common
abbrev pub meets_later : LookUp → ℕ → Bool
meets_later look i = any_to RANGES (λ j. nat_lt i j && ranges_meet look i j)

-- two numbered ranges have a sector in common
abbrev pub any_meet : LookUp → Bool
any_meet look = any_to RANGES (λ i. meets_later look i)
