-- Rows and the bytes of the byte tables as someone sees them.
use Rattle.std.specs.Prelude.{◌==◌, ℕ, Bool, List, Option, None, Some, if◌then◌else◌}
use Rattle.std.specs.Option.{option_or}
use Rattle.sp_cells.specs.declared.names.Uid.{Uid}
use Rattle.sp_cells.specs.declared.names.Sp.{Sp}
use Rattle.sp_cells.specs.declared.names.Sp.TheVariants.{Admin, Locking}
use Rattle.sp_cells.specs.declared.names.Column.{Column}
use Rattle.sp_cells.specs.declared.cells.Cell.{Cell}
use Rattle.sp_cells.specs.declared.cells.Cell.TheVariants.{Number}
use Rattle.sp_cells.specs.Config.{Config}
use Rattle.sp_cells.specs.Limits.{manufactured}
use Rattle.sp_cells.specs.Names.{locking_sp, c_pin_sid, admin_pin_uid}
use Rattle.sp_cells.specs.ColumnNames.{life_cycle_state_column, pin_column}
use Rattle.sp_cells.specs.Ranges.{number}
use Rattle.sp_cells.specs.Flat.{LookUp}
use Rattle.sp_tables.specs.Items.{Item, item_at}
use Rattle.transactions.specs.declared.change.SessionId.{SessionId}
use Rattle.transactions.specs.Stored.{Transaction, Part, Stored, rows_of_part, bytes_seen, part_close, part_put}

-- the rows of one SP, and its Tries
pub record Side : Type 0 where
  pub rows : List Item
  pub tries : List Item

pub record Sight : Type 0 where
  pub admin : Side
  pub locking : Side
  pub bytes : List ℕ
  pub config : Config

abbrev pub side_at : Side → Uid → Column → Option Cell
side_at side object column =
    option_or (item_at side.tries object column) (item_at side.rows object column)

abbrev pub look_up : Sight → LookUp
look_up s Admin = side_at s.admin
look_up s Locking = side_at s.locking

-- what is in force on one SP
abbrev pub side_of : Part → Side
side_of p = record { rows = p.rows; tries = p.tries }

-- what the session of this number sees of it
abbrev pub side_for : Part → ℕ → Side
side_for p tsn = record { rows = rows_of_part p tsn; tries = p.tries }

-- what its open transaction, whoever has it, makes of it
abbrev pub latest_side : Part → Side
latest_side p = record { rows = latest p.pending; tries = p.tries } where
  latest : Option Transaction → List Item
  latest None = p.rows
  latest (Some t) = t.rows

-- what is in force
abbrev pub committed_sight : Stored → Sight
committed_sight s = record {
  admin = side_of s.admin;
  locking = side_of s.locking;
  bytes = s.locking.bytes;
  config = s.config;
}

-- what a session sees: its own changes, on its own SP
abbrev pub sight_on : Sp → ℕ → Stored → Sight
sight_on Admin tsn s =
    record {
      admin = side_for s.admin tsn;
      locking = side_of s.locking;
      bytes = s.locking.bytes;
      config = s.config;
    }
sight_on Locking tsn s =
    record {
      admin = side_of s.admin;
      locking = side_for s.locking tsn;
      bytes = bytes_seen s.locking tsn;
      config = s.config;
    }

abbrev pub sight_of : Stored → SessionId → Sight
sight_of s session = sight_on session.sp session.tsn s

-- what a change is judged by
abbrev pub latest_look : Stored → LookUp
latest_look s Admin = side_at (latest_side s.admin)
latest_look s Locking = side_at (latest_side s.locking)

-- Activate (Opal SSC 2.01, section 5.1.1): the Locking SP is Manufactured, and its first Admin has SID's PIN; where it
-- is so already, nothing changes
abbrev pub is_manufactured : Stored → Bool
is_manufactured s = number (look_up (committed_sight s)) Admin locking_sp life_cycle_state_column
    == manufactured

abbrev pub with_pin : Option Cell → Part → Part
with_pin None p = part_close p
with_pin (Some pin) p = part_put (admin_pin_uid 1) pin_column pin p

abbrev pub activated_with : Option Cell → Stored → Stored
activated_with pin s =
    record {
      admin = part_put locking_sp life_cycle_state_column (Number manufactured) s.admin;
      locking = with_pin pin s.locking;
      config = s.config;
    }

abbrev pub activated : Stored → Stored
activated s = if is_manufactured s then s else
    activated_with (look_up (committed_sight s) Admin c_pin_sid pin_column) s
