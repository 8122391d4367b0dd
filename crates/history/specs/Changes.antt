-- What comes into force: changes of the rows of one SP and of the shadow's bytes. A change makes
-- rows of rows, and no new cell.
use Rattle.std.specs.Prelude.{ℕ, ◌+◌, List, [], ◌∷◌, option_map, if◌then◌else◌}
use Rattle.sp_cells.specs.declared.names.TheConstants.{RANGES}
use Rattle.sp_cells.specs.declared.names.Uid.{Uid}
use Rattle.sp_cells.specs.declared.cells.Cell.TheVariants.{Number}
use Rattle.sp_tables.specs.Looks.{RowLook, puts_in}
use Rattle.sp_tables.specs.Tries.{is_tries}
use Rattle.shadow_mbr.specs.Stored.{byte_after}
use Rattle.transactions.specs.Resets.{locks_seen, done_seen}
use Rattle.sessions.specs.Deeds.{cells_set, bytes_set, Change, Sets, Restores, Resets}

-- ReadLocked and WriteLocked of each range whose LockOnReset has the kind are set, and Done is
-- cleared where DoneOnReset has it.
abbrev pub reset_rows : ℕ → RowLook → RowLook
reset_rows kind rows = done_seen kind (locks_seen (RANGES + 1) kind rows)

-- The rows after a change, and after changes of which the newest comes first; `factory` has the
-- rows of a new drive.
abbrev pub apply : RowLook → Change → RowLook → RowLook
apply factory (Sets (cells_set object cells)) rows = puts_in object cells rows
apply factory (Sets (bytes_set at bytes)) rows = rows
apply factory Restores rows = factory
apply factory (Resets kind) rows = reset_rows kind rows

abbrev pub apply_all : RowLook → List Change → RowLook → RowLook
apply_all factory [] rows = rows
apply_all factory (c ∷ cs) rows = apply factory c (apply_all factory cs rows)

-- A byte of the shadow after a change, and after changes.
abbrev pub byte_then : Change → ℕ → ℕ → ℕ
byte_then (Sets (cells_set object cells)) before place = before
byte_then (Sets (bytes_set at bytes)) before place = byte_after at bytes before place
byte_then Restores before place = 0
byte_then (Resets kind) before place = before

abbrev pub byte_in : List Change → ℕ → ℕ
byte_in [] place = 0
byte_in (c ∷ cs) place = byte_then c (byte_in cs place) place

-- Tries stand apart: a C_PIN row shows as many as these, whatever the rows have there.
abbrev pub with_tries : (Uid → ℕ) → RowLook → RowLook
with_tries tries rows object column =
    if is_tries object column
    then option_map (λ _. Number (tries object)) (rows object column) else rows object column
