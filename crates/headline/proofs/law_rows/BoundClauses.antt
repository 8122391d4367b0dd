-- What each clause of the laws of bounds and of agreement of `history` says.
use Rattle.std.proofs.Common.{◌≡◌, ℕ, true, List, [], None, Ok, refl, arith}
use Rattle.std.specs.Prelude.{option_map}
use Rattle.sp_cells.specs.Config.{Config}
use Rattle.sp_cells.specs.declared.cells.Cell.TheVariants.{Number}
use Rattle.sp_cells.specs.declared.names.Column.{Column}
use Rattle.sp_cells.specs.declared.names.Sp.{Sp}
use Rattle.sp_cells.specs.declared.names.Uid.{Uid}
use Rattle.sp_tables.specs.Contents.{cells_look_up}
use Rattle.sp_tables.specs.Tries.{is_tries}
use Rattle.locking.specs.declared.range.RangeRow.{RangeRow}
use Rattle.shadow_mbr.specs.Stored.{zeros}
use Rattle.history.specs.Agreement.{ShowLaw, FreshLaw, FactoryLaw, OpeningLaw, HasNoTries, Shows}
use Rattle.history.specs.Bounds.{CellLaw, ColumnLaw, TableLaw, ResponseLaw, SectorLaw, AreFed, IsNowhere}
use Rattle.history.specs.Events.{Event}
use Rattle.history.specs.Facts.{Facts}
use Rattle.history.specs.History.{Act, event, event_by, log}
use Rattle.history.specs.Opening.{Origin, factory_origin, origin_with}
use Rattle.history.specs.Readers.{in_force, view, byte_in_force, byte_in_view, sector, waiting, session_on, next_number, open_on, held, failure}
use Rattle.history.proofs.Scripts.{config, new_drive}
use Rattle.headline.proofs.law_rows.Lists.{locked}

-- `cells`: a cell that is nowhere at first is nowhere, in force and in each view.
no_cell_comes : CellLaw → (o : Origin) (past : List Event) (sp : Sp) (object : Uid) (column : Column)
    (number : ℕ) → IsNowhere o sp object column
    → (in_force o past sp object column ≡ None) × (view o past number sp object column ≡ None)
no_cell_comes law o past sp object column number nowhere =
    let its = law o past sp object column nowhere in (its.rows, its.views number)

-- `columns`: a base drive has no column 11, as it leaves the factory and with any ranges.
abbrev column_11 : Column
column_11 = record { 0 = 11 }

no_column_11 : ColumnLaw → (sp : Sp) (object : Uid)
    → cells_look_up new_drive.tables sp object column_11 ≡ None
no_column_11 law sp object = ((law config column_11 (omega arith)).0 sp object).opened

no_column_11_of_openings : ColumnLaw → (rows : List RangeRow) (o : Origin)
    → origin_with config rows ≡ Ok o → (sp : Sp) (object : Uid)
    → cells_look_up o.tables sp object column_11 ≡ None
no_column_11_of_openings law rows o is sp object =
    ((law config column_11 (omega arith)).1 rows o is sp object).opened

-- `table`: behind the eight sectors of the shadow there are zeros, in force and in each view.
zeros_behind_the_table : TableLaw → (acts : List Act) (number : ℕ)
    → (byte_in_force (log locked acts) 4096 ≡ 0) × (byte_in_view (log locked acts) number 4096 ≡ 0)
zeros_behind_the_table law acts number =
    let its = law locked acts 4096 (omega arith) in (its.byte, its.views number)

-- `responses`: none waits on the ComIDs beside those of sessions.
none_waits_beside : ResponseLaw → (o : Origin) (acts : List Act)
    → (waiting (log o acts) 0x0fff ≡ None) × (waiting (log o acts) 0x1004 ≡ None)
none_waits_beside law o acts = (law o acts 0x0fff refl, law o acts 0x1004 refl)

-- `sectors`: sector 1,000 of a drive of 1,000 stays zeros.
zeros_behind_the_drive : SectorLaw → (acts : List Act) → AreFed locked acts
    → sector (log locked acts) 1000 ≡ zeros
zeros_behind_the_drive law acts fed = law locked acts 1000 fed (omega arith)

-- `shown`: an act does by what is kept what it does by the past.
shown_says : ShowLaw → (f : Facts) (o : Origin) (past : List Event) (act : Act) → Shows f o past
    → event_by f act ≡ event o past act
shown_says law f o past act shows = law f o past act shows

-- `fresh`: a drive that has done nothing has its first rows and zeros, no session, nothing open, held, failed or waiting, and
-- its first session will be 1000h.
fresh_says : FreshLaw → (o : Origin) → HasNoTries o
    → ((sp : Sp) (object : Uid) (column : Column)
    → cells_look_up o.tables sp object column ≡ in_force o [] sp object column)
    × ((place : ℕ) → 0 ≡ byte_in_force [] place) × ((sp : Sp) → None ≡ session_on [] sp)
    × ((sp : Sp) → None ≡ open_on [] sp) × (0x1000 ≡ next_number []) × ((tag : ℕ) → None ≡ held [] tag)
    × (None ≡ failure []) × ((com_id : ℕ) → None ≡ waiting [] com_id)
    × ((place : ℕ) → zeros ≡ sector [] place)
fresh_says law o no_tries =
    let its = law o no_tries in (
      its.store.rows,
      its.store.bytes,
      its.sessions.sessions,
      its.store.transactions,
      its.sessions.next,
      its.queue.held,
      its.queue.failure,
      its.queue.waiting,
      its.queue.sectors,
    )

-- `factory`, `opened`: no row of a new drive, or of an opening, counts an attempt.
factory_says : FactoryLaw → (its : Config) (sp : Sp) (object : Uid) (column : Column)
    → is_tries object column ≡ true → cells_look_up (factory_origin its).tables sp object column
    ≡ option_map (λ _. Number 0) (cells_look_up (factory_origin its).tables sp object column)
factory_says law its sp object column is = law its sp object column is

opened_says : OpeningLaw → (its : Config) (rows : List RangeRow) (o : Origin)
    → origin_with its rows ≡ Ok o → (sp : Sp) (object : Uid) (column : Column)
    → is_tries object column ≡ true → cells_look_up o.tables sp object column
    ≡ option_map (λ _. Number 0) (cells_look_up o.tables sp object column)
opened_says law its rows o is sp object column tries = law its rows o is sp object column tries
