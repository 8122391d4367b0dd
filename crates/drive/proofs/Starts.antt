-- What a drive starts from is an opening, row by row.
use Rattle.std.proofs.Common.{◌≡◌, List, [], ◌∷◌, ◌++◌, Option, None, Result, Ok, Err, IfOk, sym, subst, ap, ◌∙◌}
use Rattle.sp_cells.specs.Config.{Config}
use Rattle.sp_cells.specs.declared.names.Uid.{Uid}
use Rattle.sp_cells.specs.declared.names.Sp.TheVariants.{Locking}
use Rattle.sp_cells.specs.declared.names.Column.{Column}
use Rattle.sp_cells.specs.declared.cells.Cell.{Cell}
use Rattle.sp_cells.specs.declared.error.SetError.{SetError}
use Rattle.sp_cells.specs.Names.{range_uid}
use Rattle.sp_tables.specs.Contents.{Contents, with_row}
use Rattle.sp_tables.specs.Faults.{set_fault}
use Rattle.locking.specs.declared.range.RangeRow.{RangeRow}
use Rattle.history.specs.Opening.{Origin, origin_on, activated_contents, changes_of, row_fault, with_range, unless}
use Rattle.history.specs.Agreement.{HasNoTries}
use Rattle.history.specs.KeptStore.{HasKnownRows}
use Rattle.history.proofs.Openings.{opening_law}
use Rattle.history.proofs.KeptStoreOpenings.{known_rows_law}
use Rattle.drive.specs.Openings.{IsOpening}
use Rattle.drive.proofs.Openings.{row_law}

pub activated-opens : (config : Config) (tables : Contents) → tables ≡ activated_contents config → IsOpening (origin_on tables)
activated-opens config tables is = record { config = config; rows = []; made = ap (λ (t : Contents). Ok (origin_on t)) (sym is) }

ranged : (o : Origin) (row : RangeRow) → IsOpening o → row_fault o row ≡ None → IsOpening (with_range row o)
ranged o row i none = record {
  config = i.config;
  rows = i.rows ++ row ∷ [];
  made = row_law i.config i.rows row o i.made ∙ ap (λ (f : Option SetError). unless f (Ok (with_range row o))) none;
}

-- a row more
pub range-opens : (tables : Contents) (row : RangeRow) (object : Uid) (changes : List (Column × Cell)) (new : Contents) → object ≡ range_uid row.range → changes ≡ changes_of row
    → new ≡ with_row Locking object changes tables → set_fault tables Locking object changes ≡ None → IsOpening (origin_on tables) → IsOpening (origin_on new)
range-opens tables row object changes new at is to none i =
    subst (λ (t : Contents). IsOpening (origin_on t))
    (sym (to ∙ ap (λ (u : Uid). with_row Locking u changes tables) at ∙ ap (λ (cs : List (Column × Cell)). with_row Locking (range_uid row.range) cs tables) is))
    (ranged (origin_on tables) row i
    (ap (λ (cs : List (Column × Cell)). set_fault tables Locking (range_uid row.range) cs) (sym is) ∙ ap (λ (u : Uid). set_fault tables Locking u changes) (sym at) ∙ none))

pub opening-no-tries : (o : Origin) → IsOpening o → HasNoTries o
opening-no-tries o i = opening_law i.config i.rows o i.made

pub opening-known : (o : Origin) → IsOpening o → HasKnownRows o
opening-known o i = (known_rows_law i.config).1 i.rows o i.made

pub if-ok : {A E : Type 0} {P Q : A → Type 0} (r : Result A E) → IfOk r P → ((x : A) → P x → Q x) → IfOk r Q
if-ok (Ok x) h f = f x h
if-ok (Err e) h f = tt
