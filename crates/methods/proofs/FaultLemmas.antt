-- Why cells are not set is told by the rows of their own SP.
use Rattle.std.proofs.Common.{◌≡◌, ℕ, zero, suc, Bool, not, List, [], ◌∷◌, Option, Some, None, refl, ◌∙◌, ap}
use Rattle.sp_cells.specs.declared.names.Uid.{Uid}
use Rattle.sp_cells.specs.declared.names.Sp.{Sp}
use Rattle.sp_cells.specs.declared.names.Sp.TheVariants.{Admin, Locking}
use Rattle.sp_cells.specs.declared.names.Column.{Column}
use Rattle.sp_cells.specs.declared.cells.Cell.{Cell}
use Rattle.sp_cells.specs.declared.error.SetError.{SetError}
use Rattle.sp_cells.specs.declared.error.SetError.TheVariants as faults
use Rattle.sp_cells.specs.Flat.{LookUp, has_each}
use Rattle.sp_cells.specs.Values.{takes_each}
use Rattle.sp_tables.specs.Faults.{range_row_number, is_overlap, is_beyond, are_fit, first_of}
use Rattle.sp_tables.specs.Looks.{RowLook, changed, fault_seen}

overlap-alike : (look other : LookUp) → look Locking ≡ other Locking → (x : Option ℕ) → is_overlap look x ≡ is_overlap other x
overlap-alike look other h None = refl
overlap-alike look other h (Some zero) = refl
overlap-alike look other h (Some (suc n)) = ap (λ (rows : RowLook). is_overlap (λ s. rows) (Some (suc n))) h

beyond-alike : (sectors : ℕ) (look other : LookUp) → look Locking ≡ other Locking → (x : Option ℕ) → is_beyond sectors look x ≡ is_beyond sectors other x
beyond-alike sectors look other h None = refl
beyond-alike sectors look other h (Some zero) = ap (λ (rows : RowLook). is_beyond sectors (λ s. rows) (Some zero)) h
beyond-alike sectors look other h (Some (suc n)) = ap (λ (rows : RowLook). is_beyond sectors (λ s. rows) (Some (suc n))) h

abbrev faults_by : Uid → List (Column × Cell) → Bool → Bool → Bool → Option SetError
faults_by object changes has overlaps is_behind = first_of (
    (not has, faults.NoCell)
    ∷ (not (takes_each object changes), faults.WrongType)
    ∷ (overlaps, faults.Overlap)
    ∷ (is_behind, faults.Beyond)
    ∷ (not (are_fit changes), faults.Expr)
    ∷ [])

pub fault-alike : (sectors : ℕ) (look other : LookUp) (sp : Sp) (object : Uid) (changes : List (Column × Cell)) → look sp ≡ other sp → fault_seen sectors look sp object changes ≡ fault_seen sectors other sp object changes
fault-alike sectors look other Admin object changes h = ap (λ (rows : RowLook). fault_seen sectors (λ s. rows) Admin object changes) h
fault-alike sectors look other Locking object changes h =
    let n : Option ℕ = range_row_number Locking object in
    let after : changed look Locking object changes Locking ≡ changed other Locking object changes Locking = ap (λ (rows : RowLook). changed (λ s. rows) Locking object changes Locking) h in
    ap (λ (rows : RowLook). faults_by object changes (has_each (λ s. rows) Locking object changes) (is_overlap (changed look Locking object changes) n) (is_beyond sectors (changed look Locking object changes) n)) h
    ∙ ap (λ b. faults_by object changes (has_each other Locking object changes) b (is_beyond sectors (changed look Locking object changes) n)) (overlap-alike (changed look Locking object changes) (changed other Locking object changes) after n)
    ∙ ap (λ b. faults_by object changes (has_each other Locking object changes) (is_overlap (changed other Locking object changes) n) b) (beyond-alike sectors (changed look Locking object changes) (changed other Locking object changes) after n)
