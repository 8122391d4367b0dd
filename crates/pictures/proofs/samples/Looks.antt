-- What a look shows, part by part.
use Rattle.std.proofs.Common.{◌≡◌, ◌∙◌, ℕ, ◌+◌, Bool, List, ap, sym, refl, Option, Some}
use Rattle.std.specs.Prelude.{is_some}
use Rattle.sp_cells.specs.declared.names.Sp.{Sp}
use Rattle.sp_cells.specs.declared.names.Sp.TheVariants.{Admin, Locking}
use Rattle.sp_cells.specs.declared.names.TheConstants.{RANGES}
use Rattle.sp_cells.specs.Flat.{LookUp}
use Rattle.locking.specs.Ranges.{is_shadow_up}
use Rattle.fis.specs.Tags.{slot_count}
use Rattle.history.specs.Facts.{Facts}
use Rattle.port_history.specs.declared.stages.Stage.{Stage}
use Rattle.pictures.specs.Lists.{values_below}
use Rattle.pictures.specs.Samples.{Sample, calls_on, locks_by, stages_with}
use Rattle.pictures.specs.declared.samples.calls.Calls.{Calls}
use Rattle.pictures.specs.declared.samples.locks.Locks.{Locks}
use Rattle.pictures.specs.declared.samples.registers.Registers.{Registers}

-- a drive that keeps these facts shows them
pub shows : (f : Facts) (slots : List Stage) (registers : Option Registers) (held : List Bool)
    (failed : Bool) (admin locking : Calls) (locks : List Locks) (shadow : Bool) (look : LookUp)
    → held ≡ values_below (λ tag. is_some (f.held tag)) slot_count → failed ≡ is_some f.failure
    → admin ≡ calls_on f Admin → locking ≡ calls_on f Locking
    → locks ≡ values_below (locks_by look) (RANGES + 1) → shadow ≡ is_shadow_up look → look ≡ f.rows
    → ◌≡◌ {A = Sample} (record {
      slots = slots;
      held = held;
      failed = failed;
      admin = admin;
      locking = locking;
      locks = locks;
      shadow = shadow;
      registers = registers;
    }) (stages_with slots registers f)
shows f slots registers held failed admin locking locks shadow look is_held is_failed is_admin is_locking is_locks is_shadow is_look =
    ap (λ x. record { slots = slots; held = x; failed = failed; admin = admin; locking = locking; locks = locks; shadow = shadow; registers = registers }) is_held
    ∙ ap (λ x. record { slots = slots; held = values_below (λ tag. is_some (f.held tag)) slot_count; failed = x; admin = admin; locking = locking; locks = locks; shadow = shadow; registers = registers }) is_failed
    ∙ ap (λ x. record { slots = slots; held = values_below (λ tag. is_some (f.held tag)) slot_count; failed = is_some f.failure; admin = x; locking = locking; locks = locks; shadow = shadow; registers = registers }) is_admin
    ∙ ap (λ x. record { slots = slots; held = values_below (λ tag. is_some (f.held tag)) slot_count; failed = is_some f.failure; admin = calls_on f Admin; locking = x; locks = locks; shadow = shadow; registers = registers }) is_locking
    ∙ ap (λ x. record { slots = slots; held = values_below (λ tag. is_some (f.held tag)) slot_count; failed = is_some f.failure; admin = calls_on f Admin; locking = calls_on f Locking; locks = x; shadow = shadow; registers = registers })
    (is_locks ∙ ap (λ (l : LookUp). values_below (locks_by l) (RANGES + 1)) is_look)
    ∙ ap (λ x. record { slots = slots; held = values_below (λ tag. is_some (f.held tag)) slot_count; failed = is_some f.failure; admin = calls_on f Admin; locking = calls_on f Locking; locks = values_below (locks_by f.rows) (RANGES + 1); shadow = x; registers = registers })
    (is_shadow ∙ ap is_shadow_up is_look)

-- with other stages that are the same, and other registers
pub shows_slots : (f : Facts) (slots others : List Stage) (registers same : Option Registers) (sample : Sample)
    → sample ≡ stages_with slots registers f → slots ≡ others → registers ≡ same
    → sample ≡ stages_with others same f
shows_slots f slots others registers same sample is is_slots is_registers =
    is ∙ ap (λ s. stages_with s registers f) is_slots ∙ ap (λ r. stages_with others r f) is_registers

-- what is open on an SP, by these facts
pub calls_so : (s t : Bool) (f : Facts) (sp : Sp) → s ≡ is_some (f.session_on sp)
    → t ≡ is_some (f.open_on sp) → ◌≡◌ {A = Calls} (record { session = s; transaction = t }) (calls_on f sp)
calls_so s t f sp is_s is_t =
    ap (λ x. record { session = x; transaction = t }) is_s
    ∙ ap (λ x. record { session = is_some (f.session_on sp); transaction = x }) is_t
