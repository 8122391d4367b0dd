-- A command that fails.
use Rattle.std.proofs.Common.{◌≡◌, ℕ, ◌+◌, ◌||◌, Bool, true, false, zero, suc, List, [], ◌∷◌, ◌++◌, Option, Some, None, refl, ap, sym, ◌∙◌, subst}
use Rattle.fis.specs.declared.any.Fis.{Fis}
use Rattle.fis.specs.declared.h2d.RegH2d.{RegH2d}
use Rattle.host_memory.specs.Access.{Access}
use Rattle.history.specs.Answers.{errored, answer_fis}
use Rattle.history.specs.Tcg.{answer_data, answer_fises}
use Rattle.history.specs.Events.{Event}
use Rattle.history.specs.Facts.{Facts}
use Rattle.hba.specs.declared.registers.Registers.{Registers}
use Rattle.host_memory.specs.declared.hba_memory.miss.Miss.{Miss}
use Rattle.host_memory.specs.declared.hba_memory.miss.Miss.TheVariants as misses
use Rattle.host_memory.specs.declared.hba_memory.delivery.Arrival.{Arrival}
use Rattle.host_memory.specs.declared.hba_memory.delivery.Place.{Place}
use Rattle.host_memory.specs.declared.hba_memory.reading.Moved.{Moved}
use Rattle.host_memory.specs.Memory.{descriptors_of, written_by, runs_short, has_processed, ending, Scatters, Counts, PostsTo, After, Then, EndsBy, Delivers}
use Rattle.hba.specs.Showing.{served, moved, arrived, fetching}
use Rattle.hba.specs.Laws.{whole, TellsError, Halts, GivesNothing}

pub fises_failed : (f : Facts) (h : RegH2d) (event : Event) (error : ℕ) → event.failed ≡ Some error
    → answer_fises f h event ≡ answer_fis true errored error ∷ []
fises_failed f h event error e = rw e refl

pub data_failed : (f : Facts) (h : RegH2d) (event : Event) (error : ℕ) → event.failed ≡ Some error
    → answer_data f h event ≡ []
data_failed f h event error e = rw e refl

or_true : (b : Bool) → (b || true) ≡ true
or_true true = refl
or_true false = refl

pub tells_error : (regs : Registers) (tag error : ℕ) (fises : List Fis)
    → fises ≡ answer_fis true errored error ∷ []
    → TellsError error regs (arrived tag fises whole (fetching tag regs))
tells_error regs tag error fises f = rw f (record { status = refl; code = refl; raised = refl })

halts_so : (regs : Registers) (tag error : ℕ) (missed : Option Miss)
    → Halts regs (served tag (answer_fis true errored error ∷ []) missed (fetching tag regs))
halts_so regs tag error None = record { issued = refl; active = refl; halted = or_true regs.is_halted }
halts_so regs tag error (Some misses.List) = record { issued = refl; active = refl; halted = refl }
halts_so regs tag error (Some misses.Table) = record { issued = refl; active = refl; halted = refl }
halts_so regs tag error (Some misses.Block) = record { issued = refl; active = refl; halted = refl }
halts_so regs tag error (Some misses.Overflow) = record { issued = refl; active = refl; halted = refl }
halts_so regs tag error (Some misses.Fis) = record { issued = refl; active = refl; halted = refl }

pub halts : (regs : Registers) (tag error : ℕ) (arrival : Arrival) (fises : List Fis)
    → fises ≡ answer_fis true errored error ∷ []
    → Halts regs (arrived tag fises arrival (fetching tag regs))
halts regs tag error arrival fises f =
    let h = halts_so (moved arrival regs) tag error arrival.missed in
    rw f (record { issued = h.issued; active = h.active; halted = h.halted })

-- No bytes ask for nothing.
scatters_none : (at n : ℕ) (talk : List Access) (missed : Option Miss) → Scatters at n [] talk missed
    → (talk ≡ []) × (missed ≡ None)
scatters_none at zero talk missed h = h
scatters_none at (suc n) talk missed h = h

pub gives_nothing : (place : Place) (brought : Moved) (error : ℕ) (fises : List Fis) (bytes : List ℕ)
    (talk : List Access) (arrival : Arrival) → fises ≡ answer_fis true errored error ∷ []
    → bytes ≡ [] → Delivers place brought fises bytes talk arrival
    → GivesNothing place error talk arrival
gives_nothing place brought error fises bytes talk arrival f b h =
    let told : List Fis = answer_fis true errored error ∷ [] in
    let g : Delivers place brought told [] talk arrival =
    subst (λ (xs : List ℕ). Delivers place brought told xs talk arrival) b
    (subst (λ (fs : List Fis). Delivers place brought fs bytes talk arrival) f h) in
    let n = scatters_none (descriptors_of place.header) place.header.entries g.0 g.2 g.4 in
    let ends : EndsBy (ending g.2) (Counts place.at 0) (PostsTo place.to told) g.1 arrival.missed =
    subst (λ (xs : List Access). EndsBy (ending g.2) (Counts place.at (0 + written_by xs)) (PostsTo place.to told) g.1 arrival.missed) n.0 g.7 in
    let rest : Then (Counts place.at 0) (PostsTo place.to told) g.1 arrival.missed =
    subst (λ (m : Option Miss). EndsBy (ending m) (Counts place.at 0) (PostsTo place.to told) g.1 arrival.missed) n.1 ends in
    let same : talk ≡ rest.1 =
    g.3 ∙ ap (λ (xs : List Access). xs ++ g.1) n.0 ∙ rest.3 ∙ ap (λ (xs : List Access). xs ++ rest.1) rest.4.0 in
    let posted = subst (λ (xs : List Access). PostsTo place.to told xs arrival.missed) (sym same)
    (subst (λ (m : Option Miss). After m (PostsTo place.to told) rest.1 arrival.missed) rest.4.1 rest.5) in (
      posted,
      g.5 ∙ ap runs_short n.1,
      g.6 ∙ ap has_processed n.0,
    )
