-- FISes that carry no command, by SRST.
use Rattle.std.proofs.Common.{◌≡◌, ℕ, Bool, true, false, List, [], ◌∷◌, Option, None, refl, sym, ap, subst, ◌∙◌}
use Rattle.fis.specs.declared.any.Fis.{Fis}
use Rattle.host_memory.specs.Access.{IsAccess, Access, Accessed}
use Rattle.host_memory.specs.declared.hba_memory.miss.Miss.{Miss}
use Rattle.host_memory.specs.declared.hba_memory.delivery.Place.{Place}
use Rattle.host_memory.specs.Memory.{PostsTo}
use Rattle.hba.specs.declared.registers.Registers.{Registers}
use Rattle.hba.specs.declared.work.Done.{Done}
use Rattle.hba.specs.declared.work.Heard.{Heard}
use Rattle.hba.specs.declared.work.Done.TheVariants as dones
use Rattle.hba.specs.SoftwareReset.{resets_behind}
use Rattle.hba.specs.History.{Opened, Operation, Controlled, Asserted, Restarted, Unheard, State, AgreesHba, Adds, account, regs_of, IsHeard}
use Rattle.hba.specs.Engine.{fises_at, signature_fis, ControlsTo, Controls, HearsIf, Executes, TurnsAs}
use Rattle.hba.proofs.Turns.{turn_named, turn_told}

-- SRST of the registers is that of the list.
same_reset : (old : State) (o : Opened) (list : List Operation) (b : Bool) → AgreesHba old o list
    → old.registers.in_reset ≡ b → b ≡ (regs_of o list).in_reset
same_reset old o list b a e = sym e ∙ ap (λ (r : Registers). r.in_reset) a.registers

-- By SRST before the FIS and behind it.
controls_by : {M : Type 0} (does : M → Access → M → Type 0) (old : State) (before : M) (new : State) (after : M)
    (done : Done) (heard : Option Heard) (tag : ℕ) (fis : List ℕ) (was is : Bool)
    → old.registers.in_reset ≡ was → resets_behind old.registers.in_reset fis ≡ is
    → TurnsAs does (λ o a. ControlsTo is was a tag) old before new after done (IsHeard heard)
    → TurnsAs does (λ o a. Controls a tag fis) old before new after done (IsHeard heard)
controls_by does old before new after done heard tag fis was is e f t =
    turn_named does (λ o a. Controls a tag fis) (λ o a. ControlsTo is was a tag) old before new after done heard
    (λ o list a talk operation h.
    let behind : is ≡ resets_behind (regs_of o list).in_reset fis =
    sym f ∙ ap (λ (r : Registers). resets_behind r.in_reset fis) a.registers in
    subst (λ (b : Bool). ControlsTo (resets_behind (regs_of o list).in_reset fis) b (account o list) tag talk operation)
    (same_reset old o list was a e)
    (subst (λ (b : Bool). ControlsTo b was (account o list) tag talk operation) behind h)) t

-- SRST is set.
pub asserts : {M : Type 0} (does : M → Access → M → Type 0) (old : State) (now : M) (new : State) (tag : ℕ)
    (fis : List ℕ) → resets_behind old.registers.in_reset fis ≡ true → Adds (Asserted tag) old new
    → TurnsAs does (λ o a. Controls a tag fis) old now new now dones.Control (IsHeard None)
asserts does old now new tag fis e adds =
    controls_by does old now new now dones.Control None tag fis old.registers.in_reset true refl e
    (turn_told does (λ o a. ControlsTo true old.registers.in_reset a tag) old now new (Asserted tag) refl
    (λ o list. refl) (λ o list a. (refl, refl)) adds)

-- It stays clear.
pub drops : {M : Type 0} (does : M → Access → M → Type 0) (old : State) (now : M) (new : State) (tag : ℕ)
    (fis : List ℕ) → old.registers.in_reset ≡ false → resets_behind old.registers.in_reset fis ≡ false
    → Adds (Controlled tag) old new
    → TurnsAs does (λ o a. Controls a tag fis) old now new now dones.Control (IsHeard None)
drops does old now new tag fis w e adds =
    controls_by does old now new now dones.Control None tag fis false false w e
    (turn_told does (λ o a. ControlsTo false false a tag) old now new (Controlled tag) refl
    (λ o list. refl) (λ o list a. (refl, refl)) adds)

-- It falls, and the signature is told, wherever it goes.
pub restarts : {M : Type 0} (does : M → Access → M → Type 0) (old : State) (before : M) (new : State)
    (after : M) (tag : ℕ) (to : Option ℕ) (fises : List Fis) (missed : Option Miss)
    → fises ≡ signature_fis ∷ [] → to ≡ fises_at old.registers
    → ((talk : List Access) × Accessed (IsAccess old.registers.width does) before talk after × PostsTo to fises talk missed)
    → Adds (Restarted tag) old new
    → TurnsAs does (λ o a. ControlsTo false true a tag) old before new after dones.Control (IsHeard None)
restarts does old before new after tag to fises missed f e p adds = (
  p.0,
  Restarted tag,
  p.1,
  refl,
  λ o list a. record {
    did = (
      missed,
      subst (λ (x : Option ℕ). PostsTo x (signature_fis ∷ []) p.0 missed)
          (e ∙ ap (λ (r : Registers). fises_at r) a.registers)
          (subst (λ (fs : List Fis). PostsTo to fs p.0 missed) f p.2),
      refl,
    );
    agrees = adds o list a;
    told = refl;
  },
)

pub falls : {M : Type 0} (does : M → Access → M → Type 0) (old : State) (before : M) (new : State) (after : M)
    (tag : ℕ) (fis : List ℕ) → old.registers.in_reset ≡ true → resets_behind old.registers.in_reset fis ≡ false
    → TurnsAs does (λ o a. ControlsTo false true a tag) old before new after dones.Control (IsHeard None)
    → TurnsAs does (λ o a. Controls a tag fis) old before new after dones.Control (IsHeard None)
falls does old before new after tag fis w e t =
    controls_by does old before new after dones.Control None tag fis true false w e t

-- A command that comes to a device in reset, and one that does not.
pub stays : {M : Type 0} (does : M → Access → M → Type 0) (old : State) (now : M) (new : State) (place : Place)
    (tag : ℕ) (fis : List ℕ) → old.registers.in_reset ≡ true → Adds (Unheard tag) old new
    → TurnsAs does (λ o a. HearsIf a.registers.in_reset o a place tag fis) old now new now dones.Control (IsHeard None)
stays does old now new place tag fis w adds =
    turn_told does (λ o a. HearsIf a.registers.in_reset o a place tag fis) old now new (Unheard tag) refl
    (λ o list. refl)
    (λ o list a. subst (λ (b : Bool). HearsIf b o (account o list) place tag fis [] (Unheard tag))
    (same_reset old o list true a w) (refl, refl)) adds

pub hears : {M : Type 0} (does : M → Access → M → Type 0) (old : State) (before : M) (new : State) (after : M)
    (done : Done) (heard : Option Heard) (place : Place) (tag : ℕ) (fis : List ℕ) → old.registers.in_reset ≡ false
    → TurnsAs does (λ o a. Executes o a place tag fis) old before new after done (IsHeard heard)
    → TurnsAs does (λ o a. HearsIf a.registers.in_reset o a place tag fis) old before new after done (IsHeard heard)
hears does old before new after done heard place tag fis w t =
    turn_named does (λ o a. HearsIf a.registers.in_reset o a place tag fis) (λ o a. Executes o a place tag fis)
    old before new after done heard
    (λ o list a talk operation h. subst (λ (b : Bool). HearsIf b o (account o list) place tag fis talk operation)
    (same_reset old o list false a w) h) t
