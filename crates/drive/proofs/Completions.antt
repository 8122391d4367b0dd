-- What a completion leaves and gives is what its event says.
use Rattle.std.proofs.Common.{◌≡◌, ℕ, ◌<◌, Bool, List, [], ◌∷◌, ◌++◌, reverse, Option, Some, None, Result, Ok, Err, IfOk, refl, sym, subst, ap, ◌∙◌, option_map}
use Rattle.std.specs.Prelude.{OnOk}
use Rattle.shadow_mbr.specs.Stored.{heads, heads_of, sector_at}
use Rattle.device_data.specs.Settings.{active}
use Rattle.locking.specs.declared.range.Op.{Op}
use Rattle.locking.specs.declared.range.Op.TheVariants.{Read, Write}
use Rattle.history.specs.Opening.{Origin}
use Rattle.history.specs.Events.{HeldCommand, Event}
use Rattle.history.specs.Readers.{held as held_in}
use Rattle.history.specs.Facts.{Facts, facts}
use Rattle.history.specs.Decisions.{completed}
use Rattle.history.specs.Answers.{completed_fises, completed_data, expected, fises_of, read_by}
use Rattle.history.specs.History.{Act, Complete, log}
use Rattle.drive.specs.declared.answer.Completed.{Completed}
use Rattle.drive.specs.declared.error.DriveError.{DriveError}
use Rattle.drive.specs.declared.transfer.Held.{Held}
use Rattle.drive.specs.Transfer.{transfer_by, by_op, queued_command, held_command, verdict_held, held_bytes, payload_size_of, sector_then}
use Rattle.drive.specs.Queue.{slot_at, held_at, with_slot}
use Rattle.drive.specs.declared.queue.Queue.{Queue}
use Rattle.drive.specs.State.{DriveState, kept_facts, KeepsDrive, Agrees, AgreesInOrder}
use Rattle.drive.specs.Answers.{fises_done, IsCompletion, IsCompletionByHeads, IsFinished}
use Rattle.drive.proofs.Keeping.{seen-is, completed-keeps}
use Rattle.drive.proofs.Restarts.{in-order}

-- what is in a slot is what the past says of its tag
slot-held : (d : DriveState) (o : Origin) (past : List Event) (tag : ℕ) (x : Option Held) → slot_at d.queue.slots tag ≡ x → KeepsDrive d o past → held_in past tag ≡ option_map held_command x
slot-held d o past tag x is k = sym (k.held tag) ∙ ap (option_map held_command) is

finished-keeps : (gives : List ℕ → List ℕ) (old new : DriveState) (done : Completed) (o : Origin) (acts : List Act) (tag : ℕ) (payload : List ℕ) (x : Option Held) → tag < 32 → slot_at old.queue.slots tag ≡ x
    → IsFinished gives tag payload x old new done → Agrees old o acts → Agrees new o (Complete tag payload ∷ acts)
finished-keeps gives old new done o acts tag payload None small is f k = absurd f
finished-keeps gives old new done o acts tag payload (Some its) small is f k =
    completed-keeps old new o (log o acts) tag its.transfer.op its.transfer.lba its.transfer.count payload (verdict_held its) (completed tag payload (held_in (log o acts) tag)) small
    (ap (completed tag payload) (slot-held old o (log o acts) tag (Some its) is k)) f.tper f.queue f.settings f.media k

-- the bytes of what is held
data-by : (f : Facts) (op : Op) (lba count : ℕ) (shadowed : Bool)
    → held_bytes f (record { transfer = transfer_by op lba count; is_shadowed = shadowed }) ≡ completed_data f (Some (held_command (record { transfer = transfer_by op lba count; is_shadowed = shadowed })))
data-by f Read lba count shadowed = refl
data-by f Write lba count shadowed = refl

-- how many bytes what is held brings
size-by : (op : Op) (lba count : ℕ) (shadowed : Bool)
    → expected (Some (held_command (record { transfer = transfer_by op lba count; is_shadowed = shadowed }))) ≡ payload_size_of (transfer_by op lba count)
size-by Read lba count shadowed = refl
size-by Write lba count shadowed = refl

pub brought-by : (queue : Queue) (tag : ℕ) (its : Held) → slot_at queue.slots tag ≡ Some its → payload_size_of its.transfer ≡ expected (held_at queue tag)
brought-by queue tag its is =
    sym (ap (λ (x : Option Held). expected (option_map held_command x)) is ∙ size-by its.transfer.op its.transfer.lba its.transfer.count its.is_shadowed)

-- a write gives nothing
pub heads-of-write : (v : List ℕ) (f : Facts) (held : Held) → held.transfer.op ≡ Write → v ≡ [] → v ≡ heads (held_bytes f held)
unfolding heads_of
heads-of-write v f held is none =
    none ∙ sym (ap (λ (op : Op). heads (by_op op (read_by f held.transfer.lba held.transfer.count (verdict_held held)) [])) is)

-- the transfer moves, and then its slot is free
pub finished-some : (gives : List ℕ → List ℕ) (tag : ℕ) (payload : List ℕ) (x : Option Held) (its : Held) (old mid new : DriveState) (done : Completed) → x ≡ Some its
    → mid.tper ≡ old.tper → mid.queue ≡ old.queue → mid.settings ≡ old.settings → ((s : ℕ) → sector_at mid.media s ≡ sector_then its.transfer payload (sector_at old.media s) s)
    → new ≡ record mid { queue = with_slot tag None mid.queue; settings = active mid.settings }
    → fises_done done ≡ fises_of tag (queued_command its.transfer) → ((f : Facts) → done.bytes.items ≡ gives (held_bytes (kept_facts old f) its))
    → IsFinished gives tag payload x old new done
finished-some gives tag payload x its old mid new done is tper queue chosen media freed fises bytes =
    subst (λ (x : Option Held). IsFinished gives tag payload x old new done) (sym is) (record {
      tper = ap (λ (d : DriveState). d.tper) freed ∙ tper;
      queue = ap (λ (d : DriveState). d.queue) freed ∙ ap (with_slot tag None) queue;
      settings = ap (λ (d : DriveState). d.settings) freed ∙ ap active chosen;
      media = λ s. ap (λ (d : DriveState). sector_at d.media s) freed ∙ media s;
      fises = fises;
      bytes = bytes;
    })

abbrev Gives : (List ℕ → List ℕ) → Facts → ℕ → Option HeldCommand → Completed → Type 0
Gives gives f tag held done = (fises_done done ≡ completed_fises tag held) × (done.bytes.items ≡ gives (completed_data f held))

finished-gives : (gives : List ℕ → List ℕ) (old new : DriveState) (done : Completed) (o : Origin) (acts : List Act) (tag : ℕ) (payload : List ℕ) (x : Option Held) → slot_at old.queue.slots tag ≡ x
    → IsFinished gives tag payload x old new done → Agrees old o acts → Gives gives (facts o (log o acts)) tag (held_in (log o acts) tag) done
finished-gives gives old new done o acts tag payload None is f k = absurd f
finished-gives gives old new done o acts tag payload (Some its) is f k =
    let past : List Event = log o acts in
    let same : held_in past tag ≡ Some (held_command its) = slot-held old o past tag (Some its) is k in (
      f.fises ∙ ap (completed_fises tag) (sym same),
      f.bytes (facts o past) ∙ ap (λ (g : Facts). gives (held_bytes g its)) (seen-is old o past k)
          ∙ ap gives (data-by (facts o past) its.transfer.op its.transfer.lba its.transfer.count its.is_shadowed
          ∙ ap (completed_data (facts o past)) (sym same)),
    )

-- of a completion that may be refused

pub completes : (gives : List ℕ → List ℕ) (r : Result Completed DriveError) (old new : DriveState) (tag : ℕ) (payload : List ℕ) → tag < 32 → IfOk r (λ done. IsFinished gives tag payload (slot_at old.queue.slots tag) old new done)
    → OnOk r ((o : Origin) (acts : List Act) → Agrees old o acts → Agrees new o (Complete tag payload ∷ acts))
completes gives (Ok done) old new tag payload small f = λ o acts k. finished-keeps gives old new done o acts tag payload (slot_at old.queue.slots tag) small refl f k
completes gives (Err e) old new tag payload small f = tt

pub completes-in-order : (gives : List ℕ → List ℕ) (r : Result Completed DriveError) (old new : DriveState) (tag : ℕ) (payload : List ℕ) → tag < 32 → IfOk r (λ done. IsFinished gives tag payload (slot_at old.queue.slots tag) old new done)
    → OnOk r ((o : Origin) (acts : List Act) → AgreesInOrder old o acts → AgreesInOrder new o (acts ++ Complete tag payload ∷ []))
completes-in-order gives (Ok done) old new tag payload small f = λ o acts k.
    in-order new o acts (Complete tag payload) (finished-keeps gives old new done o (reverse acts) tag payload (slot_at old.queue.slots tag) small refl f k)
completes-in-order gives (Err e) old new tag payload small f = tt

pub complete-answers : (r : Result Completed DriveError) (old new : DriveState) (tag : ℕ) (payload : List ℕ) → IfOk r (λ done. IsFinished (λ bytes. bytes) tag payload (slot_at old.queue.slots tag) old new done)
    → IfOk r (λ done. (o : Origin) (acts : List Act) → Agrees old o acts → IsCompletion (facts o (log o acts)) tag (held_in (log o acts) tag) done)
complete-answers (Ok done) old new tag payload f = λ o acts k.
    let g = finished-gives (λ bytes. bytes) old new done o acts tag payload (slot_at old.queue.slots tag) refl f k in
    record { fises = g.0; bytes = g.1 }
complete-answers (Err e) old new tag payload f = tt

pub complete-heads : (r : Result Completed DriveError) (old new : DriveState) (tag : ℕ) (payload : List ℕ) → IfOk r (λ done. IsFinished heads tag payload (slot_at old.queue.slots tag) old new done)
    → IfOk r (λ done. (o : Origin) (acts : List Act) → Agrees old o acts → IsCompletionByHeads (facts o (log o acts)) tag (held_in (log o acts) tag) done)
complete-heads (Ok done) old new tag payload f = λ o acts k.
    let g = finished-gives heads old new done o acts tag payload (slot_at old.queue.slots tag) refl f k in
    record { fises = g.0; bytes = g.1 }
complete-heads (Err e) old new tag payload f = tt
