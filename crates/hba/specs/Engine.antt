-- What the engine does with a slot of the command list, by what the host's memory answers (AHCI
-- 1.3.1, 5.5.1).
use Rattle.std.specs.Prelude.{◌≡◌, ℕ, zero, suc, ◌+◌, ◌*◌, Bool, true, false, List, [], ◌∷◌, ◌++◌, Option, Some, None, Result, Ok, Err, if◌then◌else◌}
use Rattle.fis.specs.Types.{h2d_length}
use Rattle.fis.specs.declared.any.Fis.{Fis}
use Rattle.fis.specs.declared.any.Fis.TheVariants as fises
use Rattle.hba_regs.specs.Registers.{ready}
use Rattle.history.specs.Answers.{expected, payload_of}
use Rattle.history.specs.History.{Act, Accept, Complete}
use Rattle.history.specs.Readers.{held}
use Rattle.host_memory.specs.Access.{Access, Asked, IsAccess, Accessed, OnlyReads}
use Rattle.port_history.specs.Steps.{Effect}
use Rattle.slots.specs.Layout.{header_size}
use Rattle.hba.specs.declared.work.Work.{Work}
use Rattle.hba.specs.declared.work.Work.TheVariants as works
use Rattle.hba.specs.declared.work.Done.{Done}
use Rattle.hba.specs.declared.work.Done.TheVariants as dones
use Rattle.hba.specs.declared.work.Turned.{Turned}
use Rattle.hba.specs.declared.work.TurnedHeard.{TurnedHeard}
use Rattle.hba.specs.declared.registers.Registers.{Registers}
use Rattle.host_memory.specs.declared.hba_memory.miss.Miss.{Miss}
use Rattle.host_memory.specs.declared.hba_memory.miss.Miss.TheVariants as misses
use Rattle.host_memory.specs.declared.hba_memory.reading.Header.{Header}
use Rattle.host_memory.specs.declared.hba_memory.reading.Moved.{Moved}
use Rattle.host_memory.specs.declared.hba_memory.delivery.Arrival.{Arrival}
use Rattle.host_memory.specs.declared.hba_memory.delivery.Place.{Place}
use Rattle.slots.specs.Table.{is_command}
use Rattle.host_memory.specs.Memory.{upper_half, header_by, descriptors_of, moved_by, Gathers, PostsTo, Delivers}
use Rattle.hba.specs.Showing.{fault_of}
use Rattle.hba.specs.History.{whole_log, Opened, Operation, Wrote, Powered, Signed, Missed, Controlled, Asserted, Restarted, Unheard, Fetched, Completed, Account, State, AgreesHba, account, effect_after, TellsDenial, IsHeard}
use Rattle.hba.specs.Ready.{picked, ready_after}
use Rattle.hba.specs.SoftwareReset.{resets_behind}

-- Where the header of a slot stands, by PxCLB and PxCLBU (3.3.1, 3.3.2).
abbrev pub header_at : Registers → ℕ → ℕ
header_at regs tag = regs.port.list_base + upper_half regs.list_upper + header_size * tag

-- Where received FISes go: at PxFB and PxFBU, while FRE is set (3.3.3, 3.3.4, 3.3.7).
abbrev pub fises_at : Registers → Option ℕ
fises_at regs =
    if regs.port.receiving then Some (regs.port.fis_base + upper_half regs.fis_upper) else None

-- The places of a command, by the registers and its header.
abbrev pub place_of : Registers → ℕ → Header → Place
place_of regs tag header = record {
  at = header_at regs tag;
  header = header;
  to = fises_at regs;
}

-- An act of the drive with the data that were brought, by how they moved, and what it gives; of a
-- fetch under a tag, or of a completion.
abbrev pub Acts : Opened → Account → Place → Option ℕ → (List ℕ → Act)
    → (List ℕ → Arrival → Operation) → Moved → Result (List ℕ) Miss → List Access → Operation
    → Type 0
Acts o a place fetched act operation moved (Err miss) talk done =
    (talk ≡ []) × (done ≡ Missed fetched miss)
Acts o a place fetched act operation moved (Ok payload) talk done =
    let effect = effect_after o a (act payload) in
    (arrival : Arrival)
    × Delivers place moved effect.fises effect.bytes talk arrival
    × (done ≡ operation payload arrival)

-- So many bytes are brought; the drive acts; what it gives is delivered.
abbrev pub ServesSo : Opened → Account → Place → ℕ → Option ℕ → (List ℕ → Act)
    → (List ℕ → Arrival → Operation) → List Access → Operation → Type 0
ServesSo o a place n fetched act operation talk done =
    (before later : List Access) × (brought : Result (List ℕ) Miss) × (talk ≡ before ++ later)
    × Gathers (descriptors_of place.header) place.header.entries n before brought
    × Acts o a place fetched act operation (moved_by before n) brought later done

-- A slot's command.
abbrev pub Executes : Opened → Account → Place → ℕ → List ℕ → List Access → Operation → Type 0
Executes o a place tag fis talk done =
    ServesSo o a place (payload_of o.origin.tables.config fis) (Some tag) (Accept fis)
    (Fetched tag fis) talk done

-- The device's first FIS after a reset: ready, with its signature (ACS-3, device signatures).
abbrev pub signature_fis : Fis
signature_fis = fises.D2h (record {
  interrupt = false;
  port = 0;
  status = ready;
  error = 1;
  lba = 1;
  device = 0;
  count = 1;
})

-- A FIS that carries no command, by SRST behind it and before it. Where it clears SRST, the device tells
-- its signature; where the place of that is no memory, it alone is lost.
abbrev pub ControlsTo : Bool → Bool → Account → ℕ → List Access → Operation → Type 0
ControlsTo true was a tag talk done = (talk ≡ []) × (done ≡ Asserted tag)
ControlsTo false true a tag talk done =
    (missed : Option Miss) × PostsTo (fises_at a.registers) (signature_fis ∷ []) talk missed
    × (done ≡ Restarted tag)
ControlsTo false false a tag talk done = (talk ≡ []) × (done ≡ Controlled tag)

abbrev pub Controls : Account → ℕ → List ℕ → List Access → Operation → Type 0
Controls a tag fis talk done =
    ControlsTo (resets_behind a.registers.in_reset fis) a.registers.in_reset a tag talk done

-- A command, which a device in reset does not take.
abbrev pub HearsIf : Bool → Opened → Account → Place → ℕ → List ℕ → List Access → Operation → Type 0
HearsIf true o a place tag fis talk done = (talk ≡ []) × (done ≡ Unheard tag)
HearsIf false o a place tag fis talk done = Executes o a place tag fis talk done

abbrev pub FetchesIf : Bool → Opened → Account → Place → ℕ → List ℕ
    → List Access → Operation → Type 0
FetchesIf false o a place tag fis talk done = Controls a tag fis talk done
FetchesIf true o a place tag fis talk done =
    HearsIf a.registers.in_reset o a place tag fis talk done

abbrev pub FetchesFis : Opened → Account → Place → ℕ → Option (List ℕ)
    → List Access → Operation → Type 0
FetchesFis o a place tag None talk done =
    (talk ≡ []) × (done ≡ Missed (Some tag) misses.Table)
FetchesFis o a place tag (Some fis) talk done =
    FetchesIf (is_command fis) o a place tag fis talk done

abbrev pub FetchesFrom : Opened → Account → ℕ → Result Header Miss
    → List Access → Operation → Type 0
FetchesFrom o a tag (Err miss) talk done = (talk ≡ []) × (done ≡ Missed (Some tag) miss)
FetchesFrom o a tag (Ok header) talk done =
    (fis : Option (List ℕ)) × (later : List Access)
    × (talk ≡ Asked header.table h2d_length fis ∷ later)
    × FetchesFis o a (place_of a.registers tag header) tag fis later done

-- A fetch of the command under a tag.
abbrev pub Fetches : Opened → Account → ℕ → List Access → Operation → Type 0
Fetches o a tag talk done =
    (header : Option (List ℕ)) × (later : List Access)
    × (talk ≡ Asked (header_at a.registers tag) header_size header ∷ later)
    × FetchesFrom o a tag (header_by a.registers.width header) later done

abbrev pub CompletesFrom : Opened → Account → ℕ → ℕ → Result Header Miss → List Access → Operation
    → Type 0
CompletesFrom o a tag n (Err miss) talk done = (talk ≡ []) × (done ≡ Missed None miss)
CompletesFrom o a tag n (Ok header) talk done =
    ServesSo o a (place_of a.registers tag header) n None (Complete tag) (Completed tag) talk done

-- A completion of what is held under a tag, which wants so many bytes.
abbrev pub Completes : Opened → Account → ℕ → ℕ → List Access → Operation → Type 0
Completes o a tag n talk done =
    (header : Option (List ℕ)) × (later : List Access)
    × (talk ≡ Asked (header_at a.registers tag) header_size header ∷ later)
    × CompletesFrom o a tag n (header_by a.registers.width header) later done

-- The FISes and the data are those of an act.
pub record IsEffect (effect : Effect) (sent : List Fis) (given : List ℕ) : Type 0 where
  pub fises : sent ≡ effect.fises
  pub bytes : given ≡ effect.bytes

-- The device's signature. Where its place is no memory, the FIS alone is lost.
abbrev pub Signs : Account → List Access → Operation → Type 0
Signs a talk done =
    (missed : Option Miss) × PostsTo (fises_at a.registers) (signature_fis ∷ []) talk missed
    × (done ≡ Signed)

-- How many bytes the completion of what is held under a tag wants.
abbrev pub wanted_after : Opened → Account → ℕ → ℕ
wanted_after o a tag = expected (held (whole_log o a.acts) tag)

-- A piece of work, by what memory answers.
abbrev pub IsWork : Work → Opened → Account → List Access → Operation → Type 0
IsWork works.Signature o a talk done = Signs a talk done
IsWork (works.Fetch tag) o a talk done = Fetches o a tag talk done
IsWork (works.Complete tag) o a talk done = Completes o a tag (wanted_after o a tag) talk done

-- What is told of an operation of the engine.
abbrev pub done_by : Option Miss → Done
done_by None = dones.Served
done_by (Some miss) = dones.Fault (fault_of miss)

abbrev pub done_of : Operation → Option Done
done_of (Wrote offset value) = None
done_of Powered = None
done_of Signed = Some dones.Posted
done_of (Missed fetched miss) = Some (dones.Fault (fault_of miss))
done_of (Controlled tag) = Some dones.Control
done_of (Asserted tag) = Some dones.Control
done_of (Restarted tag) = Some dones.Control
done_of (Unheard tag) = Some dones.Control
done_of (Fetched tag fis payload arrival) = Some (done_by arrival.missed)
done_of (Completed tag payload arrival) = Some (done_by arrival.missed)

-- What a piece of work was, after a list of operations that the HBA agreed with, and that this is told of its operation.
pub record TurnedSo (o : Opened) (list : List Operation) (operation : Operation) (new : State)
    (Told : Opened → Account → Operation → Type 0)
    (Did : Opened → Account → List Access → Operation → Type 0) (talk : List Access)
    : Type 0 where
  pub did : Did o (account o list) talk operation
  pub agrees : AgreesHba new o (operation ∷ list)
  pub told : Told o (account o list) operation

-- The engine's accesses of the host's memory, and the operation that they are, whatever list the HBA
-- agreed with.
abbrev pub TurnsAs : {M : Type 0} → (M → Access → M → Type 0)
    → (Opened → Account → List Access → Operation → Type 0) → State → M → State → M → Done
    → (Opened → Account → Operation → Type 0) → Type 0
TurnsAs does Did old before new after done Told =
    (talk : List Access) × (operation : Operation)
    × Accessed (IsAccess old.registers.width does) before talk after
    × (done_of operation ≡ Some done)
    × ((o : Opened) (list : List Operation) → AgreesHba old o list
    → TurnedSo o list operation new Told Did talk)

-- A piece of work is done, and told.
abbrev pub TurnsBy : {M : Type 0} → (M → Access → M → Type 0) → Work → State → M → State → M
    → Done → (Opened → Account → Operation → Type 0) → Type 0
TurnsBy does work old before new after done Told =
    TurnsAs does (IsWork work) old before new after done Told

-- With what denied its command.
abbrev pub TurnsTo : {M : Type 0} → (M → Access → M → Type 0) → State → M → State → M → Turned
    → Type 0
TurnsTo does old before new after turned =
    TurnsBy does turned.work old before new after turned.done (TellsDenial turned.denied)

-- With the whole command.
abbrev pub HearsTo : {M : Type 0} → (M → Access → M → Type 0) → State → M → State → M
    → TurnedHeard → Type 0
HearsTo does old before new after turned =
    TurnsBy does turned.work old before new after turned.done (IsHeard turned.heard)

-- So many turns, each with the first work that may be done then.
unfoldable pub HasRun : Opened → ℕ → List Operation → List Access → List Operation → Type 0
HasRun o zero list talk after = (after ≡ list) × (talk ≡ [])
HasRun o (suc n) list talk after =
    (middle : List Operation) × (before later : List Access) × (work : Work)
    × (operation : Operation)
    × HasRun o n list before middle × (picked 0 (ready_after o middle) ≡ Some work)
    × IsWork work o (account o middle) later operation
    × (after ≡ operation ∷ middle) × (talk ≡ before ++ later)

-- Whatever list the HBA agreed with, it has run some turns after it.
abbrev pub Runs : {M : Type 0} → (M → Access → M → Type 0) → ℕ → State → M → State → M → Type 0
Runs does n old before new after =
    (talk : List Access)
    × ((o : Opened) (list : List Operation) → AgreesHba old o list
    → Accessed (IsAccess o.width does) before talk after
    × (later : List Operation) × AgreesHba new o later × HasRun o n list talk later)

-- An HBA has read the host's memory at most.
abbrev pub HasRead : {M : Type 0} → (M → Access → M → Type 0) → State → M → M → Type 0
HasRead does hba before after = OnlyReads (IsAccess hba.registers.width does) before after

-- It has run some turns, and then memory was read at most.
abbrev pub HasStopped : {M : Type 0} → (M → Access → M → Type 0) → State → M → State → M → Type 0
HasStopped {M} does old before new after =
    (n : ℕ) × (middle : M) × Runs does n old before new middle × HasRead does new middle after
