-- What the engine may do (AHCI 1.3.1, 5.3 and 5.5.1).
use Rattle.std.specs.Prelude.{◌≡◌, ℕ, ◌^◌, ◌%◌, ◌<◌, ◌==◌, ◌&&◌, not, zero, suc, Bool, true, false, List, [], ◌∷◌, ◌++◌, length, slice_index_or, Option, Some, None, is_some, bit_and, if◌then◌else◌}
use Rattle.fis.specs.Tags.{slot_count}
use Rattle.hba_regs.specs.Registers.{has_bits}
use Rattle.history.specs.Readers.{held}
use Rattle.drive.specs.Queue.{held_at}
use Rattle.hba.specs.declared.registers.Registers.{Registers}
use Rattle.hba.specs.declared.work.Work.{Work}
use Rattle.hba.specs.declared.work.Work.TheVariants as works
use Rattle.hba.specs.Registers.{is_up, busy_bits}
use Rattle.hba.specs.History.{whole_log, Opened, State, Operation, acts_of, regs_of}

-- ST is set, and FRE, since each command posts a FIS (3.3.7: FRE is set before ST); no error halts
-- the port, and the link is up.
abbrev pub is_working : Registers → Bool
is_working regs =
    regs.port.running && regs.port.receiving && not regs.is_halted && is_up regs.port.control

-- The signature goes where received FISes go.
abbrev pub may_sign : Registers → Bool
may_sign regs = regs.port.receiving && is_up regs.port.control && not regs.is_signed

-- A command that is issued is fetched while the device is neither busy nor wants data.
abbrev pub may_fetch : Registers → ℕ → Bool
may_fetch regs tag =
    is_working regs && has_bits regs.port.issued (2 ^ tag)
    && bit_and regs.port.status busy_bits == 0

-- A device in reset tells nothing.
abbrev pub is_telling : Registers → Bool
is_telling regs = is_working regs && not regs.in_reset

-- What the drive holds is completed while PxSACT has it.
abbrev pub may_complete : Registers → ℕ → Bool
may_complete regs tag = is_telling regs && has_bits regs.port.active (2 ^ tag)

-- The tags whose commands can be fetched, and those whose commands can be completed, a bit for each.
abbrev pub fetchable : Registers → ℕ
fetchable regs =
    if is_working regs && bit_and regs.port.status busy_bits == 0 then regs.port.issued else 0

abbrev pub completable : Registers → ℕ
completable regs = if is_telling regs then regs.port.active else 0

-- The least tag of a word.
pub record IsLeast (tags tag : ℕ) : Type 0 where
  pub slot : tag < slot_count
  pub has : has_bits tags (2 ^ tag) ≡ true
  pub least : (n : ℕ) → n < tag → has_bits tags (2 ^ n) ≡ false

abbrev pub is_ready : Registers → (ℕ → Bool) → Work → Bool
is_ready regs holds works.Signature = may_sign regs
is_ready regs holds (works.Fetch tag) = may_fetch regs tag
is_ready regs holds (works.Complete tag) = may_complete regs tag && holds tag

-- By the drive, and by the list of operations.
abbrev pub is_ready_on : State → Work → Bool
is_ready_on hba work = is_ready hba.registers (λ tag. is_some (held_at hba.drive.queue tag)) work

abbrev pub is_ready_after : Opened → List Operation → Work → Bool
is_ready_after o list work =
    is_ready (regs_of o list) (λ tag. is_some (held (whole_log o (acts_of o list)) tag)) work

-- The work that passes: the signature, then fetches and then completions, the least tag first.
abbrev pub if_ready : (Work → Bool) → Work → List Work
if_ready passes work = if passes work then work ∷ [] else []

abbrev pub fetches : (Work → Bool) → ℕ → List Work
fetches passes zero = []
fetches passes (suc n) = fetches passes n ++ if_ready passes (works.Fetch n)

abbrev pub completions : (Work → Bool) → ℕ → List Work
completions passes zero = []
completions passes (suc n) = completions passes n ++ if_ready passes (works.Complete n)

abbrev pub ready_by : (Work → Bool) → List Work
ready_by passes =
    if_ready passes works.Signature ++ fetches passes slot_count ++ completions passes slot_count

-- What may be done, by the state and by the list of operations.
abbrev pub ready_on : State → List Work
ready_on hba = ready_by (is_ready_on hba)

abbrev pub ready_after : Opened → List Operation → List Work
ready_after o list = ready_by (is_ready_after o list)

-- The work of a number, modulo how many there are.
abbrev pub picked : ℕ → List Work → Option Work
picked choice [] = None
picked choice (work ∷ later) =
    Some (slice_index_or (work ∷ later) (choice % length (work ∷ later)) work)

-- A fetch and a completion take memory, for what comes with a command and for what it gives. The signature takes none.
abbrev pub takes_memory : Work → Bool
takes_memory works.Signature = false
takes_memory (works.Fetch tag) = true
takes_memory (works.Complete tag) = true

abbrev pub picks_memory : Option Work → Bool
picks_memory None = false
picks_memory (Some work) = takes_memory work
