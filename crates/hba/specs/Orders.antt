-- The order in which what keeps a command from its act is told (AHCI 1.3.1): lists of rules, each with whether it applies and the
-- operation that it comes to. An operation is that of the first rule that applies; where none does, the drive acts. What is not
-- ready comes to no operation.
use Rattle.std.specs.Prelude.{◌≡◌, ℕ, zero, suc, ◌+◌, ◌-◌, ◌==◌, ◌&&◌, not, min, Bool, true, List, [], ◌∷◌, ◌++◌, Option, Some, None, is_none, unwrap_or, if◌then◌else◌}
use Rattle.fis.specs.Types.{h2d_length}
use Rattle.fis.specs.declared.any.Fis.{Fis}
use Rattle.history.specs.Answers.{errored, payload_of}
use Rattle.history.specs.History.{Accept}
use Rattle.slots.specs.Layout.{header_size, descriptor_size, descriptors_at}
use Rattle.slots.specs.Header.{entry_count}
use Rattle.slots.specs.Table.{is_command}
use Rattle.host_memory.specs.Access.{Access, Asked, Laid}
use Rattle.host_memory.specs.declared.hba_memory.miss.Miss.{Miss}
use Rattle.host_memory.specs.declared.hba_memory.miss.Miss.TheVariants as misses
use Rattle.host_memory.specs.declared.hba_memory.reading.Moved.{Moved}
use Rattle.host_memory.specs.declared.hba_memory.delivery.Arrival.{Arrival}
use Rattle.host_memory.specs.declared.hba_memory.delivery.Place.{Place}
use Rattle.host_memory.specs.Memory.{is_sound_header, command_table_of, data_at, data_len, descriptors_of, data_taken, written_by, ending, Scatters, Counts, PostsTo, Delivers}
use Rattle.hba.specs.declared.registers.Registers.{Registers}
use Rattle.hba.specs.declared.work.Work.{Work}
use Rattle.hba.specs.declared.work.Work.TheVariants as works
use Rattle.hba.specs.History.{Opened, Operation, Missed, Controlled, Asserted, Restarted, Unheard, Fetched, Completed, Account, account, regs_of, effect_after}
use Rattle.hba.specs.Ready.{is_ready_after, ready_after, picked}
use Rattle.hba.specs.SoftwareReset.{resets_behind}
use Rattle.hba.specs.Engine.{header_at, wanted_after, IsWork}

-- What a memory answers where nothing was written since: so many bytes at an address.
abbrev pub MemoryAnswers : Type 0
MemoryAnswers = ℕ → ℕ → Option (List ℕ)

-- All that is read in front of the first write is answered so.
abbrev pub AreAnswered : MemoryAnswers → List Access → Type 0
AreAnswered m [] = Unit {0}
AreAnswered m (Asked at n answer ∷ later) = (answer ≡ m at n) × AreAnswered m later
AreAnswered m (Laid at bytes is_done ∷ later) = Unit {0}

abbrev pub bytes_read : Option (List ℕ) → List ℕ
bytes_read answer = unwrap_or answer []

abbrev pub header_in : MemoryAnswers → Account → ℕ → Option (List ℕ)
header_in m a tag = m (header_at a.registers tag) header_size

abbrev pub fis_in : MemoryAnswers → Account → ℕ → Option (List ℕ)
fis_in m a tag = m (command_table_of (bytes_read (header_in m a tag))) h2d_length

-- What the first rule comes to that applies.
abbrev pub first_rule : {A : Type 0} → List (Bool × A) → Option A
first_rule [] = None
first_rule (rule ∷ later) = if rule.0 then Some rule.1 else first_rule later

-- The block of a descriptor, as far as so many bytes want it.
abbrev pub block_wanted : MemoryAnswers → List ℕ → ℕ → Option (List ℕ)
block_wanted m entry left = m (data_at entry) (min left (data_len entry))

-- Of the data, while some are left, descriptor after descriptor: it is no memory, its block is none (HBFS); and at the end of the
-- PRDT that some are left (OFS; 3.3.5, 4.2.3.3).
abbrev pub data_rules : (Miss → Operation) → MemoryAnswers → ℕ → ℕ → ℕ → List (Bool × Operation)
data_rules tell m at zero left = (not (left == 0), tell misses.Overflow) ∷ []
data_rules tell m at (suc n) left =
    let entry = m at descriptor_size in
    let bytes = bytes_read entry in
    (not (left == 0) && is_none entry, tell misses.Table)
    ∷ (not (left == 0) && is_none (block_wanted m bytes left), tell misses.Block)
    ∷ data_rules tell m (at + descriptor_size) n (left - data_len bytes)

abbrev pub rules_of_data : (Miss → Operation) → MemoryAnswers → List ℕ → ℕ → List (Bool × Operation)
rules_of_data tell m header left =
    data_rules tell m (command_table_of header + descriptors_at) (entry_count header) left

-- A fetch: the header is no memory, or none of a command (CFL, CTBAU; 4.2.2); the FIS is no memory (4.2.3.1); the FIS carries no
-- command, and sets SRST, or clears it, or neither (10.4.1); the device is in reset; the data.
abbrev pub fetch_rules : MemoryAnswers → Opened → Account → ℕ → List (Bool × Operation)
fetch_rules m o a tag =
    let header = header_in m a tag in
    let fis = fis_in m a tag in
    let is_control = not (is_command (bytes_read fis)) in
    let was = a.registers.in_reset in
    (is_none header, Missed (Some tag) misses.List)
    ∷ (not (is_sound_header a.registers.width (bytes_read header)), Missed (Some tag) misses.Table)
    ∷ (is_none fis, Missed (Some tag) misses.Table)
    ∷ (is_control && resets_behind was (bytes_read fis), Asserted tag)
    ∷ (is_control && was, Restarted tag)
    ∷ (is_control, Controlled tag)
    ∷ (was, Unheard tag)
    ∷ rules_of_data (Missed (Some tag)) m (bytes_read header)
    (payload_of o.origin.tables.config (bytes_read fis))

-- A completion, whose command is held: the header, as of a fetch, and the data.
abbrev pub completion_rules : MemoryAnswers → Opened → Account → ℕ → List (Bool × Operation)
completion_rules m o a tag =
    let header = header_in m a tag in
    (is_none header, Missed None misses.List)
    ∷ (not (is_sound_header a.registers.width (bytes_read header)), Missed None misses.Table)
    ∷ rules_of_data (Missed None) m (bytes_read header) (wanted_after o a tag)

-- The drive was given the command, with bytes.
abbrev pub WasGiven : (List ℕ → Arrival → Operation) → Operation → Type 0
WasGiven operation done =
    (payload : List ℕ) × (arrival : Arrival) × (done ≡ operation payload arrival)

abbrev pub EndsFirst : Option Operation → (List ℕ → Arrival → Operation) → Operation → Type 0
EndsFirst None operation done = WasGiven operation done
EndsFirst (Some first) operation done = done ≡ first

abbrev pub FetchOrder : Type 0
FetchOrder =
    (m : MemoryAnswers) (o : Opened) (list : List Operation) (tag : ℕ) (talk : List Access)
    (done : Operation) → let a = account o list in
    IsWork (works.Fetch tag) o a talk done → AreAnswered m talk
    → EndsFirst (first_rule (fetch_rules m o a tag))
    (Fetched tag (bytes_read (fis_in m a tag))) done

abbrev pub CompletionOrder : Type 0
CompletionOrder =
    (m : MemoryAnswers) (o : Opened) (list : List Operation) (tag : ℕ) (talk : List Access)
    (done : Operation) → let a = account o list in
    IsWork (works.Complete tag) o a talk done → AreAnswered m talk
    → EndsFirst (first_rule (completion_rules m o a tag)) (Completed tag) done

-- In front of all these: only what is ready is done, so that FRE and ST are set, the link is up and nothing has halted the port
-- (3.3.7, 6.2.2.1).
abbrev pub ReadyOrder : Type 0
ReadyOrder =
    (o : Opened) (list : List Operation) (choice : ℕ) (work : Work)
    → picked choice (ready_after o list) ≡ Some work → is_ready_after o list work ≡ true

-- Behind an act that fails, its error is told before what memory misses: PxTFD has it, however the FIS arrived (6.2.2.1).
pub record TellsStatus (error : ℕ) (regs : Registers) : Type 0 where
  pub status : regs.port.status ≡ errored
  pub code : regs.port.error ≡ error

abbrev pub ErrorOrder : Type 0
ErrorOrder =
    (o : Opened) (before : List Operation) (tag : ℕ) (fis payload : List ℕ) (error : ℕ)
    (place : Place) (brought : Moved) (talk : List Access) (arrival : Arrival)
    → let effect = effect_after o (account o before) (Accept fis payload) in
    effect.event.failed ≡ Some error → Delivers place brought effect.fises effect.bytes talk arrival
    → TellsStatus error (regs_of o (Fetched tag fis payload arrival ∷ before))

-- The first that was missed.
abbrev pub first_missed : List (Option Miss) → Option Miss
first_missed [] = None
first_missed (None ∷ later) = first_missed later
first_missed (Some miss ∷ later) = Some miss

-- FISes are posted where nothing was missed before.
abbrev pub PostsUnless : Option Miss → Option ℕ → List Fis → List Access → Option Miss → Type 0
PostsUnless None to fises talk posted = PostsTo to fises talk posted
PostsUnless (Some miss) to fises talk posted = (talk ≡ []) × (posted ≡ None)

-- Behind an act: what its data miss is told first, then PRDBC, then the places of its FISes (4.2.2, 4.2.1).
pub record ArrivesInOrder (place : Place) (brought : Moved) (fises : List Fis) (bytes : List ℕ)
    (talk : List Access) (missed : Option Miss) : Type 0 where
  pub blocks : List Access
  pub count : List Access
  pub posts : List Access
  pub laid : Option Miss
  pub counted : Option Miss
  pub posted : Option Miss
  pub parts : talk ≡ blocks ++ (count ++ posts)
  pub of_data : Scatters (descriptors_of place.header) place.header.entries bytes blocks laid
  pub of_count : Counts place.at (data_taken fises brought.len + written_by blocks) count counted
  pub of_fises : PostsUnless (first_missed (ending laid ∷ counted ∷ [])) place.to fises posts posted
  pub first : missed ≡ first_missed (ending laid ∷ counted ∷ posted ∷ [])

abbrev pub ArrivalOrder : Type 0
ArrivalOrder =
    (place : Place) (brought : Moved) (fises : List Fis) (bytes : List ℕ) (talk : List Access)
    (arrival : Arrival) → Delivers place brought fises bytes talk arrival
    → ArrivesInOrder place brought fises bytes talk arrival.missed
