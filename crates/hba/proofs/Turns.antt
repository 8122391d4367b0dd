-- A piece of work: what the engine asks of memory, what it does, and that it does so after every list
-- that the HBA agreed with.
use Rattle.sp_cells.specs.Config.{Config}
use Rattle.std.proofs.Common.{◌≡◌, ℕ, ◌+◌, ◌-◌, zero, suc, Bool, true, false, List, [], ◌∷◌, ◌++◌, Option, Some, None, Ok, Err, ap, sym, refl, ◌∙◌, subst, add-one}
use Rattle.std.proofs.lemmas.List.{append-nil}
use Rattle.std.specs.Prelude.{Result, IfOk, ◌==◌}
use Rattle.fis.specs.Types.{h2d_length}
use Rattle.fis.specs.declared.any.Fis.{Fis}
use Rattle.audit.specs.declared.reason.Why.{Why}
use Rattle.history.specs.Answers.{expected, payload_of}
use Rattle.history.specs.Events.{Event}
use Rattle.history.specs.History.{Act, Accept, Complete}
use Rattle.drive.specs.Queue.{held_at}
use Rattle.slots.specs.Layout.{header_size, descriptor_size}
use Rattle.host_memory.specs.declared.width.AddressWidth.{AddressWidth}
use Rattle.host_memory.specs.Access.{Access, Asked, IsAccess, Accessed, OnlyReads, AreReads}
use Rattle.host_memory.proofs.Accesses.{accessed_append}
use Rattle.host_memory.specs.declared.hba_memory.miss.Miss.{Miss}
use Rattle.host_memory.specs.declared.hba_memory.reading.Header.{Header}
use Rattle.host_memory.specs.declared.hba_memory.reading.Moved.{Moved}
use Rattle.host_memory.specs.declared.hba_memory.delivery.Arrival.{Arrival}
use Rattle.host_memory.specs.declared.hba_memory.delivery.Place.{Place}
use Rattle.slots.specs.Table.{is_command}
use Rattle.host_memory.specs.Memory.{header_by, descriptors_of, data_len, moved_by, Gathers, BringsNext, BringsEntry, BringsBlock, PostsTo, Delivers}
use Rattle.hba.specs.declared.registers.Registers.{Registers}
use Rattle.hba.specs.declared.work.Work.{Work}
use Rattle.hba.specs.declared.work.Work.TheVariants as works
use Rattle.hba.specs.declared.work.Done.{Done}
use Rattle.hba.specs.declared.work.Heard.{Heard}
use Rattle.hba.specs.declared.work.Outcome.{Outcome}
use Rattle.hba.specs.declared.work.Done.TheVariants as dones
use Rattle.hba.specs.Showing.{fault_of, arrived, fetching}
use Rattle.hba.specs.History.{Opened, Operation, Wrote, Powered, Signed, Missed, Controlled, Asserted, Restarted, Unheard, Fetched, Completed, Account, State, HasActed, AgreesHba, Adds, account, acts_of, regs_of, effect_after, TellsDenial, IsHeard, IsHeardOf, denial_heard}
use Rattle.hba.specs.Ready.{ready_on, picked}
use Rattle.hba.specs.Engine.{header_at, fises_at, place_of, IsEffect, ServesSo, Executes, Controls, HearsIf, FetchesIf, FetchesFis, FetchesFrom, Fetches, CompletesFrom, Completes, Signs, signature_fis, IsWork, done_of, TurnsAs, TurnsBy, HasRun, HasRead, Runs, HasStopped}
use Rattle.hba.proofs.Works.{ready_same}
use Rattle.hba.proofs.Addresses.{width_stays}

-- The account of a list, with the registers of an HBA that agrees with it.
abbrev with_registers : State → Opened → List Operation → Account
with_registers hba o list = record { acts = acts_of o list; registers = hba.registers }

same_account : (hba : State) (o : Opened) (list : List Operation) → AgreesHba hba o list
    → with_registers hba o list ≡ account o list
same_account hba o list a =
    ap (λ (r : Registers). let x : Account = record { acts = acts_of o list; registers = r } in x) a.registers

-- One access more, in front of a turn.
pub turn_behind : {M : Type 0} (does : M → Access → M → Type 0)
    (First Next : Opened → Account → List Access → Operation → Type 0)
    (old : State) (before middle : M) (new : State) (after : M) (done : Done) (heard : Option Heard)
    (access : Access) → IsAccess old.registers.width does before access middle
    → ((o : Opened) (list : List Operation) → AgreesHba old o list → (talk : List Access)
    (operation : Operation) → Next o (account o list) talk operation
    → First o (account o list) (access ∷ talk) operation)
    → TurnsAs does Next old middle new after done (IsHeard heard)
    → TurnsAs does First old before new after done (IsHeard heard)
turn_behind does First Next old before middle new after done heard access answers step t = (
  access ∷ t.0,
  t.1,
  (middle, answers, t.2),
  t.3,
  λ o list a.
      let h = t.4 o list a in
      record { did = step o list a t.0 t.1 h.did; agrees = h.agrees; told = h.told },
)

-- Another name for what was done.
pub turn_named : {M : Type 0} (does : M → Access → M → Type 0)
    (First Next : Opened → Account → List Access → Operation → Type 0)
    (old : State) (before : M) (new : State) (after : M) (done : Done) (heard : Option Heard)
    → ((o : Opened) (list : List Operation) → AgreesHba old o list → (talk : List Access)
    (operation : Operation) → Next o (account o list) talk operation
    → First o (account o list) talk operation)
    → TurnsAs does Next old before new after done (IsHeard heard)
    → TurnsAs does First old before new after done (IsHeard heard)
turn_named does First Next old before new after done heard step t = (
  t.0,
  t.1,
  t.2,
  t.3,
  λ o list a.
      let h = t.4 o list a in
      record { did = step o list a t.0 t.1 h.did; agrees = h.agrees; told = h.told },
)

-- Less is told of what was done.
pub turn_less : {M : Type 0} (does : M → Access → M → Type 0)
    (Did : Opened → Account → List Access → Operation → Type 0) (old : State) (before : M) (new : State)
    (after : M) (done : Done) (Told Less : Opened → Account → Operation → Type 0)
    → ((o : Opened) (a : Account) (operation : Operation) → Told o a operation → Less o a operation)
    → TurnsAs does Did old before new after done Told
    → TurnsAs does Did old before new after done Less
turn_less does Did old before new after done Told Less step t = (
  t.0,
  t.1,
  t.2,
  t.3,
  λ o list a.
      let h = t.4 o list a in
      record { did = h.did; agrees = h.agrees; told = step o (account o list) t.1 h.told },
)

denied_of : (heard : Option Heard) (fis payload : List ℕ) (event : Event) → IsHeardOf heard fis payload event
    → denial_heard heard ≡ event.denied
denied_of None fis payload event h = absurd h
denied_of (Some heard) fis payload event h = h.denied

denied_so : (heard : Option Heard) (o : Opened) (a : Account) (operation : Operation)
    → IsHeard heard o a operation → TellsDenial (denial_heard heard) o a operation
denied_so heard o a (Fetched tag fis payload arrival) h =
    denied_of heard fis payload (effect_after o a (Accept fis payload)).event h
denied_so heard o a (Wrote offset value) h = ap denial_heard h
denied_so heard o a Powered h = ap denial_heard h
denied_so heard o a Signed h = ap denial_heard h
denied_so heard o a (Missed fetched miss) h = ap denial_heard h
denied_so heard o a (Controlled tag) h = ap denial_heard h
denied_so heard o a (Asserted tag) h = ap denial_heard h
denied_so heard o a (Restarted tag) h = ap denial_heard h
denied_so heard o a (Unheard tag) h = ap denial_heard h
denied_so heard o a (Completed tag payload arrival) h = ap denial_heard h

-- Of a command that is told, what denied it.
pub turn_tells : {M : Type 0} (does : M → Access → M → Type 0) (old : State) (before : M) (new last : State)
    (after : M) (work : Work) (done : Done) (heard : Option Heard) (why : Option Why) → last ≡ new
    → why ≡ denial_heard heard → TurnsBy does work old before new after done (IsHeard heard)
    → TurnsBy does work old before last after done (TellsDenial why)
turn_tells does old before new last after work done heard why e n t =
    subst (λ (s : State). TurnsBy does work old before s after done (TellsDenial why)) (sym e)
    (subst (λ (w : Option Why). TurnsBy does work old before new after done (TellsDenial w)) (sym n)
    (turn_less does (IsWork work) old before new after done (IsHeard heard)
    (TellsDenial (denial_heard heard)) (denied_so heard) t))

-- Nothing more is asked.
pub turn_missed : {M : Type 0} (does : M → Access → M → Type 0)
    (Did : Opened → Account → List Access → Operation → Type 0) (old : State) (now : M)
    (new : State) (fetched : Option ℕ) (miss : Miss)
    → ((o : Opened) (list : List Operation) → AgreesHba old o list
    → Did o (account o list) [] (Missed fetched miss))
    → Adds (Missed fetched miss) old new
    → TurnsAs does Did old now new now (dones.Fault (fault_of miss)) (IsHeard None)
turn_missed does Did old now new fetched miss did adds = (
  [],
  Missed fetched miss,
  refl,
  refl,
  λ o list a. record { did = did o list a; agrees = adds o list a; told = refl },
)

-- A FIS of which memory is asked nothing more.
pub turn_told : {M : Type 0} (does : M → Access → M → Type 0)
    (Did : Opened → Account → List Access → Operation → Type 0) (old : State) (now : M)
    (new : State) (operation : Operation)
    → done_of operation ≡ Some dones.Control
    → ((o : Opened) (list : List Operation) → IsHeard None o (account o list) operation)
    → ((o : Opened) (list : List Operation) → AgreesHba old o list
    → Did o (account o list) [] operation)
    → Adds operation old new
    → TurnsAs does Did old now new now dones.Control (IsHeard None)
turn_told does Did old now new operation told none did adds = (
  [],
  operation,
  refl,
  told,
  λ o list a. record { did = did o list a; agrees = adds o list a; told = none o list },
)

-- What comes with a command, so far as memory has it.
abbrev pub Brought : {M : Type 0} → (M → Access → M → Type 0) → Place → ℕ → M → M
    → Result (List ℕ) Miss → Type 0
Brought does place n before after brought =
    (talk : List Access) × Accessed does before talk after
    × Gathers (descriptors_of place.header) place.header.entries n talk brought

-- And by how it moved.
abbrev pub BroughtBy : {M : Type 0} → (M → Access → M → Type 0) → Place → ℕ → M → M
    → Result (List ℕ) Miss → Moved → Type 0
BroughtBy does place n before after brought moved =
    (talk : List Access) × Accessed does before talk after
    × Gathers (descriptors_of place.header) place.header.entries n talk brought
    × (moved ≡ moved_by talk n)

abbrev pub Delivered : {M : Type 0} → (M → Access → M → Type 0) → Place → Moved → List Fis → List ℕ → M → M
    → Arrival → Type 0
Delivered does place moved fises bytes before after arrival =
    (talk : List Access) × Accessed does before talk after
    × Delivers place moved fises bytes talk arrival

pub serves_missed : {M : Type 0} (does : M → Access → M → Type 0) (place : Place) (n : ℕ)
    (fetched : Option ℕ) (act : List ℕ → Act) (operation : List ℕ → Arrival → Operation) (old : State) (before : M)
    (new : State) (after : M) (miss : Miss)
    → Brought (IsAccess old.registers.width does) place n before after (Err miss)
    → Adds (Missed fetched miss) old new
    → TurnsAs does (λ o a. ServesSo o a place n fetched act operation) old before new after
    (dones.Fault (fault_of miss)) (IsHeard None)
serves_missed does place n fetched act operation old before new after miss g adds = (
  g.0,
  Missed fetched miss,
  g.1,
  refl,
  λ o list a. record {
    did = (g.0, [], Err miss, sym (append-nil g.0), g.2, (refl, refl));
    agrees = adds o list a;
    told = refl;
  },
)

-- FISes and data of an act, for every list that the HBA agreed with.
abbrev pub Gives : State → (List Operation → Opened → Act) → List Fis → List ℕ → Type 0
Gives old act fises bytes =
    (o : Opened) (list : List Operation) → AgreesHba old o list
    → IsEffect (effect_after o (account o list) (act list o)) fises bytes

delivers_effect : (o : Opened) (a : Account) (act : Act) (place : Place) (moved : Moved) (fises : List Fis)
    (bytes : List ℕ) (talk : List Access) (arrival : Arrival)
    → IsEffect (effect_after o a act) fises bytes → Delivers place moved fises bytes talk arrival
    → Delivers place moved (effect_after o a act).fises (effect_after o a act).bytes talk arrival
delivers_effect o a act place moved fises bytes talk arrival e h =
    subst (λ (xs : List ℕ). Delivers place moved (effect_after o a act).fises xs talk arrival) e.bytes
    (subst (λ (fs : List Fis). Delivers place moved fs bytes talk arrival) e.fises h)

pub serves_done : {M : Type 0} (does : M → Access → M → Type 0) (place : Place) (n : ℕ)
    (fetched : Option ℕ) (act : List ℕ → Act) (operation : List ℕ → Arrival → Operation) (old : State)
    (before middle : M) (new : State) (after : M) (payload : List ℕ) (fises : List Fis)
    (bytes : List ℕ) (moved : Moved) (arrival : Arrival) (done : Done) (heard : Option Heard)
    → BroughtBy (IsAccess old.registers.width does) place n before middle (Ok payload) moved
    → Delivered (IsAccess old.registers.width does) place moved fises bytes middle after arrival
    → done_of (operation payload arrival) ≡ Some done
    → ((o : Opened) (list : List Operation) → AgreesHba old o list
    → IsEffect (effect_after o (account o list) (act payload)) fises bytes)
    → Adds (operation payload arrival) old new
    → ((o : Opened) (list : List Operation) → AgreesHba old o list
    → IsHeard heard o (account o list) (operation payload arrival))
    → TurnsAs does (λ o a. ServesSo o a place n fetched act operation) old before new after done (IsHeard heard)
serves_done does place n fetched act operation old before middle new after payload fises bytes moved arrival done heard g d told gives adds says = (
  g.0 ++ d.0,
  operation payload arrival,
  accessed_append (IsAccess old.registers.width does) before middle after g.0 d.0 g.1 d.1,
  told,
  λ o list a. record {
    did = (
      g.0,
      d.0,
      Ok payload,
      refl,
      g.2,
      (
        arrival,
        delivers_effect o (account o list) (act payload) place (moved_by g.0 n) fises bytes d.0 arrival
            (gives o list a) (subst (λ (m : Moved). Delivers place m fises bytes d.0 arrival) g.3 d.2),
        refl,
      ),
    );
    agrees = adds o list a;
    told = says o list a;
  },
)

-- The registers are those that an act leaves.
pub adds_fetched : (old acted new : State) (tag : ℕ) (fis payload : List ℕ) (fises : List Fis)
    (bytes : List ℕ) (arrival : Arrival)
    → ((o : Opened) (list : List Operation) → AgreesHba old o list
    → HasActed acted o (Accept fis payload ∷ acts_of o list))
    → ((o : Opened) (list : List Operation) → AgreesHba old o list
    → IsEffect (effect_after o (account o list) (Accept fis payload)) fises bytes)
    → new ≡ record acted { registers = arrived tag fises arrival (fetching tag old.registers) }
    → Adds (Fetched tag fis payload arrival) old new
adds_fetched old acted new tag fis payload fises bytes arrival has gives e = λ o list a.
    let h = has o list a in
    subst (λ (s : State). AgreesHba s o (Fetched tag fis payload arrival ∷ list)) (sym e)
    (record {
      acted = record { drive = h.drive; count = h.count };
      registers =
          ap (λ (r : Registers). arrived tag fises arrival (fetching tag r)) a.registers
          ∙ ap (λ (fs : List Fis). arrived tag fs arrival (fetching tag (regs_of o list))) (gives o list a).fises;
    })

pub adds_completed : (old acted new : State) (tag : ℕ) (payload : List ℕ) (fises : List Fis)
    (bytes : List ℕ) (arrival : Arrival)
    → ((o : Opened) (list : List Operation) → AgreesHba old o list
    → HasActed acted o (Complete tag payload ∷ acts_of o list))
    → ((o : Opened) (list : List Operation) → AgreesHba old o list
    → IsEffect (effect_after o (account o list) (Complete tag payload)) fises bytes)
    → new ≡ record acted { registers = arrived tag fises arrival old.registers }
    → Adds (Completed tag payload arrival) old new
adds_completed old acted new tag payload fises bytes arrival has gives e = λ o list a.
    let h = has o list a in
    subst (λ (s : State). AgreesHba s o (Completed tag payload arrival ∷ list)) (sym e)
    (record {
      acted = record { drive = h.drive; count = h.count };
      registers =
          ap (λ (r : Registers). arrived tag fises arrival r) a.registers
          ∙ ap (λ (fs : List Fis). arrived tag fs arrival (regs_of o list)) (gives o list a).fises;
    })

-- The header is read.
pub fetch_header : {M : Type 0} (does : M → Access → M → Type 0) (old : State) (before middle : M)
    (new : State) (after : M) (done : Done) (heard : Option Heard) (tag : ℕ)
    (answer : Option (List ℕ)) (read : Result Header Miss) → header_by old.registers.width answer ≡ read
    → IsAccess old.registers.width does before (Asked (header_at old.registers tag) header_size answer) middle
    → TurnsAs does (λ o a. FetchesFrom o a tag read) old middle new after done (IsHeard heard)
    → TurnsAs does (λ o a. Fetches o a tag) old before new after done (IsHeard heard)
fetch_header does old before middle new after done heard tag answer read e answers t =
    turn_behind does (λ o a. Fetches o a tag) (λ o a. FetchesFrom o a tag read) old before middle new after done heard
    (Asked (header_at old.registers tag) header_size answer) answers
    (λ o list a talk operation h. (
      answer,
      talk,
      ap (λ (r : Registers). Asked (header_at r tag) header_size answer ∷ talk) a.registers,
      subst (λ (x : Result Header Miss). FetchesFrom o (account o list) tag x talk operation)
          (sym (ap (λ (r : Registers). header_by r.width answer) (sym a.registers) ∙ e)) h,
    )) t

pub complete_header : {M : Type 0} (does : M → Access → M → Type 0) (old : State) (before middle : M)
    (new : State) (after : M) (done : Done) (heard : Option Heard) (tag n : ℕ)
    (answer : Option (List ℕ)) (read : Result Header Miss) → header_by old.registers.width answer ≡ read
    → IsAccess old.registers.width does before (Asked (header_at old.registers tag) header_size answer) middle
    → TurnsAs does (λ o a. CompletesFrom o a tag n read) old middle new after done (IsHeard heard)
    → TurnsAs does (λ o a. Completes o a tag n) old before new after done (IsHeard heard)
complete_header does old before middle new after done heard tag n answer read e answers t =
    turn_behind does (λ o a. Completes o a tag n) (λ o a. CompletesFrom o a tag n read) old before middle new after done heard
    (Asked (header_at old.registers tag) header_size answer) answers
    (λ o list a talk operation h. (
      answer,
      talk,
      ap (λ (r : Registers). Asked (header_at r tag) header_size answer ∷ talk) a.registers,
      subst (λ (x : Result Header Miss). CompletesFrom o (account o list) tag n x talk operation)
          (sym (ap (λ (r : Registers). header_by r.width answer) (sym a.registers) ∙ e)) h,
    )) t

-- The FIS is read.
pub fetch_fis : {M : Type 0} (does : M → Access → M → Type 0) (old : State) (before middle : M)
    (new : State) (after : M) (done : Done) (heard : Option Heard) (tag : ℕ) (header : Header)
    (fis : Option (List ℕ)) → IsAccess old.registers.width does before (Asked header.table h2d_length fis) middle
    → TurnsAs does (λ o a. FetchesFis o a (place_of a.registers tag header) tag fis) old middle new after done (IsHeard heard)
    → TurnsAs does (λ o a. FetchesFrom o a tag (Ok header)) old before new after done (IsHeard heard)
fetch_fis does old before middle new after done heard tag header fis answers t =
    turn_behind does (λ o a. FetchesFrom o a tag (Ok header))
    (λ o a. FetchesFis o a (place_of a.registers tag header) tag fis) old before middle new after done heard
    (Asked header.table h2d_length fis) answers (λ o list a talk operation h. (fis, talk, refl, h)) t

pub fetch_control : {M : Type 0} (does : M → Access → M → Type 0) (old : State) (before : M)
    (new : State) (after : M) (done : Done) (heard : Option Heard) (tag : ℕ) (header : Header)
    (fis : List ℕ) → is_command fis ≡ false
    → TurnsAs does (λ o a. Controls a tag fis) old before new after done (IsHeard heard)
    → TurnsAs does (λ o a. FetchesFis o a (place_of a.registers tag header) tag (Some fis)) old before new after
    done (IsHeard heard)
fetch_control does old before new after done heard tag header fis e t =
    turn_named does (λ o a. FetchesFis o a (place_of a.registers tag header) tag (Some fis))
    (λ o a. Controls a tag fis) old before new after done heard
    (λ o list a talk operation h.
    subst (λ (b : Bool). FetchesIf b o (account o list) (place_of (regs_of o list) tag header) tag fis talk operation)
    (sym e) h) t

pub fetch_hears : {M : Type 0} (does : M → Access → M → Type 0) (old : State) (before : M)
    (new : State) (after : M) (done : Done) (heard : Option Heard) (tag : ℕ) (header : Header)
    (fis : List ℕ) (place : Place) → is_command fis ≡ true
    → place ≡ place_of old.registers tag header
    → TurnsAs does (λ o a. HearsIf a.registers.in_reset o a place tag fis) old before new after done (IsHeard heard)
    → TurnsAs does (λ o a. FetchesFis o a (place_of a.registers tag header) tag (Some fis)) old before new after
    done (IsHeard heard)
fetch_hears does old before new after done heard tag header fis place e p t =
    turn_named does (λ o a. FetchesFis o a (place_of a.registers tag header) tag (Some fis))
    (λ o a. HearsIf a.registers.in_reset o a place tag fis) old before new after done heard
    (λ o list a talk operation h.
    let same : place ≡ place_of (regs_of o list) tag header =
    p ∙ ap (λ (r : Registers). place_of r tag header) a.registers in
    subst (λ (b : Bool). FetchesIf b o (account o list) (place_of (regs_of o list) tag header) tag fis talk operation) (sym e)
    (subst (λ (x : Place). HearsIf (regs_of o list).in_reset o (account o list) x tag fis talk operation) same h)) t

pub complete_serves : {M : Type 0} (does : M → Access → M → Type 0) (old : State) (before : M)
    (new : State) (after : M) (done : Done) (heard : Option Heard) (tag n : ℕ) (header : Header)
    (place : Place) → place ≡ place_of old.registers tag header
    → TurnsAs does (λ o a. ServesSo o a place n None (Complete tag) (Completed tag)) old before new after done (IsHeard heard)
    → TurnsAs does (λ o a. CompletesFrom o a tag n (Ok header)) old before new after done (IsHeard heard)
complete_serves does old before new after done heard tag n header place p t =
    turn_named does (λ o a. CompletesFrom o a tag n (Ok header))
    (λ o a. ServesSo o a place n None (Complete tag) (Completed tag)) old before new after done heard
    (λ o list a talk operation h.
    let same : place ≡ place_of (regs_of o list) tag header =
    p ∙ ap (λ (r : Registers). place_of r tag header) a.registers in
    subst (λ (x : Place). ServesSo o (account o list) x n None (Complete tag) (Completed tag) talk operation) same h) t

-- What comes with a FIS, by the drive and by what it started from.
pub executes_as : {M : Type 0} (does : M → Access → M → Type 0) (place : Place) (tag : ℕ) (fis : List ℕ)
    (old : State) (before : M) (new : State) (after : M) (done : Done) (heard : Option Heard)
    → TurnsAs does (λ o a. ServesSo o a place (payload_of old.drive.tper.store.config fis) (Some tag) (Accept fis) (Fetched tag fis)) old before new after done (IsHeard heard)
    → TurnsAs does (λ o a. Executes o a place tag fis) old before new after done (IsHeard heard)
executes_as does place tag fis old before new after done heard t =
    turn_named does (λ o a. Executes o a place tag fis)
    (λ o a. ServesSo o a place (payload_of old.drive.tper.store.config fis) (Some tag) (Accept fis) (Fetched tag fis)) old before new after done heard
    (λ o list a talk operation h.
    subst (λ (config : Config). ServesSo o (account o list) place (payload_of config fis) (Some tag) (Accept fis) (Fetched tag fis) talk operation)
    a.acted.drive.tper.store.config h) t

-- What is held is what the list holds.
pub completes : {M : Type 0} (does : M → Access → M → Type 0) (old : State) (before : M)
    (new : State) (after : M) (done : Done) (heard : Option Heard) (tag : ℕ)
    → TurnsAs does (λ o a. Completes o a tag (expected (held_at old.drive.queue tag))) old before new after done (IsHeard heard)
    → TurnsBy does (works.Complete tag) old before new after done (IsHeard heard)
completes does old before new after done heard tag t =
    turn_named does (IsWork (works.Complete tag))
    (λ o a. Completes o a tag (expected (held_at old.drive.queue tag))) old before new after done heard
    (λ o list a talk operation h.
    subst (λ (n : ℕ). Completes o (account o list) tag n talk operation) (ap expected (a.acted.drive.held tag)) h) t

-- The signature is told, wherever it goes.
pub signs : {M : Type 0} (does : M → Access → M → Type 0) (old : State) (before : M) (new : State)
    (after : M) (to : Option ℕ) (fises : List Fis) (missed : Option Miss)
    → fises ≡ signature_fis ∷ [] → to ≡ fises_at old.registers
    → ((talk : List Access) × Accessed (IsAccess old.registers.width does) before talk after × PostsTo to fises talk missed)
    → Adds Signed old new
    → TurnsAs does (λ o a. Signs a) old before new after dones.Posted (IsHeard None)
signs does old before new after to fises missed f e p adds = (
  p.0,
  Signed,
  p.1,
  refl,
  λ o list a. record {
    did = (
      missed,
      subst (λ (x : Option ℕ). PostsTo x (signature_fis ∷ []) p.0 missed)
          (e ∙ ap (λ (r : Registers). fises_at r) a.registers)
          (subst (λ (fs : List Fis). PostsTo to fs p.0 missed) f p.2),
      refl,
    );
    agrees = adds o list a;
    told = refl;
  },
)

-- One read in front.
pub read_first : {M : Type 0} (does : M → Access → M → Type 0) (before middle after : M) (at n : ℕ)
    (answer : Option (List ℕ)) → does before (Asked at n answer) middle
    → OnlyReads does middle after → OnlyReads does before after
read_first does before middle after at n answer a h =
    (Asked at n answer ∷ h.0, h.1, (middle, a, h.2))

pub runs_none : {M : Type 0} (does : M → Access → M → Type 0) (old : State) (before : M)
    → Runs does 0 old before old before
unfolding HasRun
runs_none does old before = ([], λ o list a. (refl, list, a, (refl, refl)))

pub runs_more : {M : Type 0} (does : M → Access → M → Type 0) (n : ℕ) (first : State) (start : M)
    (old : State) (before : M) (new : State) (after : M) (work : Work) (done : Done)
    (Told : Opened → Account → Operation → Type 0) → Runs does n first start old before
    → picked 0 (ready_on old) ≡ Some work → TurnsBy does work old before new after done Told
    → Runs does (n + 1) first start new after
unfolding HasRun
runs_more {M} does n first start old before new after work done Told ran first_ready t = rw add-one (
  ran.0 ++ t.0,
  λ o list a.
      let r = ran.1 o list a in
      let h = t.4 o r.1 r.2 in
      let width = ap (λ (x : Registers). x.width) r.2.registers ∙ width_stays o r.1 in
      let turned : Accessed (IsAccess o.width does) before t.0 after =
      subst (λ (w : AddressWidth). Accessed (IsAccess w does) before t.0 after) width t.2 in (
        accessed_append (IsAccess o.width does) start before after ran.0 t.0 r.0 turned,
        t.1 ∷ r.1,
        h.agrees,
        (
          r.1,
          ran.0,
          t.0,
          work,
          t.1,
          r.3,
          ap (picked 0) (sym (ready_same old o r.1 r.2)) ∙ first_ready,
          h.did,
          refl,
          refl,
        ),
      ),
)

-- It has run some turns, and then memory was read at most.
pub has_stopped : {M : Type 0} (does : M → Access → M → Type 0) (n : ℕ) (first : State) (start : M)
    (old : State) (middle : M) (new : State) (after : M) → Runs does n first start old middle
    → new ≡ old → HasRead does old middle after → HasStopped does first start new after
has_stopped does n first start old middle new after ran e reads = (
  n,
  middle,
  subst (λ (s : State). Runs does n first start s middle) (sym e) ran,
  subst (λ (s : State). HasRead does s middle after) (sym e) reads,
)

-- An outcome that is known.
pub told_as : {M : Type 0} (does : M → Access → M → Type 0)
    (Did : Opened → Account → List Access → Operation → Type 0) (old : State) (before : M)
    (new : State) (after : M) (outcome : Outcome) (done : Done) (heard : Option Heard)
    → outcome ≡ record { done = done; heard = heard }
    → TurnsAs does Did old before new after done (IsHeard heard)
    → TurnsAs does Did old before new after outcome.done (IsHeard outcome.heard)
told_as does Did old before new after outcome done heard e t =
    subst (λ (x : Outcome). TurnsAs does Did old before new after x.done (IsHeard x.heard)) (sym e) t

-- A turn that may fail for want of memory.
pub if_turned : {M E : Type 0} (does : M → Access → M → Type 0)
    (First Next : Opened → Account → List Access → Operation → Type 0)
    (old : State) (before middle : M) (new : State) (after : M) (result : Result Outcome E)
    → ((done : Done) (heard : Option Heard) → TurnsAs does Next old middle new after done (IsHeard heard)
    → TurnsAs does First old before new after done (IsHeard heard))
    → IfOk result (λ r. TurnsAs does Next old middle new after r.done (IsHeard r.heard))
    → IfOk result (λ r. TurnsAs does First old before new after r.done (IsHeard r.heard))
if_turned does First Next old before middle new after (Ok r) f h = f r.done r.heard h
if_turned does First Next old before middle new after (Err e) f h = tt

-- What is asked for data alone is read.
block_reads : (block : Option (List ℕ)) (Rest : List Access → Result (List ℕ) Miss → Type 0)
    (talk : List Access) (brought : Result (List ℕ) Miss)
    → ((later : List Access) (more : Result (List ℕ) Miss) → Rest later more → AreReads later)
    → BringsBlock block Rest talk brought → AreReads talk
block_reads None Rest talk brought f h = subst (λ (t : List Access). AreReads t) (sym h.0) tt
block_reads (Some bytes) Rest talk brought f h = f talk h.0 h.1

entry_reads : (entry : Option (List ℕ)) (left : ℕ) (Rest : ℕ → List Access → Result (List ℕ) Miss → Type 0)
    (talk : List Access) (brought : Result (List ℕ) Miss)
    → ((n : ℕ) (later : List Access) (more : Result (List ℕ) Miss) → Rest n later more → AreReads later)
    → BringsEntry entry left Rest talk brought → AreReads talk
entry_reads None left Rest talk brought f h = subst (λ (t : List Access). AreReads t) (sym h.0) tt
entry_reads (Some entry) left Rest talk brought f h =
    subst (λ (t : List Access). AreReads t) (sym h.2)
    (block_reads h.0 (Rest (left - data_len entry)) h.1 brought (f (left - data_len entry)) h.3)

next_reads : (is_done : Bool) (at left : ℕ) (Rest : ℕ → List Access → Result (List ℕ) Miss → Type 0)
    (talk : List Access) (brought : Result (List ℕ) Miss)
    → ((n : ℕ) (later : List Access) (more : Result (List ℕ) Miss) → Rest n later more → AreReads later)
    → BringsNext is_done at left Rest talk brought → AreReads talk
next_reads true at left Rest talk brought f h = subst (λ (t : List Access). AreReads t) (sym h.0) tt
next_reads false at left Rest talk brought f h =
    subst (λ (t : List Access). AreReads t) (sym h.2) (entry_reads h.0 left Rest h.1 brought f h.3)

pub gathers_reads : (at n left : ℕ) (talk : List Access) (brought : Result (List ℕ) Miss)
    → Gathers at n left talk brought → AreReads talk
gathers_reads at zero left talk brought h = subst (λ (t : List Access). AreReads t) (sym h.0) tt
gathers_reads at (suc n) left talk brought h =
    next_reads (left == 0) at left (Gathers (at + descriptor_size) n) talk brought
    (gathers_reads (at + descriptor_size) n) h

pub brought_reads : {M : Type 0} (does : M → Access → M → Type 0) (place : Place) (n : ℕ)
    (before after : M) (brought : Result (List ℕ) Miss) → Brought does place n before after brought
    → OnlyReads does before after
brought_reads does place n before after brought g =
    (g.0, gathers_reads (descriptors_of place.header) place.header.entries n g.0 brought g.2, g.1)

-- The registers after an act.
pub shown_fetched : (old acted noted new : State) (tag : ℕ) (fises : List Fis) (arrival : Arrival)
    → acted.registers ≡ old.registers
    → noted ≡ record acted { registers = fetching tag acted.registers }
    → new ≡ record noted { registers = arrived tag fises arrival noted.registers }
    → new ≡ record acted { registers = arrived tag fises arrival (fetching tag old.registers) }
shown_fetched old acted noted new tag fises arrival r n s =
    s
    ∙ ap (λ (x : State). let y : State = record x { registers = arrived tag fises arrival x.registers } in y) n
    ∙ ap (λ (x : Registers). let y : State = record acted { registers = arrived tag fises arrival (fetching tag x) } in y) r

pub shown_completed : (old acted new : State) (tag : ℕ) (fises : List Fis) (arrival : Arrival)
    → acted.registers ≡ old.registers
    → new ≡ record acted { registers = arrived tag fises arrival acted.registers }
    → new ≡ record acted { registers = arrived tag fises arrival old.registers }
shown_completed old acted new tag fises arrival r s =
    s ∙ ap (λ (x : Registers). let y : State = record acted { registers = arrived tag fises arrival x } in y) r

-- The work, as it was matched.
pub by_work : {M E : Type 0} (does : M → Access → M → Type 0) (work matched : Work) (old : State)
    (before : M) (new : State) (after : M) (result : Result Outcome E) → work ≡ matched
    → IfOk result (λ r. TurnsBy does matched old before new after r.done (IsHeard r.heard))
    → IfOk result (λ r. TurnsBy does work old before new after r.done (IsHeard r.heard))
by_work does work matched old before new after result e h =
    subst (λ (w : Work). IfOk result (λ r. TurnsBy does w old before new after r.done (IsHeard r.heard))) (sym e) h

-- Nothing more has moved.
pub runs_still : {M : Type 0} (does : M → Access → M → Type 0) (n : ℕ) (first : State) (start : M)
    (old : State) (before : M) (new : State) (after : M) → Runs does n first start old before
    → new ≡ old → after ≡ before → Runs does n first start new after
runs_still {M} does n first start old before new after ran e f =
    subst (λ (m : M). Runs does n first start new m) (sym f)
    (subst (λ (s : State). Runs does n first start s before) (sym e) ran)

-- Nothing of the state is another before it and behind it.
pub turn_between : {M E : Type 0} (does : M → Access → M → Type 0)
    (Did : Opened → Account → List Access → Operation → Type 0) (first old : State) (before : M)
    (new last : State) (after : M) (result : Result Outcome E) → old ≡ first → last ≡ new
    → IfOk result (λ r. TurnsAs does Did old before new after r.done (IsHeard r.heard))
    → IfOk result (λ r. TurnsAs does Did first before last after r.done (IsHeard r.heard))
turn_between does Did first old before new last after result e f h =
    subst (λ (s : State). IfOk result (λ r. TurnsAs does Did s before last after r.done (IsHeard r.heard))) e
    (subst (λ (s : State). IfOk result (λ r. TurnsAs does Did old before s after r.done (IsHeard r.heard))) (sym f) h)

pub turn_kept : {M : Type 0} (does : M → Access → M → Type 0)
    (Did : Opened → Account → List Access → Operation → Type 0) (old : State) (before : M)
    (new last : State) (after : M) (done : Done) (heard : Option Heard) → last ≡ new
    → TurnsAs does Did old before new after done (IsHeard heard)
    → TurnsAs does Did old before last after done (IsHeard heard)
turn_kept does Did old before new last after done heard e t =
    subst (λ (s : State). TurnsAs does Did old before s after done (IsHeard heard)) (sym e) t
