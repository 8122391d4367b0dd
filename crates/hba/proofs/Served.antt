-- What a transfer that is served leaves in registers and memory.
use Rattle.std.proofs.Common.{◌≡◌, ℕ, ◌+◌, ◌*◌, ◌/◌, ◌^◌, ◌<◌, Bool, true, false, not, List, [], ◌∷◌, map, length, Option, Some, None, refl, ap, sym, subst, ◌∙◌}
use Rattle.std.specs.Prelude.{◌==◌, ◌&&◌, is_some, unwrap_or, Result, Ok, Err, if◌then◌else◌}
use Rattle.fis.specs.H2d.{h2d_at}
use Rattle.fis.specs.Tags.{slot_count}
use Rattle.fis.specs.declared.any.Fis.{Fis}
use Rattle.fis.specs.declared.h2d.RegH2d.{RegH2d}
use Rattle.shadow_mbr.specs.Stored.{sector_size}
use Rattle.locking.specs.declared.range.Op.{Op}
use Rattle.locking.specs.declared.range.Op.TheVariants.{Read, Write}
use Rattle.locking.specs.declared.ranges.Verdict.{Verdict}
use Rattle.locking.specs.declared.ranges.Verdict.TheVariants.{Serve, Shadow, Denied}
use Rattle.trusted_cmds.specs.declared.command.Command.{Command}
use Rattle.trusted_cmds.specs.declared.command.Command.TheVariants.{ReadQueued, WriteQueued, ReadDma, WriteDma, ReadPio, WritePio, Verify}
use Rattle.trusted_cmds.specs.declared.command.CommandError.{CommandError}
use Rattle.history.specs.Answers.{errored, ready, answer_fis, pio_fis, is_holding, served_fises, fises_read, fises_of, completed_fises, completed_data, setup_fis, moved_fis, read_by, block_of, data_read_of}
use Rattle.history.specs.Decisions.{on_drive, ranges_in_force, verdict_on, not_found, unqueued_by, fails, completed, was_read}
use Rattle.history.specs.DenialLaws.{Reaches, read_queued, write_queued, read_dma, write_dma, read_pio, write_pio, verify}
use Rattle.history.specs.Events.{HeldCommand, Deed, Wrote as WroteSectors, Event, OfQueue, CompletedWrite}
use Rattle.history.specs.Facts.{Facts}
use Rattle.history.specs.History.{Act, Accept, Complete, Reset, SoftwareReset, event_by}
use Rattle.history.specs.MethodLaws.{IsLookedAt}
use Rattle.history.specs.Tcg.{tcg, command_read}
use Rattle.history.specs.TransferLaws.{IsPermitted}
use Rattle.history.proofs.MethodProofs.{looked_event, looked_law}
use Rattle.history.proofs.TransferProofs.{service_law}
use Rattle.audit.specs.declared.rules.rule.Rule.TheVariants.{BeyondDrive}
use Rattle.port_history.specs.Steps.{Effect}
use Rattle.device_data.specs.declared.settings.Settings.{Settings}
use Rattle.host_memory.specs.Memory.{Delivers, data_taken}
use Rattle.host_memory.specs.Access.{Access}
use Rattle.host_memory.specs.declared.hba_memory.miss.Miss.{Miss}
use Rattle.host_memory.specs.declared.hba_memory.delivery.Arrival.{Arrival}
use Rattle.host_memory.specs.declared.hba_memory.delivery.Place.{Place}
use Rattle.host_memory.specs.declared.hba_memory.reading.Moved.{Moved}
use Rattle.host_memory.specs.DeliveryLaws.{GivesAll}
use Rattle.host_memory.proofs.Deliveries.{delivered_law}
use Rattle.hba.specs.declared.registers.Registers.{Registers}
use Rattle.hba.specs.Blocks.{block_size, of_last_block}
use Rattle.hba.specs.Showing.{served, moved, fetching}
use Rattle.hba.specs.History.{Opened, Operation, account, acts_of, regs_of, drive_effect, effect_after}
use Rattle.hba.specs.BitLaws.{word_has, one_ends}
use Rattle.hba.specs.Service.{GivesWhole, serving_fises, bytes_served, EndsFetched, EndsHeld, facts_behind, ReadServedLaw, IsWritten, WriteServedLaw, HeldReadLaw, IsWrittenHeld, HeldWriteLaw}
use Rattle.hba.proofs.BitByBit.{served_issued}
use Rattle.hba.proofs.BitsOfWords.{equal, has_without_one}
use Rattle.hba.proofs.Active.{moved_active}

-- FISes and data of a command that is served.
fises_by : (settings : Settings) (failed : Option ℕ) (holds : Bool) (read : Result (Command × Option ℕ) CommandError) (command : Command)
    → failed ≡ None → holds ≡ false → read ≡ Ok (command, None)
    → (if is_some failed then answer_fis true errored (unwrap_or failed 0) ∷ []
    else (if holds then answer_fis false ready 0 ∷ [] else fises_read settings read))
    ≡ served_fises settings command
fises_by settings failed holds read command a b c = rw a (rw b (rw c refl))

data_by : (f : Facts) (failed : Option ℕ) (read : Result (Command × Option ℕ) CommandError) (command : Command)
    → failed ≡ None → read ≡ Ok (command, None)
    → (if is_some failed then [] else data_read_of tcg f read) ≡ block_of tcg f command
data_by f failed read command a c = rw a (rw c refl)

abbrev fis_in : Act → List ℕ
fis_in (Accept fis payload) = fis
fis_in (Complete tag payload) = []
fis_in (Reset kind) = []
fis_in SoftwareReset = []

abbrev payload_in : Act → List ℕ
payload_in (Accept fis payload) = payload
payload_in (Complete tag payload) = []
payload_in (Reset kind) = []
payload_in SoftwareReset = []

reads_so : (f : Facts) (fis payload : List ℕ) (command : Command) (looked : IsLookedAt f (Accept fis payload) command None)
    → command_read f.config (h2d_at fis) ≡ Ok (command, None)
reads_so f fis payload command looked =
    ap (λ (xs : List ℕ). command_read f.config (h2d_at xs)) (ap fis_in looked.accepts) ∙ looked.reads

-- The deed of a transfer, by its verdict.
abbrev by_verdict : Deed → Bool → Verdict → Event
by_verdict deed drive v = if drive then unqueued_by deed v else fails not_found None (Some BeyondDrive)

none_held : (deed : Deed) (v : Verdict) → is_holding deed ≡ false → is_holding (unqueued_by deed v).deed ≡ false
none_held deed Serve e = e
none_held deed Shadow e = e
none_held deed (Denied why) e = refl

deed_so : (deed : Deed) (v : Verdict) → (unqueued_by deed v).failed ≡ None → (unqueued_by deed v).deed ≡ deed
deed_so deed Serve e = refl
deed_so deed Shadow e = refl
deed_so deed (Denied why) e = absurd (clash e)
  where
    clash : {x : ℕ} → Some x ≡ None → ⊥
    clash g = cc

-- Memory.
gives_so : (effect : Effect) (fises : List Fis) (bytes : List ℕ) → effect.fises ≡ fises → effect.bytes ≡ bytes
    → ((n : ℕ) → data_taken fises n ≡ n) → GivesWhole effect fises bytes
gives_so effect fises bytes f b t place brought talk arrival d m s =
    let one : Delivers place brought fises effect.bytes talk arrival =
    subst (λ (fs : List Fis). Delivers place brought fs effect.bytes talk arrival) f d in
    let two : Delivers place brought fises bytes talk arrival =
    subst (λ (xs : List ℕ). Delivers place brought fises xs talk arrival) b one in
    subst (λ (n : ℕ). GivesAll place (n + length bytes) fises bytes talk) (t brought.len)
    (delivered_law place brought fises bytes talk arrival two m s)

-- Registers.
issued_clear : (missed : Option Miss) (tag : ℕ) (fises told : List Fis) (regs : Registers) → missed ≡ None
    → fises ≡ told → one_ends told ≡ true → tag < slot_count
    → word_has (served tag fises missed regs).port.issued tag ≡ false
issued_clear missed tag fises told regs m f ends t =
    rw m (rw f (served_issued None tag tag told regs t t
    ∙ ap (λ (b : Bool). not (b && tag == tag) && word_has regs.port.issued tag) ends
    ∙ ap (λ (b : Bool). not b && word_has regs.port.issued tag) (equal tag tag refl)))

active_clear : (missed : Option Miss) (tag count : ℕ) (to_host : Bool) (fises : List Fis) (regs : Registers) → missed ≡ None
    → fises ≡ setup_fis to_host tag count ∷ moved_fis tag ∷ [] → tag < slot_count
    → word_has (served tag fises missed regs).port.active tag ≡ false
active_clear missed tag count to_host fises regs m f t =
    rw m (rw f (ap (λ (w : ℕ). word_has w tag) (moved_active tag to_host count regs.port)
    ∙ has_without_one regs.port.active tag tag t t
    ∙ ap (λ (b : Bool). not b && word_has regs.port.active tag) (equal tag tag refl)))

-- A fetched command that is served.
answered_so : (o : Opened) (before : List Operation) (tag : ℕ) (fis payload : List ℕ) (command : Command) (fises : List Fis) (bytes : List ℕ)
    → command_read (facts_behind o before).config (h2d_at fis) ≡ Ok (command, None)
    → (event_by (facts_behind o before) (Accept fis payload)).failed ≡ None
    → is_holding (event_by (facts_behind o before) (Accept fis payload)).deed ≡ false
    → served_fises (facts_behind o before).settings command ≡ fises
    → block_of tcg (facts_behind o before) command ≡ bytes
    → ((n m : ℕ) → data_taken (map (of_last_block n) fises) m ≡ m)
    → ((n : ℕ) → one_ends (map (of_last_block n) fises) ≡ true)
    → EndsFetched o before tag fis payload fises bytes
answered_so o before tag fis payload command fises bytes read failed holds told given takes ends =
    let f = facts_behind o before in
    let event = event_by f (Accept fis payload) in
    let blocks : List ℕ → ℕ = λ (xs : List ℕ). (length payload + length xs) / block_size in
    let brings : (drive_effect o (account o before) (Accept fis payload)).bytes ≡ bytes =
    data_by f event.failed (command_read f.config (h2d_at fis)) command failed read ∙ given in
    let shows : (effect_after o (account o before) (Accept fis payload)).fises ≡ map (of_last_block (blocks bytes)) fises =
    ap (map (of_last_block (blocks (drive_effect o (account o before) (Accept fis payload)).bytes)))
    (fises_by f.settings event.failed (is_holding event.deed) (command_read f.config (h2d_at fis)) command failed holds read ∙ told)
    ∙ ap (λ (xs : List ℕ). map (of_last_block (blocks xs)) fises) brings in
    record {
      gives = gives_so (effect_after o (account o before) (Accept fis payload)) (map (of_last_block (blocks bytes)) fises) bytes shows
          brings (takes (blocks bytes));
      clear = λ arrival m t.
          issued_clear arrival.missed tag (effect_after o (account o before) (Accept fis payload)).fises
          (map (of_last_block (blocks bytes)) fises) (moved arrival (fetching tag (regs_of o before))) m shows (ends (blocks bytes)) t;
    }

-- The commands by which data are reached, by which way they go.
no_tag : {n : ℕ} → Some n ≡ None → ⊥
no_tag h = cc

no_read : Write ≡ Read → ⊥
no_read h = cc

no_write : Read ≡ Write → ⊥
no_write h = cc

by_reader : (P : Command → Type 0) (command : Command) (slot : Option ℕ) (op : Op) (lba count : ℕ)
    → Reaches command slot op lba count → slot ≡ None → op ≡ Read
    → P (ReadDma lba count) → P (ReadPio lba count) → P (Verify lba count) → P command
by_reader P command slot op lba count (read_queued {lba = l} {count = n} {tag = t}) none is dma pio verified = absurd (no_tag none)
by_reader P command slot op lba count (write_queued {lba = l} {count = n} {tag = t}) none is dma pio verified = absurd (no_tag none)
by_reader P command slot op lba count (read_dma {lba = l} {count = n}) none is dma pio verified = dma
by_reader P command slot op lba count (write_dma {lba = l} {count = n}) none is dma pio verified = absurd (no_read is)
by_reader P command slot op lba count (read_pio {lba = l} {count = n}) none is dma pio verified = pio
by_reader P command slot op lba count (write_pio {lba = l} {count = n}) none is dma pio verified = absurd (no_read is)
by_reader P command slot op lba count (verify {lba = l} {count = n}) none is dma pio verified = verified

by_writer : (P : Command → Type 0) (command : Command) (slot : Option ℕ) (op : Op) (lba count : ℕ)
    → Reaches command slot op lba count → slot ≡ None → op ≡ Write
    → P (WriteDma lba count) → P (WritePio lba count) → P command
by_writer P command slot op lba count (read_queued {lba = l} {count = n} {tag = t}) none is dma pio = absurd (no_tag none)
by_writer P command slot op lba count (write_queued {lba = l} {count = n} {tag = t}) none is dma pio = absurd (no_tag none)
by_writer P command slot op lba count (read_dma {lba = l} {count = n}) none is dma pio = absurd (no_write is)
by_writer P command slot op lba count (write_dma {lba = l} {count = n}) none is dma pio = dma
by_writer P command slot op lba count (read_pio {lba = l} {count = n}) none is dma pio = absurd (no_write is)
by_writer P command slot op lba count (write_pio {lba = l} {count = n}) none is dma pio = pio
by_writer P command slot op lba count (verify {lba = l} {count = n}) none is dma pio = absurd (no_write is)

-- Reads and verifications.
read_so : (o : Opened) (before : List Operation) (tag : ℕ) (fis payload : List ℕ) (command : Command) (lba count : ℕ) (fises : List Fis)
    (bytes : List ℕ) → Reaches command None Read lba count
    → ((h : RegH2d) (brought : List ℕ) → looked_event tcg (facts_behind o before) h brought command None
    ≡ by_verdict was_read (on_drive (facts_behind o before) lba count) (verdict_on (facts_behind o before) Read lba count))
    → served_fises (facts_behind o before).settings command ≡ fises
    → block_of tcg (facts_behind o before) command ≡ bytes
    → ((n m : ℕ) → data_taken (map (of_last_block n) fises) m ≡ m)
    → ((n : ℕ) → one_ends (map (of_last_block n) fises) ≡ true)
    → IsLookedAt (facts_behind o before) (Accept fis payload) command None → on_drive (facts_behind o before) lba count ≡ true
    → IsPermitted (ranges_in_force (facts_behind o before)) Read lba count
    → EndsFetched o before tag fis payload fises bytes
read_so o before tag fis payload command lba count fises bytes reaches same told given takes ends looked on permitted =
    let f = facts_behind o before in
    let v = verdict_on f Read lba count in
    answered_so o before tag fis payload command fises bytes (reads_so f fis payload command looked)
    ((service_law tcg f (Accept fis payload) command None Read lba count looked reaches tt on).served.1 permitted)
    (ap (λ (e : Event). is_holding e.deed) (looked_law tcg f (Accept fis payload) command None looked ∙ same (h2d_at looked.fis) looked.payload)
    ∙ ap (λ (b : Bool). is_holding (by_verdict was_read b v).deed) on ∙ none_held was_read v refl)
    told given takes ends

pub read_law : ReadServedLaw
read_law o before tag fis payload command lba count looked reaches on permitted =
    let f = facts_behind o before in
    let bytes : List ℕ = read_by f lba count (verdict_on f Read lba count) in
    by_reader
    (λ c. IsLookedAt f (Accept fis payload) c None → EndsFetched o before tag fis payload (serving_fises c) (bytes_served f c))
    command None Read lba count reaches refl refl
    (λ its. read_so o before tag fis payload (ReadDma lba count) lba count (answer_fis true ready 0 ∷ []) bytes read_dma
    (λ h brought. refl) refl refl (λ n m. refl) (λ n. refl) its on permitted)
    (λ its. read_so o before tag fis payload (ReadPio lba count) lba count (pio_fis true ready ∷ []) bytes read_pio
    (λ h brought. refl) refl refl (λ n m. refl) (λ n. refl) its on permitted)
    (λ its. read_so o before tag fis payload (Verify lba count) lba count (answer_fis true ready 0 ∷ []) [] verify
    (λ h brought. refl) refl refl (λ n m. refl) (λ n. refl) its on permitted)
    looked

-- Writes.
write_so : (o : Opened) (before : List Operation) (tag : ℕ) (fis payload : List ℕ) (command : Command) (lba count : ℕ)
    → Reaches command None Write lba count
    → ((h : RegH2d) (brought : List ℕ) → looked_event tcg (facts_behind o before) h brought command None
    ≡ by_verdict (WroteSectors lba brought) (on_drive (facts_behind o before) lba count) (verdict_on (facts_behind o before) Write lba count))
    → served_fises (facts_behind o before).settings command ≡ serving_fises command
    → block_of tcg (facts_behind o before) command ≡ []
    → ((n m : ℕ) → data_taken (map (of_last_block n) (serving_fises command)) m ≡ m)
    → ((n : ℕ) → one_ends (map (of_last_block n) (serving_fises command)) ≡ true)
    → IsLookedAt (facts_behind o before) (Accept fis payload) command None → on_drive (facts_behind o before) lba count ≡ true
    → IsPermitted (ranges_in_force (facts_behind o before)) Write lba count
    → IsWritten o before tag fis payload command lba
write_so o before tag fis payload command lba count reaches same told given takes ends looked on permitted =
    let f = facts_behind o before in
    let v = verdict_on f Write lba count in
    let deed : Deed = WroteSectors lba payload in
    let failed = (service_law tcg f (Accept fis payload) command None Write lba count looked reaches tt on).served.1 permitted in
    let event : event_by f (Accept fis payload) ≡ unqueued_by deed v =
    looked_law tcg f (Accept fis payload) command None looked ∙ same (h2d_at looked.fis) looked.payload
    ∙ ap (λ (xs : List ℕ). by_verdict (WroteSectors lba xs) (on_drive f lba count) v) (sym (ap payload_in looked.accepts))
    ∙ ap (λ (b : Bool). by_verdict deed b v) on in
    record {
      answered = answered_so o before tag fis payload command (serving_fises command) [] (reads_so f fis payload command looked)
          failed (ap (λ (e : Event). is_holding e.deed) event ∙ none_held deed v refl) told given takes ends;
      written = ap (λ (e : Event). e.deed) event ∙ deed_so deed v (sym (ap (λ (e : Event). e.failed) event) ∙ failed);
    }

pub write_law : WriteServedLaw
write_law o before tag fis payload command lba count looked reaches on permitted =
    let f = facts_behind o before in
    by_writer
    (λ c. IsLookedAt f (Accept fis payload) c None → IsWritten o before tag fis payload c lba)
    command None Write lba count reaches refl refl
    (λ its. write_so o before tag fis payload (WriteDma lba count) lba count write_dma
    (λ h brought. refl) refl refl (λ n m. refl) (λ n. refl) its on permitted)
    (λ its. write_so o before tag fis payload (WritePio lba count) lba count write_pio
    (λ h brought. refl) refl refl (λ n m. refl) (λ n. refl) its on permitted)
    looked

-- A held command.
completed_so : (o : Opened) (before : List Operation) (tag : ℕ) (payload : List ℕ) (h : HeldCommand) (to_host : Bool)
    (count : ℕ) (bytes : List ℕ) → (facts_behind o before).held tag ≡ Some h
    → completed_fises tag (Some h) ≡ setup_fis to_host tag (sector_size * count) ∷ moved_fis tag ∷ []
    → completed_data (facts_behind o before) (Some h) ≡ bytes
    → EndsHeld o before tag payload (setup_fis to_host tag (sector_size * count)) bytes
completed_so o before tag payload h to_host count bytes held told given =
    let f = facts_behind o before in
    let fises : (effect_after o (account o before) (Complete tag payload)).fises
    ≡ setup_fis to_host tag (sector_size * count) ∷ moved_fis tag ∷ [] =
    ap (completed_fises tag) held ∙ told in
    record {
      gives = gives_so (effect_after o (account o before) (Complete tag payload))
          (setup_fis to_host tag (sector_size * count) ∷ moved_fis tag ∷ []) bytes fises
          (ap (completed_data f) held ∙ given) (λ m. refl);
      clear = λ arrival m t.
          active_clear arrival.missed tag (sector_size * count) to_host
          (effect_after o (account o before) (Complete tag payload)).fises (moved arrival (regs_of o before)) m fises t;
    }

pub held_read_law : HeldReadLaw
held_read_law o before tag payload h lba count held is =
    completed_so o before tag payload h true count (read_by (facts_behind o before) lba count h.verdict) held
    (ap (fises_of tag) is)
    (ap (λ (c : Command). completed_data (facts_behind o before) (Some (record { command = c; verdict = h.verdict }))) is)

pub held_write_law : HeldWriteLaw
held_write_law o before tag payload h lba count held is = record {
  completed = completed_so o before tag payload h false count [] held (ap (fises_of tag) is)
      (ap (λ (c : Command). completed_data (facts_behind o before) (Some (record { command = c; verdict = h.verdict }))) is);
  written = ap (λ (e : Event). e.deed) (ap (completed tag payload) held
      ∙ ap (λ (c : Command). completed tag payload (Some (record { command = c; verdict = h.verdict }))) is);
}
