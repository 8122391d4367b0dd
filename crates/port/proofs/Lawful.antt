-- What a lawful list of steps gives a port.
use Rattle.sp_cells.specs.Config.{Config}
use Rattle.std.proofs.Common.{◌≡◌, ℕ, ◌*◌, ◌≤◌, ◌<◌, ◌%◌, nat_lt, Bool, true, false, not, List, [], length, slice_index, if◌then◌else◌, Option, Some, None, refl, sym, ap, ◌∙◌, subst, arith}
use Rattle.std.specs.Prelude.{is_some, option_map, unwrap_or}
use Rattle.std.proofs.lemmas.Bool.{lt-ltb}
use Rattle.audit.specs.declared.reason.Why.{Why}
use Rattle.device_data.specs.declared.log_page.Failure.{Failure}
use Rattle.slots.specs.Layout.{buffer_size}
use Rattle.slots.specs.Table.{is_command}
use Rattle.trusted_cmds.specs.declared.command.Command.{Command}
use Rattle.trusted_cmds.specs.declared.command.Command.TheVariants as commands
use Rattle.history.specs.Answers.{status_of, payload_of, expected, expected_by}
use Rattle.device_data.specs.ErrorLog.{error_log}
use Rattle.history.specs.Events.{Event, HeldCommand}
use Rattle.history.specs.Facts.{facts}
use Rattle.history.specs.History.{Accept as AcceptFis, Complete as CompleteTag}
use Rattle.history.specs.Opening.{Origin}
use Rattle.history.specs.Readers.{failure, held}
use Rattle.history.specs.Tcg.{tcg}
use Rattle.port_history.specs.declared.stages.Put.{Put}
use Rattle.port_history.specs.declared.stages.Stage.TheVariants.{Issued, Accepted}
use Rattle.port_history.specs.declared.step.Step.{Step}
use Rattle.port_history.specs.Refusals.{IsLawful}
use Rattle.port_history.specs.Requests.{command_fis, log_fis, bytes_moved, blocks_moved}
use Rattle.port_history.specs.Stages.{is_queued_command}
use Rattle.port_history.specs.Steps.{Effect, Moment, effect_by, accept_payload, trace, events, stage, failed, payload}
use Rattle.port_history.proofs.Acted.{IsHeldOrFailed, IsHeld, IsFailed, IsExecuted, held_effect, failed_effect, mended_effect, executed_bytes, mends, tcg_for_ports}
use Rattle.port_history.proofs.FedProofs.{accept_fed, expected-brought}
use Rattle.port_history.proofs.Fises.{brought, fis_brings, payload_is}
use Rattle.port_history.proofs.Kept.{Kept, held_by}
use Rattle.port_history.proofs.KeptLaw.{kept, fit_issued, fit_accepted, queued_comes, accepted_moves, found, IsFound, accepted_effect}
use Rattle.port_history.proofs.KeptLaw as laws
use Rattle.port_history.proofs.Tests.{some_is, was_true}
use Rattle.port.specs.State.{named_in}

-- an issued command
pub is_command_fis : (command : Command) (tag : ℕ) → is_command (command_fis command tag) ≡ true
is_command_fis (commands.ReadQueued lba count) tag = refl
is_command_fis (commands.WriteQueued lba count) tag = refl
is_command_fis (commands.ReadDma lba count) tag = refl
is_command_fis (commands.WriteDma lba count) tag = refl
is_command_fis (commands.Send protocol com_id blocks dma) tag = refl
is_command_fis (commands.Receive protocol com_id blocks dma) tag = refl
is_command_fis commands.Identify tag = refl
is_command_fis (commands.ReadLog10 dma) tag = refl
is_command_fis commands.Flush tag = refl
is_command_fis (commands.SetFeatures feature) tag = refl
is_command_fis (commands.ReadLog page dma) tag = refl
is_command_fis (commands.ReadPio lba count) tag = refl
is_command_fis (commands.WritePio lba count) tag = refl
is_command_fis (commands.Verify lba count) tag = refl
is_command_fis (commands.Trim blocks) tag = refl
is_command_fis (commands.Control control) tag = refl

pub issued_moves : (o : Origin) (list : List Step) (tag : ℕ) (put : Put) → IsLawful o list
    → stage (trace o list) tag ≡ Issued put → bytes_moved put.command ≤ buffer_size
issued_moves o list tag put lawful was =
    omega (arith, (fit_issued (trace o list) tag put (kept tcg tcg_for_ports o list lawful) was).sized.most)

pub issued_length : (config : Config) (o : Origin) (list : List Step) (tag : ℕ) (put : Put) → tag < 32
    → IsLawful o list → stage (trace o list) tag ≡ Issued put
    → payload_of config (command_fis put.command tag)
    ≡ length (accept_payload put (payload (trace o list) tag))
issued_length config o list tag put lt lawful was =
    sym (accept_fed config put tag (payload (trace o list) tag) (fit_issued (trace o list) tag put (kept tcg tcg_for_ports o list lawful) was))

brought_small : (c : Command) → blocks_moved c ≤ 256 → brought c ≤ buffer_size
brought_small (commands.ReadQueued lba count) few = omega arith
brought_small (commands.WriteQueued lba count) few = omega (arith, few)
brought_small (commands.ReadDma lba count) few = omega arith
brought_small (commands.WriteDma lba count) few = omega (arith, few)
brought_small (commands.Send protocol com_id blocks dma) few = omega (arith, few)
brought_small (commands.Receive protocol com_id blocks dma) few = omega arith
brought_small commands.Identify few = omega arith
brought_small (commands.ReadLog10 dma) few = omega arith
brought_small commands.Flush few = omega arith
brought_small (commands.SetFeatures feature) few = omega arith
brought_small (commands.ReadLog page dma) few = omega arith
brought_small (commands.ReadPio lba count) few = omega arith
brought_small (commands.WritePio lba count) few = omega (arith, few)
brought_small (commands.Verify lba count) few = omega arith
brought_small (commands.Trim blocks) few = omega arith
brought_small (commands.Control control) few = omega arith

unqueued_small : (b : Bool) (n : ℕ) → n ≤ buffer_size → (if b then 0 else n) ≤ buffer_size
unqueued_small true n h = omega arith
unqueued_small false n h = h

pub issued_small : (config : Config) (o : Origin) (list : List Step) (tag : ℕ) (put : Put) → tag < 32
    → IsLawful o list → stage (trace o list) tag ≡ Issued put
    → payload_of config (command_fis put.command tag) ≤ buffer_size
issued_small config o list tag put lt lawful was =
    let fit = fit_issued (trace o list) tag put (kept tcg tcg_for_ports o list lawful) was in
    omega (
      arith,
      fis_brings config put.command tag,
      payload_is config.profile put.command tag fit.sized,
      unqueued_small (is_queued_command put.command) (brought put.command) (brought_small put.command fit.sized.most),
    )

no_bytes_fit : (e : Effect) (bytes : List ℕ) → bytes ≡ [] → e.bytes ≡ bytes → length e.bytes ≤ buffer_size
no_bytes_fit e bytes none is = omega (arith, ap length (is ∙ none))

held_or_failed_fits : (tag : ℕ) (c : Command) (e : Effect) → IsHeldOrFailed tag c e
    → length e.bytes ≤ buffer_size
held_or_failed_fits tag c e (IsHeld v is) =
    no_bytes_fit e [] refl (ap (λ (x : Effect). x.bytes) is)
held_or_failed_fits tag c e (IsFailed error denied is) =
    no_bytes_fit e [] refl (ap (λ (x : Effect). x.bytes) is)

accepted_fits_by : (o : Origin) (list : List Step) (tag : ℕ) (put : Put) → tag < 32
    → IsLawful o list → failed (trace o list) ≡ None → stage (trace o list) tag ≡ Issued put
    → (queued : Bool) → is_queued_command put.command ≡ queued
    → length (accepted_effect tcg o (trace o list) tag put).bytes ≤ buffer_size
accepted_fits_by o list tag put lt lawful mended was true queued =
    held_or_failed_fits tag put.command (accepted_effect tcg o (trace o list) tag put)
    (queued_comes tcg tcg_for_ports o (trace o list) tag put lt (kept tcg tcg_for_ports o list lawful) mended was queued)
accepted_fits_by o list tag put lt lawful mended was false queued =
    let le : length (accepted_effect tcg o (trace o list) tag put).bytes ≤ bytes_moved put.command =
    executed_bytes o (events (trace o list)) put.command tag (accept_payload put (payload (trace o list) tag)) lt
    (fit_issued (trace o list) tag put (kept tcg tcg_for_ports o list lawful) was).sized queued in
    omega (arith, issued_moves o list tag put lawful was, le)

pub accepted_fits : (o : Origin) (list : List Step) (tag : ℕ) (put : Put) → tag < 32
    → IsLawful o list → failed (trace o list) ≡ None → stage (trace o list) tag ≡ Issued put
    → length (effect_by (facts o (events (trace o list)))
    (AcceptFis (command_fis put.command tag) (accept_payload put (payload (trace o list) tag)))).bytes
    ≤ buffer_size
accepted_fits o list tag put lt lawful mended was =
    accepted_fits_by o list tag put lt lawful mended was (is_queued_command put.command) refl

-- an accepted command
pub accepted_held : (o : Origin) (list : List Step) (tag : ℕ) (put : Put) → IsLawful o list
    → failed (trace o list) ≡ None → stage (trace o list) tag ≡ Accepted put
    → option_map (λ (h : HeldCommand). h.command) (held (events (trace o list)) tag)
    ≡ Some put.command
accepted_held o list tag put lawful mended was =
    (kept tcg tcg_for_ports o list lawful).queue tag
    ∙ ap (λ (f : Option ℕ). held_by f (stage (trace o list) tag)) mended ∙ ap (held_by None) was

completed_brings : (o : Origin) (list : List Step) (tag : ℕ) (put : Put) → IsLawful o list
    → failed (trace o list) ≡ None → stage (trace o list) tag ≡ Accepted put
    → expected (held (events (trace o list)) tag) ≡ brought put.command
completed_brings o list tag put lawful mended was =
    let k = kept tcg tcg_for_ports o list lawful in
    let x = laws.accepted_held (trace o list) tag put k mended was in
    let here = fit_accepted (trace o list) tag put k was in
    ap expected x.1 ∙ ap expected_by x.2 ∙ expected-brought put.command here.queued

pub completed_length : (o : Origin) (list : List Step) (tag : ℕ) (put : Put) → IsLawful o list
    → failed (trace o list) ≡ None → stage (trace o list) tag ≡ Accepted put
    → expected (held (events (trace o list)) tag) ≡ length (payload (trace o list) tag)
completed_length o list tag put lawful mended was =
    completed_brings o list tag put lawful mended was
    ∙ sym (fit_accepted (trace o list) tag put (kept tcg tcg_for_ports o list lawful) was).fit.brings

pub completed_small : (o : Origin) (list : List Step) (tag : ℕ) (put : Put) → IsLawful o list
    → failed (trace o list) ≡ None → stage (trace o list) tag ≡ Accepted put
    → expected (held (events (trace o list)) tag) ≤ buffer_size
completed_small o list tag put lawful mended was =
    omega (
      arith,
      completed_brings o list tag put lawful mended was,
      brought_small put.command (fit_accepted (trace o list) tag put (kept tcg tcg_for_ports o list lawful) was).fit.sized.most,
    )

pub completed_fits : (o : Origin) (list : List Step) (tag : ℕ) (put : Put) → IsLawful o list
    → failed (trace o list) ≡ None → stage (trace o list) tag ≡ Accepted put
    → length (effect_by (facts o (events (trace o list))) (CompleteTag tag (payload (trace o list) tag))).bytes
    ≤ buffer_size
completed_fits o list tag put lawful mended was =
    omega (
      arith,
      (accepted_moves tcg o (trace o list) tag put (kept tcg tcg_for_ports o list lawful) mended was).bytes,
      (fit_accepted (trace o list) tag put (kept tcg tcg_for_ports o list lawful) was).fit.sized.most,
    )

-- what the log page says of a failed port
pub record Recovery (o : Origin) (list : List Step) (e : Effect) : Type 0 where
  pub failure : Failure
  pub failing : Rattle.history.specs.Readers.failure (events (trace o list)) ≡ Some failure
  pub named : named_in e.bytes ≡ failed (trace o list)
  pub status : slice_index e.bytes 2 ≡ status_of (Some failure.error)
  pub error : slice_index e.bytes 3 ≡ failure.error
  pub denied : e.event.denied ≡ None

tag_read : (t : ℕ) → t < 32 → (if nat_lt t 0x80 then Some (t % 32) else None) ≡ Some t
tag_read t lt =
    let below : nat_lt t 0x80 ≡ true = lt-ltb t 0x80 (omega (arith, lt)) in
    let same : t % 32 ≡ t = omega (arith, lt) in
    rw (below, same) refl

named_tag : (f : Failure) (t : ℕ) → f.tag ≡ Some t → t < 32
    → named_in (error_log (Some f)) ≡ Some t
named_tag f t is lt =
    ap (λ (x : Option ℕ). if nat_lt (unwrap_or x 0x80) 0x80 then Some (unwrap_or x 0x80 % 32) else None) is
    ∙ tag_read t lt

pub recovery : (o : Origin) (list : List Step) → IsLawful o list
    → not (is_some (failed (trace o list))) ≡ false
    → Recovery o list (effect_by (facts o (events (trace o list))) (AcceptFis log_fis []))
recovery o list lawful has_failed =
    let ms = trace o list in
    let t = some_is (failed ms) (was_true (is_some (failed ms)) has_failed) in
    let x : IsFound ms t.0 = found ms t.0 (kept tcg tcg_for_ports o list lawful) t.1 in
    subst (Recovery o list) (sym (mends tcg tcg_for_ports o (events ms) x.found x.failing)) (record {
      failure = x.found;
      failing = x.failing;
      named = named_tag x.found t.0 x.names x.low ∙ sym t.1;
      status = refl;
      error = refl;
      denied = refl;
    })
