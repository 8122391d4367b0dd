-- The acts of a lawful list bring the bytes that their commands want, and their events are those of
-- the list.
use Rattle.sp_cells.specs.Config.{Config}
use Rattle.std.proofs.Common.{◌≡◌, ◌∙◌, ℕ, Bool, true, false, List, [], ◌∷◌, length, if◌then◌else◌, Option, Some, None, refl, sym, ap, subst}
use Rattle.std.specs.Prelude.{option_map}
use Rattle.trusted_cmds.specs.declared.command.Command.{Command}
use Rattle.trusted_cmds.specs.declared.command.Command.TheVariants.{ReadQueued, WriteQueued, ReadDma, WriteDma, Send, Receive, Identify, ReadLog10, Flush, SetFeatures, ReadLog, ReadPio, WritePio, Verify, Trim, Control}
use Rattle.history.specs.Opening.{Origin}
use Rattle.history.specs.Events.{Event}
use Rattle.history.specs.Facts.{Facts, facts}
use Rattle.history.specs.Answers.{payload_of, expected, expected_by}
use Rattle.history.specs.Bounds.{IsFed, AreFed}
use Rattle.history.specs.History.{Act, Accept as AcceptFis, Complete as CompleteTag, Reset as ResetDrive, SoftwareReset, event_by, log}
use Rattle.history.specs.Tcg.{tcg}
use Rattle.port_history.proofs.Acted.{tcg_for_ports}
use Rattle.port_history.specs.declared.stages.Put.{Put}
use Rattle.port_history.specs.declared.step.Step.{Step}
use Rattle.port_history.specs.declared.step.Step.TheVariants as steps
use Rattle.port_history.specs.Requests.{command_fis}
use Rattle.port_history.specs.Stages.{is_queued_command, put_at}
use Rattle.port_history.specs.Steps.{effect_by, trace, events, event_before, stage, failed, payload, acceptance, accept_payload, act_of, act_before, acts}
use Rattle.port_history.specs.Refusals.{IsLawful}
use Rattle.port_history.specs.Laws.{FedLaw}
use Rattle.port_history.proofs.Fises.{any_profile, fis_brings, brought, payload_is}
use Rattle.port_history.proofs.Tests.{none_is, none_holds, tests_of, issued_is, accepted_is}
use Rattle.port_history.proofs.Kept.{IsFit}
use Rattle.port_history.proofs.KeptLaw.{kept, fit_issued, fit_accepted, accepted_held}

effect_event : (f : Facts) (act : Act) → (effect_by f act).event ≡ event_by f act
effect_event f (AcceptFis fis bytes) = refl
effect_event f (CompleteTag tag bytes) = refl
effect_event f (ResetDrive kind) = refl
effect_event f SoftwareReset = refl

more_log : (o : Origin) (done : List Act) (past : List Event) (x : Option Act) → log o done ≡ past
    → log o (act_before x done)
    ≡ event_before (option_map (effect_by (facts o past)) x) past
more_log o done past None same = same
more_log o done past (Some act) same =
    ap (λ (es : List Event). event_by (facts o es) act ∷ es) same
    ∙ ap (λ (e : Event). e ∷ past) (sym (effect_event (facts o past) act))

-- The events of the moments are those of the acts.
pub log_is : (o : Origin) (list : List Step) → log o (acts o list) ≡ events (trace o list)
log_is o [] = refl
log_is o (step ∷ before) =
    more_log o (acts o before) (events (trace o before)) (act_of (trace o before) step)
    (log_is o before)

abbrev pub IsFedBy : Facts → Option Act → Type 0
IsFedBy f None = Unit {0}
IsFedBy f (Some act) = IsFed f act

more_fed : (o : Origin) (done : List Act) (x : Option Act) → IsFedBy (facts o (log o done)) x
    → AreFed o done → AreFed o (act_before x done)
more_fed o done None fed all = all
more_fed o done (Some act) fed all = (fed, all)

-- what comes with the FIS of a command
length-brought : (b : Bool) (command : Command) (bytes : List ℕ) → length bytes ≡ brought command
    → length (if b then [] else bytes) ≡ (if b then 0 else brought command)
length-brought true command bytes e = refl
length-brought false command bytes e = e

pub accept_fed : (config : Config) (put : Put) (u : ℕ) (bytes : List ℕ) → IsFit put.command bytes
    → length (accept_payload put bytes) ≡ payload_of config (command_fis put.command u)
accept_fed config put u bytes fit =
    length-brought (is_queued_command put.command) put.command bytes fit.brings
    ∙ sym (fis_brings config put.command u ∙ payload_is config.profile put.command u fit.sized)

-- what comes with the completion of one
pub expected-brought : (command : Command) → is_queued_command command ≡ true
    → expected_by command ≡ brought command
expected-brought (ReadQueued lba count) queued = refl
expected-brought (WriteQueued lba count) queued = refl
expected-brought (ReadDma lba count) queued = absurd cc
expected-brought (WriteDma lba count) queued = absurd cc
expected-brought (Send protocol com_id blocks dma) queued = absurd cc
expected-brought (Receive protocol com_id blocks dma) queued = absurd cc
expected-brought Identify queued = absurd cc
expected-brought (ReadLog10 dma) queued = absurd cc
expected-brought Flush queued = absurd cc
expected-brought (SetFeatures feature) queued = absurd cc
expected-brought (ReadLog page dma) queued = absurd cc
expected-brought (ReadPio lba count) queued = absurd cc
expected-brought (WritePio lba count) queued = absurd cc
expected-brought (Verify lba count) queued = absurd cc
expected-brought (Trim blocks) queued = absurd cc
expected-brought (Control control) queued = absurd cc

-- The act of a lawful step brings what its command wants.
pub step_fed : (o : Origin) (step : Step) (before : List Step) → IsLawful o (step ∷ before)
    → IsFedBy (facts o (events (trace o before))) (act_of (trace o before) step)
step_fed o (steps.Put client u request) before h = tt
step_fed o (steps.Issue u) before h = tt
step_fed o (steps.Accept u) before h =
    let ms = trace o before in
    let t = none_holds (tests_of ms (steps.Accept u)) h.1 in
    let p = issued_is (stage ms u) t.1.1.0 in
    subst (λ (x : Option Put). IsFedBy (facts o (events ms)) (acceptance u x (payload ms u)))
    (sym (ap put_at p.1))
    (accept_fed o.tables.config p.0 u (payload ms u) (fit_issued ms u p.0 (kept tcg tcg_for_ports o before h.2) p.1))
step_fed o (steps.Complete u) before h =
    let ms = trace o before in
    let t = none_holds (tests_of ms (steps.Complete u)) h.1 in
    let p = accepted_is (stage ms u) t.1.1.0 in
    let k = kept tcg tcg_for_ports o before h.2 in
    let x = accepted_held ms u p.0 k (none_is (failed ms) t.1.0) p.1 in
    let here = fit_accepted ms u p.0 k p.1 in
    here.fit.brings ∙ sym (expected-brought p.0.command here.queued)
    ∙ sym (ap expected_by x.2) ∙ sym (ap expected x.1)
step_fed o steps.Recover before h =
    sym (fis_brings o.tables.config (ReadLog10 true) 0
    ∙ any_profile o.tables.config.profile (ReadLog10 true) 0 refl)
step_fed o (steps.Reset client kind) before h = tt
step_fed o (steps.Take client u) before h = tt

pub fed_law : FedLaw
fed_law o [] h = tt
fed_law o (step ∷ before) h =
    more_fed o (acts o before) (act_of (trace o before) step)
    (subst (λ (es : List Event). IsFedBy (facts o es) (act_of (trace o before) step))
    (sym (log_is o before)) (step_fed o step before h))
    (fed_law o before h.2)
