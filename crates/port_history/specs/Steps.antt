-- Lists of steps of a port, the newest first, each with what its act did on the drive and gave; and
-- what is read off them.
use Rattle.std.specs.Prelude.{ℕ, ◌+◌, ◌&&◌, ◌==◌, Bool, false, ◌∷◌, ◌++◌, List, [], length, reverse, is_some, option_map, unwrap_or, Option, Some, None, if◌then◌else◌}
use Rattle.audit.specs.declared.reason.AuditLine.{AuditLine}
use Rattle.audit.specs.declared.rules.rule.Rule.{Rule}
use Rattle.device_data.specs.declared.log_page.Failure.{Failure}
use Rattle.fis.specs.declared.any.Fis.{Fis}
use Rattle.history.specs.Resets.{reset_kind_number}
use Rattle.history.specs.Answers.{status_of, accepted_fises_of, accepted_data_of, completed_fises, completed_data}
use Rattle.history.specs.Items.{Items}
use Rattle.history.specs.Tcg.{tcg}
use Rattle.history.specs.Audit.{line_for}
use Rattle.history.specs.Events.{Event}
use Rattle.history.specs.Facts.{Facts, facts}
use Rattle.history.specs.History.{Act, Accept as AcceptFis, Complete as CompleteTag, Reset as ResetDrive, SoftwareReset, event_in}
use Rattle.history.specs.Opening.{Origin}
use Rattle.history.specs.Readers.{failure}
use Rattle.port_history.specs.declared.request.Answer.{Answer}
use Rattle.port_history.specs.declared.request.Answer.TheVariants.{Done, Failed as FailedWith, Reset as WasReset}
use Rattle.port_history.specs.declared.request.Request.{Request}
use Rattle.port_history.specs.declared.stages.Put.{Put}
use Rattle.port_history.specs.declared.stages.Stage.{Stage}
use Rattle.port_history.specs.declared.stages.Stage.TheVariants.{Free, Prepared, Issued, Answered}
use Rattle.port_history.specs.declared.step.Entry.{Entry}
use Rattle.port_history.specs.declared.step.Step.{Step}
use Rattle.port_history.specs.declared.step.Step.TheVariants as steps
use Rattle.port_history.specs.Requests.{request_command, request_payload, command_fis, log_fis, no_bytes}
use Rattle.port_history.specs.Stages.{is_queued_command, is_queued_put, to, put_at, accepted_stage, recovered, stage_after_reset, is_pending}

-- What an act does on the drive, and what it gives: its event, its FISes in their order, and its
-- data.
pub record Effect : Type 0 where
  pub event : Event
  pub fises : List Fis
  pub bytes : List ℕ

-- A step, the Put of the command that it serves, and the effect of its act.
pub record Moment : Type 0 where
  pub step : Step
  pub served : Option Put
  pub effect : Option Effect

abbrev pub event_before : Option Effect → List Event → List Event
event_before None past = past
event_before (Some e) past = e.event ∷ past

-- The events of the acts.
abbrev pub events : List Moment → List Event
events [] = []
events (m ∷ before) = event_before m.effect (events before)

abbrev pub step_fises : Option Effect → List Fis
step_fises None = []
step_fises (Some e) = e.fises

-- The FISes that the drive sent, the newest first.
abbrev pub sent_fises : List Moment → List Fis
sent_fises [] = []
sent_fises (m ∷ before) = reverse (step_fises m.effect) ++ sent_fises before

-- The command failed, by its event.
abbrev pub has_failed : Option Effect → Bool
has_failed None = false
has_failed (Some e) = is_some e.event.failed

-- What a step says of the port's failure: a queued command that the drive failed, by its tag; a
-- recovery or a reset ends it.
abbrev pub failing_by : Option Put → Option Effect → Step → Option (Option ℕ)
failing_by served effect (steps.Accept slot) =
    if is_queued_put served && has_failed effect then Some (Some slot) else None
failing_by served effect steps.Recover = Some None
failing_by served effect (steps.Reset client kind) = Some None
failing_by served effect _ = None

-- The tag whose queued command failed, while the port is failed.
abbrev pub failed : List Moment → Option ℕ
failed [] = None
failed (m ∷ before) = unwrap_or (failing_by m.served m.effect m.step) (failed before)

abbrev pub is_tag : ℕ → Option ℕ → Bool
is_tag tag None = false
is_tag tag (Some failed_tag) = failed_tag == tag

abbrev pub put_of : ℕ → ℕ → Request → Put
put_of number client request =
    record { client = client; number = number; command = request_command request }

-- The stage of a tag after a step, by the step's number, the tag that had failed, and the stage
-- before.
abbrev pub stage_after : ℕ → Option ℕ → ℕ → Step → Stage → Stage
stage_after number failed tag (steps.Put client slot request) stage =
    if slot == tag then Prepared (put_of number client request) else stage
stage_after number failed tag (steps.Issue slot) stage =
    if slot == tag then to Issued stage else stage
stage_after number failed tag (steps.Accept slot) stage =
    if slot == tag then to accepted_stage stage else stage
stage_after number failed tag (steps.Complete slot) stage =
    if slot == tag then to Answered stage else stage
stage_after number failed tag steps.Recover stage = recovered (is_tag tag failed) stage
stage_after number failed tag (steps.Reset client kind) stage = stage_after_reset stage
stage_after number failed tag (steps.Take client slot) stage = if slot == tag then Free else stage

-- The stage of a tag, with its latest Put.
abbrev pub stage : List Moment → ℕ → Stage
stage [] tag = Free
stage (m ∷ before) tag =
    stage_after (1 + length before) (failed before) tag m.step (stage before tag)

-- The data of a tag's latest Put.
abbrev pub payload_by : ℕ → Step → Option (List ℕ)
payload_by tag (steps.Put client slot request) =
    if slot == tag then Some (request_payload request) else None
payload_by tag (steps.Issue slot) = None
payload_by tag (steps.Accept slot) = None
payload_by tag (steps.Complete slot) = None
payload_by tag steps.Recover = None
payload_by tag (steps.Reset client kind) = None
payload_by tag (steps.Take client slot) = None

abbrev pub payload : List Moment → ℕ → List ℕ
payload [] tag = []
payload (m ∷ before) tag = unwrap_or (payload_by tag m.step) (payload before tag)

-- The Put whose command a step of the engine serves.
abbrev pub served_by : (ℕ → Stage) → Step → Option Put
served_by stages (steps.Put client slot request) = None
served_by stages (steps.Issue slot) = put_at (stages slot)
served_by stages (steps.Accept slot) = put_at (stages slot)
served_by stages (steps.Complete slot) = put_at (stages slot)
served_by stages steps.Recover = None
served_by stages (steps.Reset client kind) = None
served_by stages (steps.Take client slot) = None

-- A queued command brings its data with its completion, any other with its FIS.
abbrev pub accept_payload : Put → List ℕ → List ℕ
accept_payload put bytes = if is_queued_command put.command then [] else bytes

abbrev pub acceptance : ℕ → Option Put → List ℕ → Option Act
acceptance slot None bytes = None
acceptance slot (Some put) bytes =
    Some (AcceptFis (command_fis put.command slot) (accept_payload put bytes))

-- The act of a step on the drive: by its Put, and the data of the tag's latest Put.
abbrev pub act_by : Option Put → (ℕ → List ℕ) → Step → Option Act
act_by served payloads (steps.Put client slot request) = None
act_by served payloads (steps.Issue slot) = None
act_by served payloads (steps.Accept slot) = acceptance slot served (payloads slot)
act_by served payloads (steps.Complete slot) = Some (CompleteTag slot (payloads slot))
act_by served payloads steps.Recover = Some (AcceptFis log_fis [])
act_by served payloads (steps.Reset client kind) = Some (ResetDrive (reset_kind_number kind))
act_by served payloads (steps.Take client slot) = None

abbrev pub act_of : List Moment → Step → Option Act
act_of before step = act_by (served_by (stage before) step) (payload before) step

-- What an act gives, by the facts before it, whatever its items do.
abbrev pub effect_in : Items → Facts → Act → Effect
effect_in items f (AcceptFis fis bytes) = record {
  event = event_in items f (AcceptFis fis bytes);
  fises = accepted_fises_of items f fis (event_in items f (AcceptFis fis bytes));
  bytes = accepted_data_of items f fis (event_in items f (AcceptFis fis bytes));
}
effect_in items f (CompleteTag tag bytes) = record {
  event = event_in items f (CompleteTag tag bytes);
  fises = completed_fises tag (f.held tag);
  bytes = completed_data f (f.held tag);
}
effect_in items f (ResetDrive kind) = record {
  event = event_in items f (ResetDrive kind);
  fises = [];
  bytes = [];
}
effect_in items f SoftwareReset = record {
  event = event_in items f SoftwareReset;
  fises = [];
  bytes = [];
}

-- What a step did after those before it.
abbrev pub moment_of : Items → Origin → List Moment → Step → Moment
moment_of items o before step = record {
  step = step;
  served = served_by (stage before) step;
  effect = option_map (effect_in items (facts o (events before))) (act_of before step);
}

abbrev pub trace_of : Items → Origin → List Step → List Moment
trace_of items o [] = []
trace_of items o (step ∷ before) =
    moment_of items o (trace_of items o before) step ∷ trace_of items o before

-- By the items of this drive.

abbrev pub effect_by : Facts → Act → Effect
effect_by = effect_in tcg

abbrev pub moment : Origin → List Moment → Step → Moment
moment = moment_of tcg

abbrev pub trace : Origin → List Step → List Moment
trace = trace_of tcg

abbrev pub act_before : Option Act → List Act → List Act
act_before None acts = acts
act_before (Some act) acts = act ∷ acts

-- The acts of a list of steps.
abbrev pub acts : Origin → List Step → List Act
acts o [] = []
acts o (step ∷ before) = act_before (act_of (trace o before) step) (acts o before)

-- A command that is executed whole is answered: it failed with an error, or is done with its data.
abbrev pub answered_with : Option ℕ → List ℕ → Answer
answered_with None bytes = Done bytes
answered_with (Some error) bytes = FailedWith (status_of (Some error)) error

abbrev pub executed_answer : Option Effect → Option (Option Answer)
executed_answer None = None
executed_answer (Some e) = Some (Some (answered_with e.event.failed e.bytes))

-- A held command is done with the data of its completion.
abbrev pub completed_answer : Option Effect → Option (Option Answer)
completed_answer None = None
completed_answer (Some e) = Some (Some (Done e.bytes))

-- A queued command that failed is answered by a recovery, as the drive keeps the failure.
abbrev pub recovered_answer : Option Failure → Option (Option Answer)
recovered_answer None = None
recovered_answer (Some f) = Some (Some (FailedWith (status_of (Some f.error)) f.error))

-- What a step says of a tag's answer: by its Put and effect, the failure before it, and whether a
-- recovery answers the tag, and a reset stops it.
abbrev pub answer_by : Moment → Option Failure → Bool → Bool → ℕ → Step → Option (Option Answer)
answer_by m failing fails pending tag (steps.Put client slot request) =
    if slot == tag then Some None else None
answer_by m failing fails pending tag (steps.Issue slot) = None
answer_by m failing fails pending tag (steps.Accept slot) =
    if slot == tag then (if is_queued_put m.served then None else executed_answer m.effect)
    else None
answer_by m failing fails pending tag (steps.Complete slot) =
    if slot == tag then completed_answer m.effect else None
answer_by m failing fails pending tag steps.Recover =
    if fails then recovered_answer failing else None
answer_by m failing fails pending tag (steps.Reset client kind) =
    if pending then Some (Some WasReset) else None
answer_by m failing fails pending tag (steps.Take client slot) =
    if slot == tag then Some None else None

-- The answer of a tag: once it is answered, what its client takes.
abbrev pub answer : List Moment → ℕ → Option Answer
answer [] tag = None
answer (m ∷ before) tag =
    unwrap_or
    (answer_by m (failure (events before)) (is_tag tag (failed before))
    (is_pending (stage before tag)) tag m.step)
    (answer before tag)

-- The audit line of an act that was denied: the step's number, the client of its Put, and the
-- reason.
abbrev pub client_of : Option Put → ℕ
client_of None = 0
client_of (Some put) = put.client

abbrev pub line_of : ℕ → Option Put → Option Effect → List AuditLine
line_of number served None = []
line_of number served (Some e) = line_for number (client_of served) e.event.denied

-- The audit log, the newest line first.
abbrev pub audit : List Moment → List AuditLine
audit [] = []
audit (m ∷ before) = line_of (1 + length before) m.served m.effect ++ audit before

-- Which rule refused the command, or the item, of the latest acceptance, where nothing denied it.
abbrev pub rule_told : Option Effect → Option Rule → Option Rule
rule_told None before = before
rule_told (Some effect) before = effect.event.rule

abbrev pub rule_after : Step → Option Effect → Option Rule → Option Rule
rule_after (steps.Put client slot request) effect before = before
rule_after (steps.Issue slot) effect before = before
rule_after (steps.Accept slot) effect before = rule_told effect before
rule_after (steps.Complete slot) effect before = before
rule_after steps.Recover effect before = before
rule_after (steps.Reset client kind) effect before = before
rule_after (steps.Take client slot) effect before = before

abbrev pub accepted_rule : List Moment → Option Rule
accepted_rule [] = None
accepted_rule (m ∷ before) = rule_after m.step m.effect (accepted_rule before)

-- What a step replies: a Take the answer, every other step that it is done.
abbrev pub reply : List Moment → Step → Answer
reply before (steps.Put client slot request) = no_bytes
reply before (steps.Issue slot) = no_bytes
reply before (steps.Accept slot) = no_bytes
reply before (steps.Complete slot) = no_bytes
reply before steps.Recover = no_bytes
reply before (steps.Reset client kind) = no_bytes
reply before (steps.Take client slot) = unwrap_or (answer before slot) no_bytes

abbrev pub entry : List Moment → Step → Entry
entry before step = record { step = step; reply = reply before step }

-- The history, the newest step first.
abbrev pub entries : Origin → List Step → List Entry
entries o [] = []
entries o (step ∷ before) = entry (trace o before) step ∷ entries o before
