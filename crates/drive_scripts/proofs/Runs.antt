-- What a line leaves of a run.
use Rattle.std.proofs.Common.{◌≡◌, ℕ, Bool, true, false, List, [], ◌∷◌, refl, OnOk, IfOk, Result, Ok, Err, subst, sym, ap, ◌∙◌, ◌+◌, ◌%◌, ◌^◌}
use Rattle.std.specs.Prelude.{if◌then◌else◌, ◌==◌, Option, None, Some, unwrap_or}
use Rattle.history.specs.Opening.{Origin}
use Rattle.history.specs.History.{Act, Accept, log, event}
use Rattle.script_lines.specs.declared.line.Line as told
use Rattle.script_lines.specs.declared.line.Line.TheVariants as lines
use Rattle.script_lines.specs.declared.report.Report.{Report}
use Rattle.history.specs.Events.{Event}
use Rattle.drive_scripts.specs.Acts.{accept_of, step_of}
use Rattle.drive_scripts.proofs.Acts.{agrees-so, answers-so, counted-so}
use Rattle.fis.specs.H2d.{h2d_at, IsH2dSpelling}
use Rattle.trusted_cmds.specs.Commands.{fis_of}
use Rattle.history.specs.Facts.{Facts, facts}
use Rattle.fis.specs.declared.h2d.RegH2d.{RegH2d}
use Rattle.script_lines.specs.Texts.{Prints, command_failure_text, denial_lines, refusal_lines}
use Rattle.drive.specs.State.{Agrees}
use Rattle.drive.specs.Answers.{IsAnswer}
use Rattle.drive_scripts.specs.Explanations.{once_served}
use Rattle.port_history.specs.Requests.{command_fis}
use Rattle.port_history.proofs.Fises.{fis_back}
use Rattle.drive_scripts.specs.Effects.{LineEffect, RunsOn, IsReached, Has, Accepts, Answered, completion_effect, failure_effect, transferred, served_text, answer_text, told_lines, command_effect, Does}
use Rattle.drive.specs.declared.answer.Accepted.{Accepted}
use Rattle.script_lines.specs.declared.line.Transfer.{Transfer}
use Rattle.history.specs.Answers.{errored as failed_status, status_of, is_holding}
use Rattle.history.specs.Tcg.{answer_data}
use Rattle.drive_scripts.specs.declared.turn.Turn.{Turn}
use Rattle.drive_scripts.specs.declared.running.RunningPhase.{RunningPhase}
use Rattle.trusted_cmds.specs.declared.command.Command.{Command}

has-run : (new : RunningPhase) (o : Origin) (before after : Report) (effect : LineEffect)
    → Has new o before after effect → IsReached new
has-run new o before after effect has = (o, effect.acts, has.runs)

doing : (line : told.Line) (text : List ℕ) (turn : Turn) (old new : RunningPhase) (o : Origin)
    (acts : List Act) (before after : Report)
    → RunsOn old o acts → Does line text turn old new o acts before after → IsReached new
doing (lines.Read transfer) text turn old new o acts before after runs does =
    has-run new o before after _ does.0
doing (lines.Write transfer byte) text turn old new o acts before after runs does =
    has-run new o before after _ does.0
doing (lines.ReadDma transfer) text turn old new o acts before after runs does =
    has-run new o before after _ does.0
doing (lines.WriteDma transfer byte) text turn old new o acts before after runs does =
    has-run new o before after _ does.0
doing (lines.Call client com_id session tokens) text turn old new o acts before after runs does =
    has-run new o before after _ does.0
doing (lines.Send client com_id packet) text turn old new o acts before after runs does =
    has-run new o before after _ does.0
doing (lines.Receive client com_id blocks) text turn old new o acts before after runs does =
    has-run new o before after _ does.0
doing (lines.SecurityIn client protocol sp_specific blocks) text turn old new o acts before after runs does =
    has-run new o before after _ does.0
doing (lines.SecurityOut client protocol sp_specific payload) text turn old new o acts before after runs does =
    has-run new o before after _ does.0
doing (lines.Identify client) text turn old new o acts before after runs does =
    has-run new o before after _ does.0
doing (lines.Log client) text turn old new o acts before after runs does =
    has-run new o before after _ does.0
doing (lines.Reset client kind) text turn old new o acts before after runs does =
    has-run new o before after _ does.0
doing (lines.TperReset client) text turn old new o acts before after runs does =
    has-run new o before after _ does.0
doing lines.Expect text turn old new o acts before after runs does =
    (o, acts, subst (λ run. RunsOn run o acts) (sym does.0) runs)
doing (lines.Range row) text turn old new o acts before after runs does =
    (o, acts, subst (λ run. RunsOn run o acts) (sym does.0) runs)

-- behind a line the drive is again as an origin and acts leave it
pub stands-after : {E : Type 0} (r : Result Turn E) (line : told.Line) (text : List ℕ)
    (old new : RunningPhase) (before after : Report)
    → IsReached old
    → IfOk r
    (λ turn. (o : Origin) (acts : List Act) → RunsOn old o acts
    → Does line text turn old new o acts before after) → OnOk r (IsReached new)
stands-after (Ok turn) line text old new before after (o, acts, runs) does =
    doing line text turn old new o acts before after runs (does o acts runs)
stands-after (Err e) line text old new before after stands does = does

-- what holds of what was made holds of what was asked for
pub of-same : {E A : Type 0} (r : Result Turn E) (P : A → Turn → Type 0) (made asked : A)
    → made ≡ asked → IfOk r (P made) → IfOk r (P asked)
of-same (Ok turn) P made asked same h = subst (λ x. P x turn) same h
of-same (Err e) P made asked same h = h

-- what holds of a command and the bytes that went with it holds of those that were asked for
pub as-given : (P : Command → List ℕ → Type 0) (made asked : Command) (given payload : List ℕ)
    → made ≡ asked → given ≡ payload → P made given → P asked payload
as-given P made asked given payload same bytes h =
    subst (λ command. P command payload) same (subst (P made) bytes h)

-- what was made of a command is what was asked for
pub as-asked : (P : Command → Type 0) (made asked : Command) → made ≡ asked → P made → P asked
as-asked P made asked same h = subst P same h

-- a transfer that is held is completed
pub held-then : (new mid : RunningPhase) (o : Origin) (acts : List Act) (command : Command)
    (transfer : Transfer) (byte : ℕ) (before after : Report)
    (accepted : Accepted) (payload : List ℕ) → payload ≡ [] → accepted.held ≡ true
    → Accepts mid o acts command transfer.tag payload accepted
    → ((o : Origin) (acts : List Act) → RunsOn mid o acts
    → Has new o before after (completion_effect o acts transfer.tag byte))
    → Has new o before after (transferred o acts command transfer byte)
held-then new mid o acts command transfer byte before after accepted payload none held accepts
    serves =
    let at =
    subst (λ payload. Accepts mid o acts command transfer.tag payload accepted) none accepts in
    let made = event o (log o acts) (accept_of command transfer.tag []) in
    let is_held : is_holding made.deed ≡ true = sym at.answer.held ∙ held in
    let later = accept_of command transfer.tag [] ∷ acts in
    subst
    (λ h. Has new o before after
    (if h then completion_effect o later transfer.tag byte else failure_effect later transfer.client made))
    (sym is_held) (serves o later at.runs)

-- a transfer that is not held has failed
pub failed-then : (new mid : RunningPhase) (o : Origin) (acts : List Act) (command : Command)
    (transfer : Transfer) (byte : ℕ) (before after : Report)
    (accepted : Accepted) (payload : List ℕ) → payload ≡ [] → accepted.held ≡ false
    → Accepts mid o acts command transfer.tag payload accepted
    → RunsOn new o (accept_of command transfer.tag payload ∷ acts)
    → Prints before after
    (refusal_lines new.acts transfer.client accepted.status accepted.error accepted.denied)
    → Has new o before after (transferred o acts command transfer byte)
failed-then new mid o acts command transfer byte before after accepted payload none held accepts runs prints =
    let at =
    subst (λ payload. Accepts mid o acts command transfer.tag payload accepted) none accepts in
    let made = event o (log o acts) (accept_of command transfer.tag []) in
    let is_held : is_holding made.deed ≡ false = sym at.answer.held ∙ held in
    let later = accept_of command transfer.tag [] ∷ acts in
    let now = subst (λ (payload : List ℕ). RunsOn new o (accept_of command transfer.tag payload ∷ acts)) none runs in
    subst
    (λ h. Has new o before after
    (if h then completion_effect o later transfer.tag byte else failure_effect later transfer.client made))
    (sym is_held) (record {
      runs = now;
      prints = subst (λ lines. Prints before after lines)
          (ap (λ step. refusal_lines step transfer.client accepted.status accepted.error accepted.denied) now.1
          ∙ ap (λ status. refusal_lines (step_of later) transfer.client status accepted.error accepted.denied)
          at.answer.status
          ∙ ap
          (λ error. refusal_lines (step_of later) transfer.client (status_of made.failed) error accepted.denied)
          at.answer.error
          ∙ ap
          (refusal_lines (step_of later) transfer.client (status_of made.failed) (unwrap_or made.failed 0))
          at.answer.denied)
          prints;
    })

-- a drive that was given the bytes of a command's FIS has accepted the command
pub accepts-so : (new : RunningPhase) (n : ℕ) (o : Origin) (acts : List Act) (command : Command)
    (tag : ℕ) (bytes given payload : List ℕ) (answered : Accepted)
    → given ≡ payload → IsH2dSpelling bytes (fis_of command tag) → n ≡ step_of acts
    → new.acts ≡ (n + 1) % 2 ^ 64
    → Agrees new.drive o (Accept bytes given ∷ acts)
    → IsAnswer (facts o (log o acts)) (h2d_at bytes)
    (event o (log o acts) (Accept bytes given)) answered
    → Accepts new o acts command tag payload answered
accepts-so new n o acts command tag bytes given payload answered same spelt counted more agrees
    answer =
    subst (λ (payload : List ℕ). Accepts new o acts command tag payload answered) same (record {
      runs = (
        agrees-so new.drive o acts command tag bytes given spelt agrees,
        more ∙ counted-so n acts (accept_of command tag given) counted,
      );
      answer = answers-so answered o acts command tag bytes given spelt answer;
    })

-- the first line of an answer, by its fields and by its event
first-so : (command : Command) (fails : Option ℕ) (status code : ℕ) (bytes held : List ℕ)
    → status ≡ status_of fails → code ≡ unwrap_or fails 0 → bytes ≡ held
    → (if status == failed_status then command_failure_text status code else served_text command bytes) ≡
    answer_text command fails held
first-so command None status code bytes held s c b = rw (s, b) refl
first-so command (Some n) status code bytes held s c b = rw (s, c) refl

told-so : (f : Facts) (h : RegH2d) (made : Event) (answer : Accepted) (command : Command)
    (step client : ℕ) → IsAnswer f h made answer
    → told_lines step client command answer ≡ answer_text command made.failed (answer_data f h made)
    ∷ denial_lines step client made.denied
told-so f h made answer command step client is =
    ap (λ text. text ∷ denial_lines step client answer.denied)
    (first-so command made.failed answer.status answer.error answer.bytes.items _ is.status
    is.error is.bytes)
    ∙ ap
    (λ why. answer_text command made.failed (answer_data f h made)
    ∷ denial_lines step client why) is.denied

-- a command that was accepted, and whose answer is printed
answered-then : (new : RunningPhase) (o : Origin) (acts : List Act) (client : ℕ) (command : Command)
    (payload : List ℕ) (before after : Report)
    (answer : Accepted) → Accepts new o acts command 0 payload answer
    → Prints before after (told_lines new.acts client command answer)
    → Has new o before after (command_effect o acts client command payload)
answered-then new o acts client command payload before after answer accepts prints =
    let made = event o (log o acts) (accept_of command 0 payload) in
    record {
      runs = accepts.runs;
      prints = subst (λ lines. Prints before after lines)
          (told-so _ _ made answer command new.acts client accepts.answer
          ∙ ap
          (λ step. answer_text command made.failed
          (answer_data (facts o (log o acts)) (fis_of command 0) made)
          ∷ denial_lines step client made.denied)
          accepts.runs.1)
          prints;
    }

pub command-then : (new : RunningPhase) (o : Origin) (acts : List Act) (client : ℕ)
    (command : Command) (tag : ℕ) (given payload : List ℕ)
    (before after : Report) (answer : Accepted) → tag ≡ 0 → given ≡ payload
    → Accepts new o acts command tag given answer
    → Prints before after (told_lines new.acts client command answer)
    → Has new o before after (command_effect o acts client command payload)
command-then new o acts client command tag given payload before after answer none same accepts
    prints =
    answered-then new o acts client command payload before after answer
    (subst (λ tag. Accepts new o acts command tag payload answer) none
    (subst (λ (bytes : List ℕ). Accepts new o acts command tag bytes answer) same accepts))
    prints

-- the answer at hand is that of a command, which was held and is completed, or was not
answered-by : (run : RunningPhase) (o : Origin) (acts : List Act) (command : Command) (tag : ℕ)
    (payload : List ℕ) (held : Bool) (bytes : List ℕ) (answer : Accepted)
    → run.header ≡ fis_of command tag
    → run.payload.items ≡ payload → run.completed ≡ held → run.answer.denied ≡ answer.denied
    → run.answer.rule ≡ answer.rule
    → IsAnswer (facts o (log o acts)) (fis_of command tag)
    (event o (log o acts) (accept_of command tag payload)) answer
    → Answered run o acts (once_served held (command_fis command tag) payload tag bytes acts)
answered-by run o acts command tag payload held bytes answer header same so denied ruled is =
    let fis = command_fis command tag in
    record {
      fis = fis;
      tag = tag;
      bytes = bytes;
      read = fis_back command tag ∙ sym header;
      acts = ap (λ (b : Bool). once_served b fis payload tag bytes acts) (sym so)
          ∙ ap (λ (p : List ℕ). once_served run.completed fis p tag bytes acts) (sym same);
      denied = denied ∙ is.denied
          ∙ ap (λ (p : List ℕ). (event o (log o acts) (Accept fis p)).denied) (sym same);
      rule = ruled ∙ is.rule
          ∙ ap (λ (p : List ℕ). (event o (log o acts) (Accept fis p)).rule) (sym same);
    }

-- of a transfer that is held and completed
pub answered-held : (run mid : RunningPhase) (o : Origin) (acts : List Act) (command : Command)
    (transfer : Transfer) (byte : ℕ) (payload : List ℕ) (answer : Accepted) → payload ≡ []
    → answer.held ≡ true → run.header ≡ fis_of command transfer.tag → run.payload.items ≡ payload
    → run.completed ≡ true → run.answer ≡ answer
    → Accepts mid o acts command transfer.tag payload answer
    → Answered run o acts (transferred o acts command transfer byte).acts
answered-held run mid o acts command transfer byte payload answer none held header same done answers accepts =
    let at =
    subst (λ payload. Accepts mid o acts command transfer.tag payload answer) none accepts in
    let made = event o (log o acts) (accept_of command transfer.tag []) in
    let is_held : is_holding made.deed ≡ true = sym at.answer.held ∙ held in
    let later = accept_of command transfer.tag [] ∷ acts in
    subst
    (λ (h : Bool). Answered run o acts
    (if h then completion_effect o later transfer.tag byte else failure_effect later transfer.client made).acts)
    (sym is_held)
    (answered-by run o acts command transfer.tag [] true _ answer header (same ∙ none) done
    (ap (λ (a : Accepted). a.denied) answers) (ap (λ (a : Accepted). a.rule) answers) at.answer)

-- of one that is not
pub answered-failed : (run mid : RunningPhase) (o : Origin) (acts : List Act) (command : Command)
    (transfer : Transfer) (byte : ℕ) (payload : List ℕ) (answer : Accepted) → payload ≡ []
    → answer.held ≡ false → run.header ≡ fis_of command transfer.tag → run.payload.items ≡ payload
    → run.completed ≡ false → run.answer ≡ answer
    → Accepts mid o acts command transfer.tag payload answer
    → Answered run o acts (transferred o acts command transfer byte).acts
answered-failed run mid o acts command transfer byte payload answer none held header same done answers accepts =
    let at =
    subst (λ payload. Accepts mid o acts command transfer.tag payload answer) none accepts in
    let made = event o (log o acts) (accept_of command transfer.tag []) in
    let is_held : is_holding made.deed ≡ false = sym at.answer.held ∙ held in
    let later = accept_of command transfer.tag [] ∷ acts in
    subst
    (λ (h : Bool). Answered run o acts
    (if h then completion_effect o later transfer.tag byte else failure_effect later transfer.client made).acts)
    (sym is_held)
    (answered-by run o acts command transfer.tag [] false [] answer header (same ∙ none) done
    (ap (λ (a : Accepted). a.denied) answers) (ap (λ (a : Accepted). a.rule) answers) at.answer)

-- of a command that is not queued
pub answered-command : (run mid : RunningPhase) (o : Origin) (acts : List Act) (client : ℕ) (command : Command)
    (tag : ℕ) (given payload : List ℕ) (answer : Accepted) → tag ≡ 0 → given ≡ payload
    → run.header ≡ fis_of command tag → run.payload.items ≡ payload → run.completed ≡ false
    → run.answer.denied ≡ answer.denied
    → run.answer.rule ≡ answer.rule → Accepts mid o acts command tag given answer
    → Answered run o acts (command_effect o acts client command payload).acts
answered-command run mid o acts client command tag given payload answer none same header kept done denied ruled accepts =
    let at =
    subst (λ tag. Accepts mid o acts command tag payload answer) none
    (subst (λ (bytes : List ℕ). Accepts mid o acts command tag bytes answer) same accepts) in
    answered-by run o acts command 0 payload false [] answer (header ∙ ap (λ (t : ℕ). fis_of command t) none) kept done denied ruled at.answer
