use Rattle.std.proofs.Common.{◌≡◌, ℕ, List, Option, Some, None, IfOk, ap, subst, rules}
use Rattle.trusted_cmds.specs.declared.command.Command.{Command}
use Rattle.audit.specs.declared.reason.Why.{Why}
use Rattle.audit.specs.declared.rules.rule.Rule.{Rule}
use Rattle.drive.specs.State.{DriveState, Agrees}
use Rattle.history.specs.Opening.{Origin}
use Rattle.port.specs.Live.{line_kept}
use Rattle.history.specs.History.{Act}
use Rattle.reasons.specs.Onsets.{Sourced}
use Rattle.reasons.specs.declared.explained.onset.Counted.TheVariants.{Steps}
use Rattle.drive_scripts.specs.Explanations.{denial_text}
use Rattle.drive_scripts.specs.Kept.{RecountsAll}
use Rattle.port_scripts.specs.PortActs.{command_put}
use Rattle.port_scripts.specs.PortReasons.{line_denial}
use Rattle.port_scripts.proofs.explaining.acceptance_of.Goals as goal

pub returns-in-Some : goal.returns-in-Some
returns-in-Some c =
    let Told : DriveState → Option Command → List ℕ → Option Why → Option Rule → Type 0 = λ drive command payload denied rule.
    IfOk c.reasons.result (λ text. (o : Origin) → (past : List Sourced) → (acts : List Act) → Agrees drive o acts → RecountsAll c.args.explainer.now o past
    → text.items ≡ denial_text Steps o past acts command payload denied rule) in
    let drive : c.drive-drive.result.now ≡ c.args.port.now.bare.drive = search rules in
    let command : c.command_of-command.result ≡ command_put c.args.ahead.now.put = search rules in
    let payload : c.deref.result.now ≡ c.args.ahead.now.brought.payload.items = search rules in
    let denied : Some c.in-Some.line.now.why ≡ line_denial (line_kept c.args.port.now c.args.ahead.now.place) =
    ap line_denial c.in-Some.ensures.value in
    let rule : c.rule.result ≡ c.args.port.now.bare.rule = search rules in
    subst (λ r. Told c.args.port.now.bare.drive (command_put c.args.ahead.now.put) c.args.ahead.now.brought.payload.items (line_denial (line_kept c.args.port.now c.args.ahead.now.place)) r) rule
    (subst (λ w. Told c.args.port.now.bare.drive (command_put c.args.ahead.now.put) c.args.ahead.now.brought.payload.items w c.rule.result) denied
    (subst (λ p. Told c.args.port.now.bare.drive (command_put c.args.ahead.now.put) p (Some c.in-Some.line.now.why) c.rule.result) payload
    (subst (λ k. Told c.args.port.now.bare.drive k c.deref.result.now (Some c.in-Some.line.now.why) c.rule.result) command
    (subst (λ d. Told d c.command_of-command.result c.deref.result.now (Some c.in-Some.line.now.why) c.rule.result) drive c.reasons.ensures))))

pub returns-in-None : goal.returns-in-None
returns-in-None c =
    let Told : DriveState → Option Command → List ℕ → Option Why → Option Rule → Type 0 = λ drive command payload denied rule.
    IfOk c.reasons-in-None.result (λ text. (o : Origin) → (past : List Sourced) → (acts : List Act) → Agrees drive o acts → RecountsAll c.args.explainer.now o past
    → text.items ≡ denial_text Steps o past acts command payload denied rule) in
    let drive : c.drive-drive.result.now ≡ c.args.port.now.bare.drive = search rules in
    let command : c.command_of-command.result ≡ command_put c.args.ahead.now.put = search rules in
    let payload : c.deref-in-None.result.now ≡ c.args.ahead.now.brought.payload.items = search rules in
    let denied : None ≡ line_denial (line_kept c.args.port.now c.args.ahead.now.place) = ap line_denial c.in-None.ensures.value in
    let rule : c.rule-in-None.result ≡ c.args.port.now.bare.rule = search rules in
    subst (λ r. Told c.args.port.now.bare.drive (command_put c.args.ahead.now.put) c.args.ahead.now.brought.payload.items (line_denial (line_kept c.args.port.now c.args.ahead.now.place)) r) rule
    (subst (λ w. Told c.args.port.now.bare.drive (command_put c.args.ahead.now.put) c.args.ahead.now.brought.payload.items w c.rule-in-None.result) denied
    (subst (λ p. Told c.args.port.now.bare.drive (command_put c.args.ahead.now.put) p (None) c.rule-in-None.result) payload
    (subst (λ k. Told c.args.port.now.bare.drive k c.deref-in-None.result.now (None) c.rule-in-None.result) command
    (subst (λ d. Told d c.command_of-command.result c.deref-in-None.result.now (None) c.rule-in-None.result) drive c.reasons-in-None.ensures))))
