use Rattle.std.proofs.Common.{◌≡◌, ◌∙◌, true, is_some, ap, sym, rules, arith}
use Rattle.std.proofs.lemmas.Grind.{common_steps}
use Rattle.drive.specs.State.{kept_facts}
use Rattle.drive.proofs.Commands.{commanded-failed, commanded-known}
use Rattle.drive.proofs.drive.Drive.decide.Goals as goal

pub returns-then-is_some-clause-event : goal.returns-then-is_some-clause-event
returns-then-is_some-clause-event c =
    let is : c.args.h.now.is_command ≡ true = first_of (search rules, grind (arith, common_steps)) in
    λ f payload. c.while_failed.ensures.event f payload
    ∙ commanded-failed (kept_facts c.args.self.now f) c.args.h.now payload is (ap is_some (sym c.failure.ensures.stands) ∙ sym c.if-is_some.ensures)

pub returns-clause-event : goal.returns-clause-event
returns-clause-event c =
    let is : c.args.h.now.is_command ≡ true = first_of (search rules, grind (arith, common_steps)) in
    λ f payload. c.known.ensures.event f payload
    ∙ commanded-known (kept_facts c.args.self.now f) c.args.h.now payload is (ap is_some (sym c.failure.ensures.stands) ∙ sym c.if-is_some.ensures) (sym c.is_mixing.ensures ∙ c.if-is_mixing.false)
