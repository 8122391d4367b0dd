-- The signature, the least fetch, or a completion.
use Rattle.std.proofs.Common.{ap, sym, ◌∙◌}
use Rattle.hba.specs.History.{State}
use Rattle.hba.specs.Ready.{may_sign, fetchable, is_ready_on}
use Rattle.hba.proofs.Works.{first_signature}
use Rattle.hba.proofs.Tags.{first_of_fetches, first_of_others}
use Rattle.hba.proofs.hba.Hba.first.Goals as goal

pub returns-then-may_sign : goal.returns-then-may_sign
returns-then-may_sign c =
    let signs = c.may_sign.ensures ∙ ap (λ (s : State). may_sign s.registers) c.self.view_is in
    sym (first_signature (is_ready_on c.args.self.now) (sym signs ∙ c.if-may_sign.true))

pub returns-in-Some : goal.returns-in-Some
returns-in-Some c =
    let signs = c.may_sign.ensures ∙ ap (λ (s : State). may_sign s.registers) c.self.view_is in
    let is = c.fetchable.ensures ∙ ap (λ (s : State). fetchable s.registers) c.self.view_is in
    sym (first_of_fetches c.args.self.now c.fetchable.result c.in-Some.tag is (sym signs ∙ c.if-may_sign.false) c.in-Some.ensures)

pub returns-in-None : goal.returns-in-None
returns-in-None c =
    let signs = c.may_sign.ensures ∙ ap (λ (s : State). may_sign s.registers) c.self.view_is in
    let is = c.fetchable.ensures ∙ ap (λ (s : State). fetchable s.registers) c.self.view_is in
    c.first_completion.ensures ∙ sym (first_of_others c.args.self.now c.fetchable.result is (sym signs ∙ c.if-may_sign.false) c.in-None.ensures)
