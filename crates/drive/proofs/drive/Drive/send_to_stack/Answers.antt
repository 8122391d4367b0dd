use Rattle.std.proofs.Common.{Bool, ◌∙◌, ◌∷◌, Some, ap, sym, subst, if◌then◌else◌}
use Rattle.audit.specs.declared.rules.rule.Rule.TheVariants.{NoStackReset}
use Rattle.history.specs.Events.{Event}
use Rattle.history.specs.Facts.{facts}
use Rattle.history.specs.Tcg.{stack_reset, stack_kept}
use Rattle.drive.specs.State.{KeepsDrive}
use Rattle.drive.proofs.drive.Drive.send_to_stack.Goals as goal

pub returns-then-is_stack_reset-clause-kept : goal.returns-then-is_stack_reset-clause-kept
returns-then-is_stack_reset-clause-kept c = λ o past k.
    subst (λ (ev : Event). KeepsDrive c.reset_stack.new.self o (ev ∷ past))
    (ap (λ (b : Bool). if b then stack_reset (facts o past) c.args.com_id else stack_kept c.args.com_id) (sym (sym c.is_stack_reset.ensures ∙ c.if-is_stack_reset.true)))
    (c.reset_stack.ensures o past k)

pub returns-then-is_stack_reset-clause-denied : goal.returns-then-is_stack_reset-clause-denied
returns-then-is_stack_reset-clause-denied c = λ f.
    c.none.ensures.denied
    ∙ ap (λ (b : Bool). (if b then stack_reset f c.args.com_id else stack_kept c.args.com_id).denied) (sym (sym c.is_stack_reset.ensures ∙ c.if-is_stack_reset.true))

pub returns-then-is_stack_reset-clause-rule : goal.returns-then-is_stack_reset-clause-rule
returns-then-is_stack_reset-clause-rule c = λ f.
    c.none.ensures.rule
    ∙ ap (λ (b : Bool). (if b then stack_reset f c.args.com_id else stack_kept c.args.com_id).rule) (sym (sym c.is_stack_reset.ensures ∙ c.if-is_stack_reset.true))

pub returns-clause-kept : goal.returns-clause-kept
returns-clause-kept c = λ o past k.
    subst (λ (ev : Event). KeepsDrive c.tell_stack.new.self o (ev ∷ past))
    (ap (λ (b : Bool). if b then stack_reset (facts o past) c.args.com_id else stack_kept c.args.com_id) (sym (sym c.is_stack_reset.ensures ∙ c.if-is_stack_reset.false)))
    (c.tell_stack.ensures o past (Some NoStackReset) k)

pub returns-clause-denied : goal.returns-clause-denied
returns-clause-denied c = λ f.
    c.by.ensures.denied
    ∙ ap (λ (b : Bool). (if b then stack_reset f c.args.com_id else stack_kept c.args.com_id).denied) (sym (sym c.is_stack_reset.ensures ∙ c.if-is_stack_reset.false))

pub returns-clause-rule : goal.returns-clause-rule
returns-clause-rule c = λ f.
    c.by.ensures.rule
    ∙ ap (λ (b : Bool). (if b then stack_reset f c.args.com_id else stack_kept c.args.com_id).rule) (sym (sym c.is_stack_reset.ensures ∙ c.if-is_stack_reset.false))
