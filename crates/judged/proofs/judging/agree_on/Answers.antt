use Rattle.std.proofs.Common.{◌+◌, ◌∙◌, refl, sym, ap, false}
use Rattle.judged.proofs.Folded.{none_agree, more_agree, all_agree}
use Rattle.judged.proofs.judging.agree_on.Goals as goal

pub loop-entry-init : goal.loop-entry-init
loop-entry-init c = (
  c.requires.stands,
  none_agree c.args.run.now c.args.options.now c.new-rulings.result c.args.entries.now c.new-rulings.ensures c.requires.ran,
)

pub loop-entry-preserved : goal.loop-entry-preserved
loop-entry-preserved c = (
  c.in_ok-entry_agrees.ensures.stands,
  more_agree c.loop-entry.run c.entry_agrees.new.run c.args.options.now c.loop-entry.rulings c.add_agreement.new.rulings c.args.entries.now
      c.loop-entry.entry-index (c.loop-entry.entry-index + 1) c.entry-item.result _ c.loop-entry-test.true refl c.entry-item.is
      c.in_ok-entry_agrees.ensures.ran
      (λ explains before ran. sym (c.in_ok-entry_agrees.ensures.agrees explains before ran) ∙ c.if-not-branch.false)
      c.in_ok-add_agreement.ensures c.loop-entry.invariant.1,
)

pub returns-clause-rulings : goal.returns-clause-rulings
returns-clause-rulings c = λ freedoms.
    (all_agree c.loop-entry.run c.args.options.now c.loop-entry.rulings c.args.entries.now c.loop-entry.entry-index c.loop-entry-test.false
    c.loop-entry.invariant.1 freedoms).0

pub returns-clause-status : goal.returns-clause-status
returns-clause-status c = λ freedoms.
    c.status.ensures false c.args.options.now _
    (all_agree c.loop-entry.run c.args.options.now c.loop-entry.rulings c.args.entries.now c.loop-entry.entry-index c.loop-entry-test.false
    c.loop-entry.invariant.1 freedoms).1
