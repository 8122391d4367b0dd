use Rattle.std.proofs.Common.{◌+◌, ◌∙◌, refl, sym, subst, ap, fold}
use Rattle.tool.specs.Outcomes.{run_outcome_of}
use Rattle.judged.specs.Benches.{BenchFits}
use Rattle.judged.specs.Judgements.{with_entry}
use Rattle.judged.specs.declared.judging.Judging.{Judging}
use Rattle.judged.proofs.Folded.{one_more, goes_on, all_judged}
use Rattle.judged.proofs.judging.judge_on.Goals as goal

pub loop-entry-init : goal.loop-entry-init
loop-entry-init c = (
  c.requires.stands,
  subst (BenchFits c.args.bench.now c.args.options.now) (sym c.new-judging.ensures) c.requires.fits,
  ap (λ j. fold (with_entry c.args.options.now c.args.freedoms.now) j c.args.entries.now) c.new-judging.ensures,
)

pub loop-entry-preserved : goal.loop-entry-preserved
loop-entry-preserved c =
    let judging = c.loop-entry.judging in
    let fits = c.loop-entry.invariant.1 in
    let adds = c.in_ok-add.ensures in (
      c.in_ok-printed.ensures.stands,
      c.in_ok-printed.ensures.fits judging c.add.new.self fits (goes_on c.args.freedoms.now judging c.add.new.self _ _ adds),
      one_more c.args.options.now c.args.freedoms.now judging c.add.new.self _ c.args.entries.now c.loop-entry.entry-index (c.loop-entry.entry-index + 1)
          c.entry-item.result _ c.in_ok-entry.entry c.in_ok-printed.printed c.loop-entry-test.true refl c.entry-item.is c.in_ok-entry.ensures adds
          (c.in_ok-printed.ensures.printed judging fits) c.loop-entry.invariant.2,
    )

pub returns-clause-judging : goal.returns-clause-judging
returns-clause-judging c =
    all_judged c.args.options.now c.args.freedoms.now c.loop-entry.judging c.args.entries.now c.loop-entry.entry-index c.loop-entry-test.false
    c.loop-entry.invariant.2

pub returns-clause-status : goal.returns-clause-status
returns-clause-status c =
    c.status.ensures c.args.options.now c.loop-entry.judging c.loop-entry.invariant.1
    ∙ ap (λ (j : Judging). (run_outcome_of c.args.options.now j.script).status)
    (all_judged c.args.options.now c.args.freedoms.now c.loop-entry.judging c.args.entries.now c.loop-entry.entry-index c.loop-entry-test.false
    c.loop-entry.invariant.2)
