use Rattle.std.proofs.Common.{◌++◌, ◌∙◌, ap, sym, subst, true, false}
use Rattle.sp_cells.specs.Config.{Config}
use Rattle.runs.specs.Stepped.{RanTo, WholeLines}
use Rattle.judged.specs.Answers.{text_behind}
use Rattle.judged.specs.Blanks.{other_text, other_config}
use Rattle.judged.proofs.Folded.{printed-so}
use Rattle.judged.proofs.WholeScripts.{other-whole}
use Rattle.judged.proofs.bench.Bench.print.Goals as goal

pub print_text-requires-clause-whole : goal.print_text-requires-clause-whole
print_text-requires-clause-whole c =
    subst WholeLines
    (sym (c.as_slice.ensures ∙ c.in_ok-append_other_text.ensures ∙ ap (λ t. t ++ other_text c.args.entry.now) c.new-text.ensures))
    (other-whole c.args.entry.now)

pub returns-clause-printed : goal.returns-clause-printed
returns-clause-printed c = λ judging fits.
    printed-so c.args.options.now judging c.args.entry.now c.in_ok-said.said c.in_ok-explained.explained c.in_ok-other.other
    (c.in_ok-said.ensures.printed false judging.script fits.0)
    (c.in_ok-explained.ensures.printed true judging.script fits.1)
    (c.in_ok-other.ensures.printed false judging.other
    (subst (λ (d : Config). RanTo c.args.self.now.other false d judging.other) (sym c.other_options-others.ensures) fits.2)
    ∙ ap (λ d. text_behind false d judging.other (judging.other ++ c.as_slice.result.now)) c.other_options-others.ensures
    ∙ ap (λ text. text_behind false (other_config c.args.options.now) judging.other (judging.other ++ text))
    (c.as_slice.ensures ∙ c.in_ok-append_other_text.ensures ∙ ap (λ t. t ++ other_text c.args.entry.now) c.new-text.ensures))

pub returns-clause-fits : goal.returns-clause-fits
returns-clause-fits c = λ judging later fits goes. (
  subst (RanTo c.print_entry.new.run false c.args.options.now) (sym goes.0) (c.in_ok-said.ensures.ran false judging.script fits.0),
  subst (RanTo c.print_entry-2.new.run true c.args.options.now) (sym goes.0) (c.in_ok-explained.ensures.ran true judging.script fits.1),
  subst (λ (d : Config). RanTo c.print_text.new.run false d later.other) c.other_options-others.ensures
      (subst (RanTo c.print_text.new.run false c.other_options-others.result)
      (sym
      (goes.1
      ∙ ap (λ text. judging.other ++ text)
      (sym (c.as_slice.ensures ∙ c.in_ok-append_other_text.ensures ∙ ap (λ t. t ++ other_text c.args.entry.now) c.new-text.ensures))))
      (c.in_ok-other.ensures.ran false judging.other
      (subst (λ (d : Config). RanTo c.args.self.now.other false d judging.other) (sym c.other_options-others.ensures) fits.2))),
)
