use Rattle.std.proofs.Common.{◌++◌, ◌∙◌, ap, length, drop}
use Rattle.tool.specs.Outcomes.{outcome_by}
use Rattle.judged.proofs.answers.print_text.Goals as goal

pub returns-clause-printed : goal.returns-clause-printed
returns-clause-printed c = λ explains before ran.
    let was = c.printed-size.ensures explains c.args.options.now before ran in
    let is = c.printed.ensures explains c.args.options.now (before ++ c.args.text.now) (c.in_ok-go_on.ensures.ran explains before ran) in
    c.in_ok-append.ensures ∙ ap (λ t. t ++ c.behind.result.now) c.new-printed.ensures
    ∙ c.behind.ensures ∙ ap (λ n. drop n c.printed.result.now) (ap length was)
    ∙ ap (drop (length (outcome_by explains c.args.options.now before).text)) is
