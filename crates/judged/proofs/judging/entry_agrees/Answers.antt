use Rattle.std.proofs.Common.{◌++◌, ◌∙◌, ap, sym, subst, length, drop}
use Rattle.runs.specs.Stepped.{WholeLines}
use Rattle.tool.specs.Outcomes.{outcome_by}
use Rattle.judged.specs.Answers.{text_behind}
use Rattle.judged.specs.Judgements.{answers_agree}
use Rattle.judged.specs.Transcripts.{own_line_text, remarks_text}
use Rattle.judged.proofs.WholeScripts.{line-whole, remarks-whole, both-ran}
use Rattle.judged.proofs.judging.entry_agrees.Goals as goal

pub go_on-requires-clause-whole : goal.go_on-requires-clause-whole
go_on-requires-clause-whole c =
    subst WholeLines (sym (c.as_slice.ensures ∙ c.in_ok-append_line_text.ensures ∙ ap (λ t. t ++ own_line_text c.args.entry.now) c.clear.ensures)) (line-whole c.args.entry.now)

pub go_on-requires-2-clause-whole : goal.go_on-requires-2-clause-whole
go_on-requires-2-clause-whole c =
    subst WholeLines (sym (c.as_slice-2.ensures ∙ c.in_ok-append_remarks.ensures ∙ ap (λ t. t ++ remarks_text c.args.entry.now) c.clear-2.ensures)) (remarks-whole c.args.entry.now)

pub returns-clause-ran : goal.returns-clause-ran
returns-clause-ran c =
    both-ran c.args.run.now c.go_on.new.self c.go_on-2.new.self c.args.options.now c.as_slice.result.now c.as_slice-2.result.now c.args.entry.now
    (c.as_slice.ensures ∙ c.in_ok-append_line_text.ensures ∙ ap (λ t. t ++ own_line_text c.args.entry.now) c.clear.ensures)
    (c.as_slice-2.ensures ∙ c.in_ok-append_remarks.ensures ∙ ap (λ t. t ++ remarks_text c.args.entry.now) c.clear-2.ensures)
    c.in_ok-go_on.ensures.ran c.in_ok-go_on-2.ensures.ran

pub returns-clause-agrees : goal.returns-clause-agrees
returns-clause-agrees c = λ explains before ran.
    let config = c.args.options.now in
    let was = c.printed-size.ensures explains config before ran in
    let is = c.printed.ensures explains config (before ++ c.as_slice.result.now) (c.in_ok-go_on.ensures.ran explains before ran) in
    c.answers_agree-agree.ensures
    ∙ ap (answers_agree c.args.entry.now)
    (c.behind.ensures ∙ ap (λ n. drop n c.printed.result.now) (ap length was)
    ∙ ap (drop (length (outcome_by explains config before).text)) is
    ∙ ap (λ line. text_behind explains config before (before ++ line))
    (c.as_slice.ensures ∙ c.in_ok-append_line_text.ensures ∙ ap (λ t. t ++ own_line_text c.args.entry.now) c.clear.ensures))
