use Rattle.std.proofs.Common.{◌++◌, ◌∙◌, ap, sym, subst}
use Rattle.runs.specs.Stepped.{WholeLines}
use Rattle.judged.specs.Answers.{text_behind}
use Rattle.judged.specs.Transcripts.{own_line_text, remarks_text}
use Rattle.judged.proofs.WholeScripts.{line-whole, remarks-whole, both-ran}
use Rattle.judged.proofs.bench.print_entry.Goals as goal

pub print_text-requires-clause-whole : goal.print_text-requires-clause-whole
print_text-requires-clause-whole c =
    subst WholeLines (sym (c.as_slice.ensures ∙ c.in_ok-append_line_text.ensures ∙ ap (λ t. t ++ own_line_text c.args.entry.now) c.new-line.ensures)) (line-whole c.args.entry.now)

pub go_on-requires-clause-whole : goal.go_on-requires-clause-whole
go_on-requires-clause-whole c =
    subst WholeLines (sym (c.as_slice-2.ensures ∙ c.in_ok-append_remarks.ensures ∙ ap (λ t. t ++ remarks_text c.args.entry.now) c.new-remarks.ensures)) (remarks-whole c.args.entry.now)

pub returns-clause-ran : goal.returns-clause-ran
returns-clause-ran c =
    both-ran c.args.run.now c.print_text.new.run c.go_on.new.self c.args.options.now c.as_slice.result.now c.as_slice-2.result.now c.args.entry.now
    (c.as_slice.ensures ∙ c.in_ok-append_line_text.ensures ∙ ap (λ t. t ++ own_line_text c.args.entry.now) c.new-line.ensures)
    (c.as_slice-2.ensures ∙ c.in_ok-append_remarks.ensures ∙ ap (λ t. t ++ remarks_text c.args.entry.now) c.new-remarks.ensures)
    c.in_ok-printed.ensures.ran c.in_ok-go_on.ensures.ran

pub returns-clause-printed : goal.returns-clause-printed
returns-clause-printed c = λ explains before ran.
    c.in_ok-printed.ensures.printed explains before ran
    ∙ ap (λ line. text_behind explains c.args.options.now before (before ++ line))
    (c.as_slice.ensures ∙ c.in_ok-append_line_text.ensures ∙ ap (λ t. t ++ own_line_text c.args.entry.now) c.new-line.ensures)
