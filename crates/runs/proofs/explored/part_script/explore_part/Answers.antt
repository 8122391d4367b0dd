use Rattle.std.proofs.Common.{◌≡◌, ◌∙◌, ap, sym}
use Rattle.tool.specs.Outcomes.{run_outcome_of}
use Rattle.tool.specs.Scripts.{script_lines}
use Rattle.tool.proofs.Texts.{weaker}
use Rattle.runs.specs.Alphabets.{opening_lines_text}
use Rattle.runs.specs.declared.explored.search.Search.{Search}
use Rattle.runs.proofs.explored.Stopped.{part_stopped}
use Rattle.runs.proofs.explored.part_script.explore_part.Goals as goal

pub returns-then-status-ne0-clause-explores : goal.returns-then-status-ne0-clause-explores
returns-then-status-ne0-clause-explores g c =
    weaker (g.R.Read.remaining c.args.input) _ _
    (λ given is_text.
    let opening_is : c.as_slice.result.now ≡ opening_lines_text (script_lines given) =
    c.as_slice.ensures
    ∙ ap (λ (s : Search). s.opening) c.in_ok-search.ensures
    ∙ ap opening_lines_text (c.as_slice-lines.ensures ∙ c.in_ok-lines.ensures ∙ ap script_lines (c.deref.ensures.value ∙ is_text)) in
    part_stopped c.args.options.now c.args.plan.now c.args.share given c.in_ok-status.status (g.W.Write.contents c.args.output.now)
    (sym (c.in_ok-status.ensures.whole.0 ∙ ap (λ t. (run_outcome_of c.args.options.now t).status) opening_is))
    c.if-status-ne0.true)
    c.in_ok-text.ensures
