use Rattle.std.proofs.Common.{◌+◌, ◌∙◌, ap, refl, sym, fold, arith}
use Rattle.std.proofs.lemmas.Result.{IfOk-weaker}
use Rattle.tool.specs.Scripts.{script_lines, with_numbers}
use Rattle.runs.proofs.WholeTexts.{no_lines}
use Rattle.judged.specs.Transcripts.{all_entries, nothing_read, line_added}
use Rattle.judged.proofs.Numbered.{goes_on, none_left}
use Rattle.judged.proofs.reading.entries_of.Goals as goal

pub loop-rest-preserved : goal.loop-rest-preserved
loop-rest-preserved c = (
  omega (arith, c.loop-rest.invariant.0, c.first_line.ensures.shorter),
  goes_on (line_added c.holds_remarks-remarks.result) c.loop-rest.reading c.add.new.self _ c.loop-rest.number (c.loop-rest.number + 1)
      c.first_line.result.0.now (script_lines c.loop-rest.rest.now) (script_lines c.first_line.result.1.now) refl c.first_line.ensures.lines
      c.in_ok-add.ensures c.loop-rest.invariant.1,
)

pub returns : goal.returns
returns c =
    let none = none_left (script_lines c.loop-rest.rest.now) c.loop-rest.number (no_lines c.loop-rest.rest.now (sym c.is_empty.ensures ∙ c.loop-rest-test.false)) in
    let read = sym (ap (fold (line_added c.holds_remarks-remarks.result) c.loop-rest.reading) none) ∙ c.loop-rest.invariant.1 in
    IfOk-weaker c.into_entries.result _ _
    (λ entries is. is ∙ ap all_entries read
    ∙ ap (λ h. all_entries (fold (line_added h) nothing_read (with_numbers 0 (script_lines c.args.text.now)))) c.holds_remarks-remarks.ensures)
    c.into_entries.ensures
