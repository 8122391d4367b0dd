use Rattle.std.proofs.Common.{◌≡◌, ◌≤◌, ◌<◌, ◌+◌, ◌++◌, ◌∙◌, suc, length, sym, ap, ap₂, arith, Some}
use Rattle.std.specs.List.{fold}
use Rattle.runs.specs.Findings.{nothing_found}
use Rattle.runs.specs.Lists.{with_list_tried}
use Rattle.runs.specs.Merges.{rows_found}
use Rattle.runs.specs.Rows.{segment_rows}
use Rattle.runs.specs.Shares.{divided, next_front, segment_of, told_in, front_of}
use Rattle.runs.specs.declared.explored.front.Front.{Front}
use Rattle.runs.proofs.explored.PartSteps.{next_is, rows_are, stops}
use Rattle.runs.proofs.explored.search.Search.rows_found.Goals as goal

pub returns-then-self-len : goal.returns-then-self-len
returns-then-self-len g c =
    let same = ap (λ (f : Front). length f.lists) c.loop-size.invariant.0 in
    stops c.args.options.now c.args.self.now c.args.share c.loop-size.size c.args.steps c.loop-size.rows c.loop-size.invariant.1
    (omega (arith, c.if-self-len.true, c.len.ensures, same)) c.loop-size-test.true

pub loop-size-preserved : goal.loop-size-preserved
loop-size-preserved g c =
    let config = c.args.options.now in
    let search = c.args.self.now in
    let share = c.args.share in
    let size = c.loop-size.size in
    let same = ap (λ (f : Front). length f.lists) c.loop-size.invariant.0 in
    let own_is : c.in_ok-own.own ≡ divided share (front_of config search share size) =
    c.in_ok-own.ensures ∙ ap (divided share) c.loop-size.invariant.0 in
    let segment_is : c.in_ok-segment.segment ≡ segment_of config search share size =
    c.in_ok-segment.ensures.findings ∙ ap (λ f. fold (with_list_tried config search) nothing_found (told_in share f)) own_is in
    let one : size + 1 ≡ suc size = omega arith in (
      next_is config search share size c.loop-size.front c.in_ok-segment.next c.loop-size.invariant.0
          (c.in_ok-segment.ensures.next ∙ ap (next_front config search) c.in_ok-own.ensures),
      ap (rows_found config search share) one
          ∙ rows_are config search share size c.loop-size.rows c.loop-size.invariant.1 (omega (arith, c.if-self-len.false, c.len.ensures, same))
          ∙ ap Some (sym (c.in_ok-append_segment.ensures ∙ ap₂ (λ n s. c.loop-size.rows ++ segment_rows n s) c.from.ensures segment_is)),
    )
