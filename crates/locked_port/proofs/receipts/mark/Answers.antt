use Rattle.std.proofs.Common.{rules, ◌≡◌, ◌∙◌, sym, ap, subst, ℕ, ◌<◌, ◌≤◌, ◌+◌, ◌⊎◌, length, true, List, Bool, slice_index_or, set, length-set, arith}
use Rattle.locked_port.specs.Receipts.{AreThere, AreOnly}
use Rattle.locked_port.proofs.Marks.{AreNew, there_past, only_past, new_past, there_more, only_more, new_more}
use Rattle.locked_port.proofs.receipts.mark.Goals.{in-None, in-Some+else-marks-place}
use Rattle.locked_port.proofs.receipts.mark.Goals as goal

pub loop-at-preserved : goal.loop-at-preserved
loop-at-preserved c =
    let xs = c.args.receipts.now in
    let first = c.args.first in
    let old = c.loop-at.marks in
    let new = c.match-place_in.marks in
    let at = c.loop-at.at in
    let inv = c.loop-at.invariant in
    let within : at < length xs = search rules in
    elim c.match-place_in.branch [
      | in-Some+else-marks-place w ↦
          let place = w.in-Some.place in
          let size : length new ≡ length old = search rules in record {
            size = size ∙ inv.size;
            there = subst (λ (marks : List Bool). AreThere first xs (at + 1) marks) (sym w.marks-is) (there_more first at place xs _ old within w.in-Some.ensures.0 w.in-Some.ensures.1 inv.there);
            only = subst (λ (marks : List Bool). AreOnly first xs (at + 1) marks) (sym w.marks-is) (only_more first at place xs _ old within w.in-Some.ensures.1 inv.only);
            apart = subst (λ (n : ℕ). AreNew first n xs (at + 1)) (sym size) (new_more first at place xs _ old within w.in-Some.ensures.0 w.in-Some.ensures.1 w.if-marks-place.false inv.there inv.apart);
          }
      | in-None w ↦
          let past = w.in-None.ensures in record {
            size = ap length w.marks-is ∙ inv.size;
            there = subst (λ (marks : List Bool). AreThere first xs (at + 1) marks) (sym w.marks-is) (there_past first at xs _ old within past inv.there);
            only = subst (λ (marks : List Bool). AreOnly first xs (at + 1) marks) (sym w.marks-is) (only_past first at xs old inv.only);
            apart = subst (λ (marks : List Bool). AreNew first (length marks) xs (at + 1)) (sym w.marks-is) (new_past first (length old) at xs _ within past inv.apart);
          }
    ]
