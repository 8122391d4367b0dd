use Rattle.std.proofs.Common.{arith, sym, ◌∙◌, ◌-◌}
use Rattle.locking.proofs.Searches.{rises, covered_row, covers_on, behind_next, gap_first, gap_after}
use Rattle.locking.proofs.numbered.NumberedRanges.piece_at.Goals as goal
use Rattle.locking.proofs.numbered.NumberedRanges.piece_at.Goals.{then-begun-gt0+else-covers, else-begun-gt0}

pub begun_by-begun-requires : goal.begun_by-begun-requires
begun_by-begun-requires c = rw c.deref.ensures.value (rises _ _ c.self.invariant.0 c.args.global)

pub returns-then-covers-clause-row : goal.returns-then-covers-clause-row
returns-then-covers-clause-row c =
    let bound = rw c.deref.ensures.value at c.begun_by-begun.ensures.bound in
    let held = sym c.covers.ensures ∙ c.if-covers.true in
    rw (sym c.self.view_is) (sym (covered_row _ _ c.self.invariant.0 c.args.global c.index-then-begun-gt0.result.now c.index.result.now (c.begun_by-begun.result - 1) c.args.sector (omega arith) c.index.ensures c.index-then-begun-gt0.ensures held))

pub returns-then-covers-clause-same : goal.returns-then-covers-clause-same
returns-then-covers-clause-same c = λ s le lt.
    let bound = rw c.deref.ensures.value at c.begun_by-begun.ensures.bound in
    let held = sym c.covers.ensures ∙ c.if-covers.true in
    rw (sym c.self.view_is) (covered_row _ _ c.self.invariant.0 c.args.global c.index-then-begun-gt0.result.now c.index.result.now (c.begun_by-begun.result - 1) s (omega arith) c.index.ensures c.index-then-begun-gt0.ensures
    (covers_on c.index-then-begun-gt0.result.now c.args.sector s c.saturating_add-end.result held le lt (omega (arith, c.saturating_add-end.ensures))))

pub returns-in-Some-clause-row : goal.returns-in-Some-clause-row
returns-in-Some-clause-row c =
    let bound = rw c.deref.ensures.value at c.begun_by-begun.ensures.bound in
    let before = rw c.deref.ensures.value at c.begun_by-begun.ensures.before in
    let behind = rw c.deref.ensures.value at c.begun_by-begun.ensures.behind in
    rw (sym c.self.view_is) (elim c.if-begun-gt0.branch [
      | then-begun-gt0+else-covers w ↦
          let more = w.if-begun-gt0.true in
          let free = sym w.covers.ensures ∙ w.if-covers.false in
          sym (gap_after _ _ c.self.invariant.0 c.args.global w.index-then-begun-gt0.result.now w.index.result.now (c.begun_by-begun.result - 1) c.args.sector c.args.sector (omega arith) w.index.ensures w.index-then-begun-gt0.ensures
          (before (c.begun_by-begun.result - 1) w.index.result.now (omega arith)) free (omega arith) (λ j e at lt. behind j e (omega arith) lt))
      | else-begun-gt0 w ↦
          let none = w.if-begun-gt0.false in
          sym (gap_first _ _ c.self.invariant.0 c.args.global c.in-Some.next.now c.args.sector (λ k e lt. behind k e (omega arith) lt))
    ])

pub returns-in-Some-clause-same : goal.returns-in-Some-clause-same
returns-in-Some-clause-same c = λ s le lt.
    let bound = rw c.deref.ensures.value at c.begun_by-begun.ensures.bound in
    let before = rw c.deref.ensures.value at c.begun_by-begun.ensures.before in
    let next = rw c.deref-2.ensures.value at c.in-Some.ensures.lookup.3 in
    let behind = behind_next _ _ c.self.invariant.0 c.args.global c.in-Some.next.now c.begun_by-begun.result s next.1 lt in
    rw (sym c.self.view_is) (elim c.if-begun-gt0.branch [
      | then-begun-gt0+else-covers w ↦
          let more = w.if-begun-gt0.true in
          let free = sym w.covers.ensures ∙ w.if-covers.false in
          gap_after _ _ c.self.invariant.0 c.args.global w.index-then-begun-gt0.result.now w.index.result.now (c.begun_by-begun.result - 1) c.args.sector s (omega arith) w.index.ensures w.index-then-begun-gt0.ensures
          (before (c.begun_by-begun.result - 1) w.index.result.now (omega arith)) free le (λ j e at len. behind j e (omega arith) len)
      | else-begun-gt0 w ↦
          let none = w.if-begun-gt0.false in
          gap_first _ _ c.self.invariant.0 c.args.global c.in-Some.next.now s (λ k e len. behind k e (omega arith) len)
    ])

pub returns-in-None-clause-same : goal.returns-in-None-clause-same
returns-in-None-clause-same c = λ s le lt.
    let bound = rw c.deref.ensures.value at c.begun_by-begun.ensures.bound in
    let before = rw c.deref.ensures.value at c.begun_by-begun.ensures.before in
    let over = rw c.deref-2.ensures.value at c.in-None.ensures.lookup.3 in
    rw (sym c.self.view_is) (elim c.if-begun-gt0.branch [
      | then-begun-gt0+else-covers w ↦
          let more = w.if-begun-gt0.true in
          let free = sym w.covers.ensures ∙ w.if-covers.false in
          gap_after _ _ c.self.invariant.0 c.args.global w.index-then-begun-gt0.result.now w.index.result.now (c.begun_by-begun.result - 1) c.args.sector s (omega arith) w.index.ensures w.index-then-begun-gt0.ensures
          (before (c.begun_by-begun.result - 1) w.index.result.now (omega arith)) free le (λ j e at len. absurd (omega arith))
      | else-begun-gt0 w ↦
          let none = w.if-begun-gt0.false in
          gap_first _ _ c.self.invariant.0 c.args.global (record { sector = 0; place = 0 }) s (λ k e len. absurd (omega arith))
    ])

pub returns-in-None-clause-row : goal.returns-in-None-clause-row
returns-in-None-clause-row c =
    let bound = rw c.deref.ensures.value at c.begun_by-begun.ensures.bound in
    let before = rw c.deref.ensures.value at c.begun_by-begun.ensures.before in
    let over = rw c.deref-2.ensures.value at c.in-None.ensures.lookup.3 in
    rw (sym c.self.view_is) (elim c.if-begun-gt0.branch [
      | then-begun-gt0+else-covers w ↦
          let more = w.if-begun-gt0.true in
          let free = sym w.covers.ensures ∙ w.if-covers.false in
          sym (gap_after _ _ c.self.invariant.0 c.args.global w.index-then-begun-gt0.result.now w.index.result.now (c.begun_by-begun.result - 1) c.args.sector c.args.sector (omega arith) w.index.ensures w.index-then-begun-gt0.ensures
          (before (c.begun_by-begun.result - 1) w.index.result.now (omega arith)) free (omega arith) (λ j e at len. absurd (omega arith)))
      | else-begun-gt0 w ↦
          let none = w.if-begun-gt0.false in
          sym (gap_first _ _ c.self.invariant.0 c.args.global (record { sector = 0; place = 0 }) c.args.sector (λ k e len. absurd (omega arith)))
    ])
