use Rattle.std.proofs.Common.{rules, ◌≡◌, ◌+◌, true, false, refl, inl, inr, []}
use Rattle.hba_program.specs.Steps.{stand}
use Rattle.hba_program.proofs.hba_tool.Steps.{lines_none, lines_more, reads_line}
use Rattle.hba_program.proofs.hba_tool.Waves.{begins, goes_on, all_waved}
use Rattle.hba_program.proofs.hba_tool.serving.all_lines.Goals as goal

pub loop-count-init : goal.loop-count-init
loop-count-init g c = (
  [],
  lines_none g.R.Read.remaining g.W.Write.contents (stand c.args.session.now c.args.wire.now),
  c.requires,
  λ o list agrees. begins g.D.Write.contents o list c.args.session.now.hba c.args.dump.now c.show_if.new.dump agrees
      (c.in_ok-show_if.ensures o list agrees),
)

pub returns-then-not-branch-clause-done : goal.returns-then-not-branch-clause-done
returns-then-not-branch-clause-done g c =
    let e = c.in_ok-next_line.ensures in
    let (left, lines, uncut, gone) = c.loop-count.invariant in
    all_waved g.R.Read.remaining g.W.Write.contents g.D.Write.contents c.loop-count.count _ left (stand c.args.session.now c.args.wire.now)
    (stand c.loop-count.session c.loop-count.wire) (stand c.loop-count.session c.next_line.new.self) _ _ lines
    (inl (reads_line g.R.Read.remaining c.in_ok-next_line.field-0 false c.loop-count.session c.loop-count.wire c.next_line.new.self
    c.if-not-branch.true e.taken e.same e.unwritten e.marks))
    c.lines_status.ensures.status (λ o list agrees. (gone o list agrees).1)

pub returns-then-wire-clause-done : goal.returns-then-wire-clause-done
returns-then-wire-clause-done g c =
    let e = c.in_ok-next_line.ensures in
    let (left, lines, uncut, gone) = c.loop-count.invariant in
    let last = stand c.turn.new.session c.turn.new.wire in
    let reads = reads_line g.R.Read.remaining c.in_ok-next_line.field-0 true c.loop-count.session c.loop-count.wire c.next_line.new.self
    c.if-not-branch.false e.taken e.same e.unwritten e.marks in
    all_waved g.R.Read.remaining g.W.Write.contents g.D.Write.contents (c.loop-count.count + 1) _ _ (stand c.args.session.now c.args.wire.now) last last _ _
    (lines_more g.R.Read.remaining g.W.Write.contents c.loop-count.count left (stand c.args.session.now c.args.wire.now)
    (stand c.loop-count.session c.loop-count.wire) (stand c.loop-count.session c.next_line.new.self) last lines
    reads c.in_ok-turn.ensures)
    (inr (refl, inl c.if-wire.true))
    c.lines_status-then-wire.ensures.status
    (λ o list agrees. (goes_on g.R.Read.remaining g.W.Write.contents g.D.Write.contents o list left (c.loop-count.count + 1)
    (stand c.loop-count.session c.loop-count.wire) (stand c.loop-count.session c.next_line.new.self) last _ _ _
    reads c.in_ok-turn.ensures (λ now agrees. c.in_ok-show_if-2.ensures o now agrees) (gone o list agrees)).1)

pub loop-count-preserved : goal.loop-count-preserved
loop-count-preserved g c =
    let e = c.in_ok-next_line.ensures in
    let (left, lines, uncut, gone) = c.loop-count.invariant in
    let last = stand c.turn.new.session c.turn.new.wire in
    let reads = reads_line g.R.Read.remaining c.in_ok-next_line.field-0 true c.loop-count.session c.loop-count.wire c.next_line.new.self
    c.if-not-branch.false e.taken e.same e.unwritten e.marks in (
      _,
      lines_more g.R.Read.remaining g.W.Write.contents c.loop-count.count left (stand c.args.session.now c.args.wire.now)
          (stand c.loop-count.session c.loop-count.wire) (stand c.loop-count.session c.next_line.new.self) last lines
          reads c.in_ok-turn.ensures,
      c.if-wire.false,
      λ o list agrees. goes_on g.R.Read.remaining g.W.Write.contents g.D.Write.contents o list left (c.loop-count.count + 1)
          (stand c.loop-count.session c.loop-count.wire) (stand c.loop-count.session c.next_line.new.self) last _ _ _
          reads c.in_ok-turn.ensures (λ now agrees. c.in_ok-show_if-2.ensures o now agrees) (gone o list agrees),
    )

pub returns-clause-done : goal.returns-clause-done
returns-clause-done g c =
    let last = stand c.loop-count.session c.loop-count.wire in
    let (left, lines, uncut, gone) = c.loop-count.invariant in
    let is_end : c.loop-count.count ≡ 18446744073709551615 = search rules in
    all_waved g.R.Read.remaining g.W.Write.contents g.D.Write.contents c.loop-count.count _ left (stand c.args.session.now c.args.wire.now) last last _ _
    lines (inr (refl, inr is_end)) c.lines_status-2.ensures.status (λ o list agrees. (gone o list agrees).1)
