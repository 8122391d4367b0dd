use Rattle.std.proofs.Common.{rules, ◌≡◌, ◌+◌, true, false, refl, ap, ◌∙◌, subst, arith}
use Rattle.hba.specs.Ready.{ready_on}
use Rattle.hba_program.specs.Steps.{stand, TurnsOn}
use Rattle.hba_program.proofs.hba_tool.Steps.{turns_none, turns_more, turns_still, turn_of, run_of, none_is_same, not_both}
use Rattle.hba_program.proofs.hba_tool.session.Session.run.Goals as goal

pub loop-count-init : goal.loop-count-init
loop-count-init g c = (turns_none g.R.Read.remaining g.W.Write.contents c.args.number (stand c.args.self.now c.args.wire.now), c.requires)

pub returns-then-is_none : goal.returns-then-is_none
returns-then-is_none g c =
    let before = stand c.args.self.now c.args.wire.now in
    let here = stand c.loop-count.self c.loop-count.wire in
    let middle = stand c.work.new.self c.work.new.wire in
    let rests = none_is_same g.R.Read.remaining g.W.Write.contents c.args.number 0 c.in_ok-told.told here middle (search rules) c.in_ok-told.ensures.works in
    run_of g.R.Read.remaining g.W.Write.contents c.args.number c.loop-count.count false before middle (stand c.say.new.self c.say.new.wire)
    (turns_still g.R.Read.remaining g.W.Write.contents c.args.number c.loop-count.count before here middle c.loop-count.invariant.0 rests.same)
    (ap (λ s. s.wire.is_cut_off) rests.same ∙ c.loop-count.invariant.1)
    c.in_ok-say.ensures
    (λ _ _. ap (λ s. ready_on s.hba) rests.same ∙ rests.idle)

pub returns-then-wire : goal.returns-then-wire
returns-then-wire g c =
    let before = stand c.args.self.now c.args.wire.now in
    let here = stand c.loop-count.self c.loop-count.wire in
    let middle = stand c.work.new.self c.work.new.wire in
    run_of g.R.Read.remaining g.W.Write.contents c.args.number (c.loop-count.count + 1) true before middle middle
    (turns_more g.R.Read.remaining g.W.Write.contents c.args.number c.loop-count.count before here middle c.loop-count.invariant.0
    (turn_of g.R.Read.remaining g.W.Write.contents c.args.number 0 true c.in_ok-told.told here middle middle c.in_ok-told.ensures.works c.if-wire.true refl))
    c.if-wire.true
    refl
    (λ is _. not_both c.work.new.wire.is_cut_off c.if-wire.true is)

pub loop-count-preserved : goal.loop-count-preserved
loop-count-preserved g c =
    let before = stand c.args.self.now c.args.wire.now in
    let here = stand c.loop-count.self c.loop-count.wire in
    let middle = stand c.work.new.self c.work.new.wire in
    let after = stand c.say_work.new.self c.say_work.new.wire in (
      turns_more g.R.Read.remaining g.W.Write.contents c.args.number c.loop-count.count before here after c.loop-count.invariant.0
          (turn_of g.R.Read.remaining g.W.Write.contents c.args.number 0 false c.in_ok-told.told here middle after
          c.in_ok-told.ensures.works c.if-wire.false c.in_ok-say_work.ensures),
      c.in_ok-say_work.ensures.says.marks.0 ∙ c.if-wire.false,
    )

pub returns : goal.returns
returns g c =
    let before = stand c.args.self.now c.args.wire.now in
    let here = stand c.loop-count.self c.loop-count.wire in
    let is_end : c.loop-count.count ≡ 4294967295 = search rules in
    run_of g.R.Read.remaining g.W.Write.contents c.args.number 4294967295 false before here (stand c.say-2.new.self c.say-2.new.wire)
    (subst (λ n. TurnsOn g.R.Read.remaining g.W.Write.contents c.args.number n before here) is_end c.loop-count.invariant.0)
    c.loop-count.invariant.1
    c.in_ok-say-2.ensures
    (λ _ less. absurd (omega (arith, less)))
