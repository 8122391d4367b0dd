use Rattle.std.proofs.Common.{true, false, refl}
use Rattle.hba_program.specs.Steps.{stand}
use Rattle.hba_program.proofs.hba_tool.Steps.{turn_of}
use Rattle.hba_program.proofs.hba_tool.session.Session.turn.Goals as goal

pub returns-then-wire : goal.returns-then-wire
returns-then-wire g c =
    turn_of g.R.Read.remaining g.W.Write.contents c.args.number c.args.choice true _ (stand c.args.self.now c.args.wire.now)
    (stand c.work.new.self c.work.new.wire) (stand c.work.new.self c.work.new.wire) c.in_ok-told.ensures.works c.if-wire.true refl

pub returns : goal.returns
returns g c =
    turn_of g.R.Read.remaining g.W.Write.contents c.args.number c.args.choice false _ (stand c.args.self.now c.args.wire.now)
    (stand c.work.new.self c.work.new.wire) (stand c.say_work.new.self c.say_work.new.wire) c.in_ok-told.ensures.works c.if-wire.false
    c.in_ok-say_work.ensures
