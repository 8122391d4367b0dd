use Rattle.std.proofs.Common.{subst}
use Rattle.tool.specs.Courses.{PhaseStands}
use Rattle.tool.proofs.Turns.{drive-stands, drive-turns, named-stands, named-turns, port-turns}
use Rattle.tool.proofs.phase.Phase.turn.Goals as goal

pub turn-requires : goal.turn-requires
turn-requires c = drive-stands c.in-Drive.drive (subst PhaseStands c.in-Drive.is c.requires)

pub returns-in-Drive : goal.returns-in-Drive
returns-in-Drive c = record {
  steps = rw c.in-Drive.is (drive-turns c.turn.result c.in-Drive.drive c.turn.new.self c.args.number c.args.text.now
      c.args.report.now c.turn.new.report c.turn.ensures);
}

pub turn-requires-in-Named : goal.turn-requires-in-Named
turn-requires-in-Named c = named-stands c.in-Named.named (subst PhaseStands c.in-Named.is c.requires)

pub returns-in-Named : goal.returns-in-Named
returns-in-Named c = record {
  steps = rw c.in-Named.is (named-turns c.turn-in-Named.result c.in-Named.named c.turn-in-Named.new.self c.args.number
      c.args.text.now c.args.report.now c.turn-in-Named.new.report c.turn-in-Named.ensures);
}

pub returns-in-Port : goal.returns-in-Port
returns-in-Port c = record {
  steps = rw c.in-Port.is (port-turns c.turn-in-Port.result c.in-Port.port c.turn-in-Port.new.self c.args.number
      c.args.text.now c.args.report.now c.turn-in-Port.new.report c.turn-in-Port.ensures);
}
