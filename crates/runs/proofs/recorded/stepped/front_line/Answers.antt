use Rattle.std.proofs.Common.{subst}
use Rattle.std.proofs.lemmas.Result.{IfOk-weaker}
use Rattle.runs.specs.Progress.{TurnsSo}
use Rattle.runs.proofs.recorded.LineByLine.{goes-makes, runs-makes, bad-makes, front-stands}
use Rattle.runs.proofs.recorded.stepped.front_line.Goals as goal

pub run_line-requires : goal.run_line-requires
run_line-requires c =
    front-stands c.args.explains c.args.remarks c.args.front c.args.text.now c.in-Runs.run'
    (subst (TurnsSo c.args.explains c.args.remarks c.args.front c.args.text.now) c.in-Runs.is c.in_ok-front.ensures)

pub returns-in-Goes-clause-makes : goal.returns-in-Goes-clause-makes
returns-in-Goes-clause-makes c = λ config.
    goes-makes c.args.explains config c.args.remarks c.args.front c.in-Goes.front c.args.number c.args.text.now c.args.report.now
    (subst (TurnsSo c.args.explains c.args.remarks c.args.front c.args.text.now) c.in-Goes.is c.in_ok-front.ensures)

pub returns-in-Runs-clause-makes : goal.returns-in-Runs-clause-makes
returns-in-Runs-clause-makes c =
    IfOk-weaker c.run_line.result _ _
    (λ stage makes. λ config.
    runs-makes c.args.explains config c.args.remarks c.args.front c.in-Runs.run' c.args.number c.args.text.now c.args.report.now c.run_line.new.report stage
    (subst (TurnsSo c.args.explains c.args.remarks c.args.front c.args.text.now) c.in-Runs.is c.in_ok-front.ensures) makes)
    c.run_line.ensures.makes

pub returns-in-Bad-clause-makes : goal.returns-in-Bad-clause-makes
returns-in-Bad-clause-makes c = λ config.
    bad-makes c.args.explains config c.args.remarks c.args.front c.args.number c.args.text.now c.args.report.now
    (subst (TurnsSo c.args.explains c.args.remarks c.args.front c.args.text.now) c.in-Bad.is c.in_ok-front.ensures)
