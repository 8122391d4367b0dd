use Rattle.hba_program.specs.Steps.{stand}
use Rattle.hba_program.proofs.hba_tool.Writers.{did_all}
use Rattle.hba_program.proofs.hba_tool.serving.host_served.Goals as goal

pub returns-clause-same : goal.returns-clause-same
returns-clause-same g c =
    did_all g.R.Read.remaining g.W.Write.contents _ (stand c.args.session.now c.args.wire.now)
    (stand c.all_lines.new.session c.all_lines.new.wire) c.in_ok-status.ensures.done.does
