use Rattle.std.proofs.Common.{rules, ap, []}
use Rattle.hba.specs.History.{over_new_by}
use Rattle.hba_program.specs.Steps.{stand}
use Rattle.hba_program.proofs.hba_tool.serving.serve.Goals as goal

pub returns-clause-served : goal.returns-clause-served
returns-clause-served g c = record {
  serves = record {
    first = stand c.new-session.result c.in-Ok.wire;
    last = stand c.host_served-served.new.session c.host_served-served.new.wire;
    starts = record {
      hba = c.new-session.ensures.hba;
      kept = c.new-session.ensures.kept;
      denials = c.new-session.ensures.denials;
      left = c.in-Ok.ensures.left;
      unwritten = ap g.W.Write.contents c.in-Ok.ensures.unwritten;
      cut_off = c.in-Ok.ensures.marks.0;
      complained = c.in-Ok.ensures.marks.1;
      failure = c.in-Ok.ensures.marks.2;
    };
    does = c.in_ok-status.ensures.done.does;
    written = search rules;
  };
  shows = λ o agrees. c.in_ok-status.ensures.done.shows (over_new_by c.args.way.width o) [] (c.new-session.ensures.hba o agrees);
}
