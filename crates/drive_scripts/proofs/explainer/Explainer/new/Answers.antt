use Rattle.std.proofs.Common.{[]}
use Rattle.drive_scripts.proofs.explainer.Explainer.new.Goals as goal

pub returns : goal.returns
returns c = λ o agrees. record {
  onsets = c.opened-chronicle.ensures o (c.in_force.ensures.told o [] agrees);
  sessions = c.opened-sessions.ensures o;
}
