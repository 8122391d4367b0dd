use Rattle.std.proofs.Common.{refl}
use Rattle.reasons.specs.Onsets.{bare_acts}
use Rattle.script_lines.specs.Lines.{line_said}
use Rattle.drive_scripts.proofs.Turns.{explained-gone, explained-ends}
use Rattle.drive_scripts.proofs.drive_phase.explained_turn.Goals as goal

pub returns-in_ok-explain_line-in-Goes : goal.returns-in_ok-explain_line-in-Goes
returns-in_ok-explain_line-in-Goes c = λ o past runs kept.
    explained-gone (line_said c.args.text.now) c.args.text.now c.in_ok-turn.turn _ c.args.run.now c.turn.new.self
    c.explain_line.new.explainer o past c.args.number c.args.report.now c.turn.new.report
    c.explain_line.new.report refl c.in-Goes.is runs
    (λ line reads. c.in_ok-turn.ensures.does line reads o (bare_acts past) runs)
    (c.in_ok-turn.ensures.steps o (bare_acts past) runs)
    (λ line reads acts now acted. c.in_ok-explain_line-in-Goes.ensures line reads o past acts now acted kept)

pub returns-in-ExpectationFailed : goal.returns-in-ExpectationFailed
returns-in-ExpectationFailed c = λ o past runs kept.
    explained-ends c.in_ok-turn.turn _ _ o past c.turn.new.self c.args.explainer.now c.args.report.now
    c.turn.new.report (λ aborted is. absurd (cc (is, c.in-ExpectationFailed.is)))
    (c.in_ok-turn.ensures.steps o (bare_acts past) runs)

pub returns-in-Bad : goal.returns-in-Bad
returns-in-Bad c = λ o past runs kept.
    explained-ends c.in_ok-turn.turn _ _ o past c.turn.new.self c.args.explainer.now c.args.report.now
    c.turn.new.report (λ aborted is. absurd (cc (is, c.in-Bad.is)))
    (c.in_ok-turn.ensures.steps o (bare_acts past) runs)
