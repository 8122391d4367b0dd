use Rattle.std.proofs.Common.{arith}
use Rattle.runs.proofs.recorded.Running.{recorded-so}
use Rattle.runs.proofs.recorded.script.turn.Goals as goal

pub returns-clause-keeps : goal.returns-clause-keeps
returns-clause-keeps g c = λ o course runs.
    recorded-so c.in_ok-turn.turn _ c.turn_or_skip.new.self o c.args.report.now c.turn_or_skip.new.report c.args.number
    c.args.text.now (λ base came. g.K.Recorder.holds base c.args.recorder.now came)
    (λ base came. g.K.Recorder.holds base c.record_line.new.recorder came) (c.in_ok-turn.ensures.steps o course runs)
    (λ same. c.in_ok-record_line.ensures.silent (omega (arith, same, c.len-pending.ensures)))
    (λ longer. c.in_ok-record_line.ensures.records (omega (arith, longer, c.len-pending.ensures)))
