use Rattle.std.proofs.Common.{ℕ, Result, Ok, IfOk, subst}
use Rattle.std.specs.Io.Buffered.{reader_remaining}
use Rattle.runs.specs.Progress.{Records, ScriptEnds}
use Rattle.runs.proofs.recorded.Whole.{records-so}
use Rattle.runs.proofs.recorded.Outcomes.{yields-so}
use Rattle.runs.proofs.recorded.script.record_script.Goals as goal

pub returns-clause-records : goal.returns-clause-records
returns-clause-records g c =
    let made : Result ℕ ℕ = Ok c.in_ok-status.status in
    let input = reader_remaining g.R.Read.remaining c.in_ok-reader.reader in
    let old = g.W.Write.contents c.args.output.now in
    let now = g.W.Write.contents c.all_lines-end.new.output in
    let new = g.W.Write.contents c.hand_on_behind.new.output in
    subst
    (λ input. Records c.args.explains c.args.options.now input c.in_ok-status.status old new
    (λ base came. g.K.Recorder.holds base c.args.recorder.now came)
    (λ base came. g.K.Recorder.holds base c.hand_on_behind.new.recorder came))
    c.in_ok-reader.ensures.reader
    (records-so made c.in_ok-end.end input c.args.explains c.args.options.now old now new _ _ _ _ _
    c.in_ok-status.ensures.status c.new-report.ensures.pending c.in_ok-end.ensures.written c.in_ok-end.ensures.keeps
    (subst
    (λ r. IfOk r (λ end. ScriptEnds c.args.explains c.args.options.now input end c.new-report.result
    c.all_lines-end.new.report old now
    (λ base came. g.K.Recorder.holds base c.args.recorder.now came)
    (λ base came. g.K.Recorder.holds base c.all_lines-end.new.recorder came)))
    c.in_ok-end.ensures.is c.all_lines-end.ensures))

pub returns-clause-whole : goal.returns-clause-whole
returns-clause-whole g c =
    yields-so (g.R.Read.remaining c.args.input) c.args.explains c.args.options.now c.in_ok-status.status _ _ _ _
    (returns-clause-records g c)
