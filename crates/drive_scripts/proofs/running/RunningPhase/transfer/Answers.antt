use Rattle.std.proofs.Common.{ap, sym, ◌∙◌}
use Rattle.std.specs.Prelude.{is_some}
use Rattle.drive_scripts.proofs.Runs.{held-then, failed-then, answered-held, answered-failed}
use Rattle.drive_scripts.proofs.running.RunningPhase.transfer.Goals as goal

pub returns-then-self : goal.returns-then-self
returns-then-self c = λ o acts runs.
    let accepts = c.in_ok-accept.ensures.accepts o acts (c.is_first_abort-aborted.ensures.runs o acts runs) in (
      held-then c.serve.new.self c.accept.new.self o acts c.args.command.now c.args.transfer.now
          c.args.byte c.args.report.now c.serve.new.report
          c.accept.new.self.answer c.clear.new.self.items c.clear.ensures.items c.if-self.true
          accepts c.in_ok-serve.ensures.serves,
      λ told. absurd (cc told),
      answered-held c.serve.new.self c.accept.new.self o acts c.args.command.now c.args.transfer.now
          c.args.byte c.clear.new.self.items c.accept.new.self.answer c.clear.ensures.items c.if-self.true
          (c.serve.ensures.header ∙ c.in_ok-accept.ensures.header)
          (ap (λ payload. payload.items) (c.serve.ensures.payload ∙ c.accept.ensures.payload))
          c.in_ok-serve.ensures.completed c.serve.ensures.answer accepts,
    )

pub returns : goal.returns
returns c = λ o acts runs.
    let accepts = c.in_ok-accept.ensures.accepts o acts (c.is_first_abort-aborted.ensures.runs o acts runs) in (
      failed-then _ c.accept.new.self o acts c.args.command.now c.args.transfer.now
          c.args.byte c.args.report.now c.print_failure.new.report
          c.accept.new.self.answer c.clear.new.self.items c.clear.ensures.items c.if-self.false
          accepts accepts.runs c.in_ok-print_failure.ensures.prints,
      λ told. sym (ap is_some (c.failure.ensures.told o acts runs.0))
          ∙ sym c.is_some-has_failed.ensures
          ∙ c.is_first_abort-aborted.ensures.told told,
      answered-failed _ c.accept.new.self o acts c.args.command.now c.args.transfer.now
          c.args.byte c.clear.new.self.items c.accept.new.self.answer c.clear.ensures.items c.if-self.false
          c.in_ok-accept.ensures.header
          (ap (λ payload. payload.items) c.accept.ensures.payload)
          c.in_ok-accept.ensures.completed c.in_ok-print_failure.ensures.answer accepts,
    )
