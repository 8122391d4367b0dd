use Rattle.std.proofs.Common.{sym, ap, refl, ◌∙◌}
use Rattle.std.specs.Prelude.{is_some}
use Rattle.drive_scripts.proofs.Runs.{command-then, answered-command}
use Rattle.drive_scripts.proofs.running.RunningPhase.command.Goals as goal
use Rattle.drive_scripts.proofs.running.RunningPhase.command.Goals.{then-has_failed, else-has_failed}

pub returns : goal.returns
returns c = λ o acts runs.
    let accepts = c.in_ok-accept.ensures.accepts o acts (c.is_first_abort-is_first.ensures.runs o acts runs) in
    let same = ap (λ payload. payload.items) c.is_first_abort-is_first.ensures.payload in
    let has = command-then c.accept.new.self o acts c.args.client c.args.command.now c.low_bits.result
    c.is_first_abort-is_first.new.self.payload.items
    c.args.self.now.payload.items c.args.report.now c.print_answer.new.report
    c.accept.new.self.answer c.low_bits.ensures same accepts c.in_ok-print_answer.ensures.prints in (
      record { runs = rw c.give_back_from.ensures has.runs; prints = has.prints },
      elim c.if-has_failed.branch [
        | then-has_failed w ↦ λ told. sym (ap is_some (c.failure.ensures.told o acts runs.0))
            ∙ sym c.is_some-has_failed.ensures
            ∙ c.is_first_abort-is_first.ensures.told (sym w.aborted-is ∙ told)
        | else-has_failed w ↦ λ told. absurd (cc (w.aborted-is, told))
      ],
      answered-command _ c.accept.new.self o acts c.args.client c.args.command.now c.low_bits.result
          c.is_first_abort-is_first.new.self.payload.items c.args.self.now.payload.items
          c.accept.new.self.answer c.low_bits.ensures same
          c.in_ok-accept.ensures.header
          (ap (λ payload. payload.items) c.in_ok-accept.ensures.payload ∙ same)
          c.in_ok-accept.ensures.completed
          (ap (λ answer. answer.denied) c.in_ok-print_answer.ensures.answer)
          (ap (λ answer. answer.rule) c.in_ok-print_answer.ensures.answer) accepts,
    )
