use Rattle.std.proofs.Common.{ℕ, List, ap, sym, ◌∙◌, ◌++◌}
use Rattle.reasons.specs.declared.explained.onset.Counted.TheVariants.{Acts}
use Rattle.reasons.specs.Rulings.{command_carried}
use Rattle.reasons.specs.Onsets.{bare_acts}
use Rattle.drive_scripts.specs.Explanations.{denial_text, once_served}
use Rattle.drive_scripts.proofs.Added.{bare_command, reasons_of_command}
use Rattle.drive_scripts.proofs.running.RunningPhase.explain_command.Goals as goal

pub returns : goal.returns
returns c = λ o past acts runs answered kept.
    let run = c.args.self.now in record {
      bare = bare_command c.args.source run.completed answered.fis run.payload.items answered.tag answered.bytes
          past acts answered.acts;
      recounts = c.note_command.ensures o past acts answered.fis answered.tag answered.bytes answered.read
          (answered.acts
          ∙ ap
          (λ payload. once_served run.completed answered.fis payload answered.tag answered.bytes (bare_acts past))
          (sym c.deref-2.ensures.value))
          runs.0 kept;
      pending = c.in_ok-explain.ensures.pending o past acts runs.0 kept
          ∙ ap (λ (payload : List ℕ). c.args.report.now.pending.items ++ denial_text Acts o past acts (command_carried run.header) payload run.answer.denied run.answer.rule)
          c.deref.ensures.value
          ∙ ap (λ text. c.args.report.now.pending.items ++ text)
          (reasons_of_command o run.completed answered.fis run.payload.items answered.tag answered.bytes past acts
          run.header run.answer.denied run.answer.rule answered.read answered.acts answered.denied answered.rule);
      last = c.explain.ensures.last;
    }
