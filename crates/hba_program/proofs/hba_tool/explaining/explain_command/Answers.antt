-- The acts of a command are its acceptance alone.
use Rattle.std.proofs.Common.{[], ◌∷◌, ◌∙◌, refl, sym, ap, List, ℕ, false}
use Rattle.history.specs.History.{Accept}
use Rattle.reasons.specs.declared.explained.onset.Counted.TheVariants.{Acts}
use Rattle.reasons.specs.Onsets.{bare_acts}
use Rattle.reasons.specs.Rulings.{command_carried}
use Rattle.drive_scripts.specs.Explanations.{denial_text}
use Rattle.drive_scripts.proofs.Added.{bare_one, reasons_of_command}
use Rattle.hba_program.proofs.hba_tool.explaining.explain_command.Goals as goal

pub returns : goal.returns
returns c = λ o past fis payload told agrees kept.
    let acts = Accept fis payload ∷ bare_acts past in
    let heard = c.args.heard.now in
    record {
      bare = bare_one c.args.source (Accept fis payload) past;
      recounts = c.note_command.ensures o past acts fis 0 [] (sym told.header)
          (ap (λ (bytes : List ℕ). Accept fis bytes ∷ bare_acts past) (sym (c.deref.ensures.value ∙ told.payload))) agrees kept;
      reasons = c.in_ok-text.ensures o past acts agrees kept
          ∙ ap (λ (bytes : List ℕ). denial_text Acts o past acts (command_carried heard.header) bytes heard.denied heard.rule) told.payload
          ∙ reasons_of_command o false fis payload 0 [] past acts heard.header heard.denied heard.rule (sym told.header) refl told.denied told.rule;
    }
