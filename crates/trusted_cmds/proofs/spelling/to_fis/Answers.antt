use Rattle.std.proofs.Common.{◌≡◌, ◌∙◌, Ok, true, subst, sym, ap}
use Rattle.trusted_cmds.specs.declared.command.Command.{Command}
use Rattle.trusted_cmds.specs.Commands.{log_read_fis, log_place, tag_with}
use Rattle.trusted_cmds.specs.Profiles.{is_offered, reading_in}
use Rattle.trusted_cmds.proofs.Profiles.{pages-back, feature-back}
use Rattle.trusted_cmds.proofs.spelling.to_fis.Goals as goal

pub returns-in-ReadLog-clause-back : goal.returns-in-ReadLog-clause-back
returns-in-ReadLog-clause-back c = λ p offered.
    ap (reading_in p) (c.log_read-in-ReadLog.ensures ∙ ap (λ place. log_read_fis place c.count.result c.in-ReadLog.dma) c.log_place.ensures.value ∙ ap (λ count. log_read_fis (log_place c.in-ReadLog.pages) count c.in-ReadLog.dma) c.count.ensures)
    ∙ pages-back c.in-ReadLog.pages c.in-ReadLog.dma p (subst (λ (x : Command). is_offered p x ≡ true) c.in-ReadLog.is offered)
    ∙ sym (ap (λ (x : Command). Ok (x, tag_with x c.args.tag)) c.in-ReadLog.is)

pub returns-in-SetFeatures-clause-back : goal.returns-in-SetFeatures-clause-back
returns-in-SetFeatures-clause-back c = λ p offered.
    ap (reading_in p) c.set_features.ensures
    ∙ feature-back c.in-SetFeatures.feature p (subst (λ (x : Command). is_offered p x ≡ true) c.in-SetFeatures.is offered)
    ∙ sym (ap (λ (x : Command). Ok (x, tag_with x c.args.tag)) c.in-SetFeatures.is)
