use Rattle.std.proofs.Common.{◌∙◌, ap, codes}
use Rattle.std.proofs.lemmas.Result.{IfOk-weaker}
use Rattle.clap.specs.Words.{App, with_rule}
use Rattle.opalport.specs.CommandLine.{option_rule, free_rule}
use Rattle.opalport.proofs.command_line.with_drive.Goals as goal

pub returns : goal.returns
returns c =
    let one = c.in_ok-c.ensures in
    let two = c.in_ok-c-2.ensures ∙ ap (λ (a : App). with_rule a (free_rule (codes "shadow"))) one in
    let three = c.in_ok-c-3.ensures ∙ ap (λ (a : App). with_rule a (option_rule (codes "msid") (codes "4f50414c4d534944"))) two in
    let four = c.in_ok-c-4.ensures ∙ ap (λ (a : App). with_rule a (option_rule (codes "profile") (codes "base"))) three in
    let five = c.in_ok-c-5.ensures ∙ ap (λ (a : App). with_rule a (free_rule (codes "serial"))) four in
    let six = c.in_ok-c-6.ensures ∙ ap (λ (a : App). with_rule a (free_rule (codes "model"))) five in
    let seven = c.in_ok-c-7.ensures ∙ ap (λ (a : App). with_rule a (free_rule (codes "psid"))) six in
    let eight = c.in_ok-c-8.ensures ∙ ap (λ (a : App). with_rule a (free_rule (codes "datastore"))) seven in
    IfOk-weaker c.with_free_option-7.result _ _
    (λ command is. is ∙ ap (λ (a : App). with_rule a (free_rule (codes "seed"))) eight)
    c.with_free_option-7.ensures
