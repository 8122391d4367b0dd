use Rattle.std.proofs.Common.{◌≡◌, ◌∙◌, ap, ap₂, true, refl, IfOk, subst, Ok}
use Rattle.std.proofs.lemmas.Result.{IfOk-weaker}
use Rattle.clap.specs.Words.{App, app_of, with_subcommand}
use Rattle.clap.proofs.SimpleLemmas.{plain_fields}
use Rattle.opalport.proofs.command_line.with_command.Goals as goal

pub returns-in-Ok : goal.returns-in-Ok
returns-in-Ok c line plain is =
    let below : app_of c.in-Ok.below ≡ line = subst (λ r. IfOk r (λ b. app_of b ≡ line)) c.in-Ok.is is in
    let fields = plain_fields c.in-Ok.below (ap (λ (a : App). a.top.is_plain) below ∙ plain) in
    IfOk-weaker c.subcommand.result _ _
    (λ command adds. adds.shape fields.globals ∙ ap (λ (a : App). with_subcommand (app_of c.args.command) a.top) below)
    c.subcommand.ensures
