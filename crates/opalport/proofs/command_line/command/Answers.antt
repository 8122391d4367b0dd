use Rattle.std.proofs.Common.{◌≡◌, ◌∙◌, ap, refl, true, codes}
use Rattle.std.proofs.lemmas.Result.{IfOk-weaker}
use Rattle.clap.specs.Words.{App, app_of, with_subcommand}
use Rattle.opalport.specs.CommandLine.{run_line, drive_line, threads_line, tokens_line, decode_line, hba_line, explore_line, judge_line}
use Rattle.opalport.proofs.command_line.command.Goals as goal

pub returns : goal.returns
returns c =
    let one = c.in_ok-c.ensures run_line refl c.run_command.ensures ∙ ap (λ (a : App). with_subcommand a run_line.top) c.top_command.ensures in
    let two = c.in_ok-c-2.ensures (drive_line (codes "level0")) refl c.drive_command.ensures ∙ ap (λ (a : App). with_subcommand a (drive_line (codes "level0")).top) one in
    let three = c.in_ok-c-3.ensures threads_line refl c.threads_command.ensures ∙ ap (λ (a : App). with_subcommand a threads_line.top) two in
    let four = c.in_ok-c-4.ensures tokens_line refl c.tokens_command.ensures ∙ ap (λ (a : App). with_subcommand a tokens_line.top) three in
    let five = c.in_ok-c-5.ensures decode_line refl c.decode_command.ensures ∙ ap (λ (a : App). with_subcommand a decode_line.top) four in
    let six = c.in_ok-c-6.ensures hba_line refl c.hba_command.ensures ∙ ap (λ (a : App). with_subcommand a hba_line.top) five in
    let seven = c.in_ok-c-7.ensures (drive_line (codes "draw")) refl c.drive_command-2.ensures ∙ ap (λ (a : App). with_subcommand a (drive_line (codes "draw")).top) six in
    let eight = c.in_ok-c-8.ensures explore_line refl c.explore_command.ensures ∙ ap (λ (a : App). with_subcommand a explore_line.top) seven in
    IfOk-weaker c.with_command-9.result _ _
    (λ command is. is ∙ ap (λ (a : App). with_subcommand a judge_line.top) eight)
    (c.with_command-9.ensures judge_line refl c.judge_command.ensures)
