use Rattle.std.proofs.Common.{◌≡◌, ◌∙◌, ap, sym, refl, subst, true, map, string_bytes}
use Rattle.std.specs.Prelude.{option_and_then}
use Rattle.clap.specs.Words.{App, FailsBy, fault_of, is_simple, is_simple_and_free, subcommand_of}
use Rattle.clap.proofs.OnLiterals.{clap_on_literals}
use Rattle.opalport.proofs.Matches.{fails_so}
use Rattle.opalport.specs.CommandLine.{asked_of, opalport_line}
use Rattle.opalport.proofs.command_line.request_of.Goals as goal

is_simple_line : is_simple_and_free opalport_line ≡ true
unfolding clap_on_literals
is_simple_line = refl

pub returns-clause-fails : goal.returns-clause-fails
returns-clause-fails c =
    let is_line = c.in_ok-command.ensures in
    ap (λ (line : App). fault_of line (map string_bytes c.args.words.now)) (sym is_line)
    ∙ c.in_ok-matches.ensures.kinds (ap is_simple_and_free is_line ∙ is_simple_line)

is_simple_too : is_simple opalport_line ≡ true
unfolding clap_on_literals
is_simple_too = refl

pub returns-in_err-matches-clause-fails : goal.returns-in_err-matches-clause-fails
returns-in_err-matches-clause-fails c =
    let is_line = c.in_ok-command.ensures in
    subst
    (λ (line : App). FailsBy (fault_of line (map string_bytes c.args.words.now))
    c.from_residual-in_err-matches.result)
    is_line
    (fails_so c.from_residual-in_err-matches.result _ c.in_err-matches.field-0.0
    c.from_residual-in_err-matches.ensures.1
    (c.in_err-matches.ensures.kinds (ap is_simple_and_free is_line ∙ is_simple_line)))

pub returns-clause-asks : goal.returns-clause-asks
returns-clause-asks c =
    let is_line = c.in_ok-command.ensures in
    c.in_ok-request_in.ensures
    ∙ ap (option_and_then asked_of)
    ((c.in_ok-matches.ensures.matches (ap is_simple is_line ∙ is_simple_too)).1
    ∙ ap (λ (line : App). subcommand_of line (map string_bytes c.args.words.now)) is_line)
