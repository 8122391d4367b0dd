use Rattle.std.proofs.Common.{◌∙◌, ap, refl}
use Rattle.clap.specs.Words.{found_of}
use Rattle.clap.proofs.WalkLemmas.{first_value-rows}
use Rattle.opalport.proofs.Matches.{text_or_empty}
use Rattle.opalport.proofs.command_line.text_of.Goals as goal

pub returns : goal.returns
returns c =
    ap (λ s. s.now) c.unwrap_or.ensures
    ∙ text_or_empty c.get_str.result _ _ (c.get_str.ensures ∙ first_value-rows (found_of c.args.matches.now) c.args.id.now) refl
