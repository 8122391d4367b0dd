use Rattle.std.proofs.Common.{◌∙◌, ap, refl, map}
use Rattle.clap.specs.Words.{found_of}
use Rattle.clap.proofs.WalkLemmas.{raw_values-rows}
use Rattle.opalport.proofs.Matches.{texts_or_none}
use Rattle.opalport.proofs.command_line.texts_in.Goals as goal

pub returns : goal.returns
returns c =
    ap (λ xs. map (λ s. s.now) xs) (c.in_ok-texts.ensures.items ∙ ap (λ s. s.now) c.unwrap_or.ensures)
    ∙ texts_or_none c.get_strs.result _ _ (c.get_strs.ensures ∙ raw_values-rows (found_of c.args.matches.now) c.args.id.now) refl
