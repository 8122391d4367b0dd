use Rattle.std.proofs.Common.{◌∙◌, [], ap, sym}
use Rattle.std.proofs.lemmas.List.{append-nil}
use Rattle.tcg_tokens.specs.Grammar.{nothing}
use Rattle.tcg_tokens.specs.Reading.{reading}
use Rattle.saved.proofs.saving.spelled.Goals as goal

pub returns : goal.returns
returns c = ap reading (sym (append-nil _)) ∙ c.in_ok-text.ensures.read_again [] nothing
