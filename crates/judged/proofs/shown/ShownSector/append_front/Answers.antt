use Rattle.std.proofs.Common.{◌++◌, ◌∙◌, List, ℕ, append_assoc, ap}
use Rattle.std.specs.Prelude.{codes}
use Rattle.judged.specs.Shown.{words_and_number}
use Rattle.judged.proofs.shown.ShownSector.append_front.Goals as goal

pub returns : goal.returns
returns c =
    let line = words_and_number (codes "because line ") c.args.self.now.line in
    let sector = words_and_number (codes " showed sector ") c.args.self.now.sector in
    c.in_ok-append_number-2.ensures ∙ ap (λ (text : List ℕ). text ++ sector) c.in_ok-append_number.ensures
    ∙ append_assoc c.args.text.now line sector
