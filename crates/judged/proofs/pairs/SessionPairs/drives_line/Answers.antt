use Rattle.std.proofs.Common.{◌∙◌, ◌==◌, ap, cond, sym}
use Rattle.std.proofs.lemmas.Bool.{ne_eqb}
use Rattle.judged.specs.SessionNumbers.{received_line}
use Rattle.judged.specs.SessionPairs.{drives_number, named_by_drive, drives_line_by}
use Rattle.judged.proofs.pairs.SessionPairs.drives_line.Goals as goal

pub returns : goal.returns
returns c =
    let pairs = c.args.self.now in
    let line = c.args.line.now in
    let received = c.in-Some.received in
    let tsn = received.session.tsn in
    let moves = ap (λ number. number == tsn) (sym c.drives_number-number.ensures) ∙ ne_eqb _ _ c.if-number-received.false in
    c.into_bytes.ensures ∙ c.in_ok-made.ensures ∙ ap received_line c.named_by_drive.ensures
    ∙ ap (λ number. received_line (named_by_drive number received)) c.drives_number-number.ensures
    ∙ sym (ap (λ t. cond t line (received_line (named_by_drive (drives_number pairs tsn) received))) moves)
    ∙ ap (drives_line_by pairs line) (sym c.in-Some.is ∙ c.in_ok-received.ensures.exact)
