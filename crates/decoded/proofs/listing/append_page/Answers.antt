use Rattle.std.proofs.Common.{◌∙◌, ◌+◌, ◌++◌, ◌∷◌, [], ap, codes, slice_index}
use Rattle.decoded.specs.Fields.{field_line, prefixed_hex}
use Rattle.decoded.proofs.listing.append_page.Goals as goal

pub returns : goal.returns
returns c =
    c.in_ok-append_hex_line.ensures
    ∙ ap (λ page. c.args.text.now.items ++ field_line (codes "SupportedPage") (prefixed_hex (page ∷ [])))
    (c.byte_at-page.ensures ∙ ap (λ n. slice_index c.args.bytes.now (9 + n)) c.from.ensures)
