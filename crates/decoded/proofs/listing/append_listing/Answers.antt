use Rattle.std.proofs.Common.{◌∙◌, ◌++◌, ap, sym, append_assoc, append-nil}
use Rattle.decoded.specs.Listings.{listing_line}
use Rattle.decoded.proofs.Below.{no_lines, lines_below_next}
use Rattle.decoded.proofs.listing.append_listing.Goals as goal

pub loop-n-init : goal.loop-n-init
loop-n-init c =
    sym (append-nil c.args.text.now.items)
    ∙ ap (λ lines. c.args.text.now.items ++ lines) (sym (no_lines (listing_line c.args.listing c.args.bytes.now)))

pub loop-n-preserved : goal.loop-n-preserved
loop-n-preserved c =
    c.in_ok-append_listed.ensures
    ∙ ap (λ t. t ++ listing_line c.args.listing c.args.bytes.now c.loop-n.n) c.loop-n.invariant
    ∙ append_assoc c.args.text.now.items _ _
    ∙ ap (λ lines. c.args.text.now.items ++ lines) (sym (lines_below_next (listing_line c.args.listing c.args.bytes.now) c.loop-n.n))
