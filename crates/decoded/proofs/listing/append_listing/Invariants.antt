use Rattle.std.proofs.Common.{◌≡◌, ◌++◌}
use Rattle.decoded.specs.Listings.{lines_below, listing_line}
use Rattle.decoded.proofs.listing.append_listing.Given as goal

abbrev pub invariant-loop-n : goal.invariant-loop-n
invariant-loop-n l = l.text.items ≡ l.fn.text.items ++ lines_below (listing_line l.listing l.bytes) l.n
