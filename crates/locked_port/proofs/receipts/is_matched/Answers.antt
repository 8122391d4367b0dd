use Rattle.std.proofs.Common.{◌≡◌, length, refl, rules}
use Rattle.locked_port.proofs.Windows.{named_of_marked}
use Rattle.locked_port.proofs.receipts.is_matched.Goals as goal

pub returns-then-mark-clause-named : goal.returns-then-mark-clause-named
returns-then-mark-clause-named g c = λ yes.
    let size : length c.mark.new.marks ≡ g.row.SIZE = search rules in
    named_of_marked c.args.first g.row.SIZE c.args.history.now.items c.args.receipts.now c.mark.new.marks size
    (c.if-mark.ensures.only refl) (c.are_marked.ensures.0 yes)
