use Rattle.std.proofs.Common.{rules, ◌≡◌, [], arith, refl, sym, append-nil}
use Rattle.std.proofs.lemmas.Grind.{common_steps}
use Rattle.std.proofs.KnownBytes.{Appends-nil}
use Rattle.tool.proofs.reading.answer.Goals as goal

pub returns-in_ok-map_err-clause-answered : goal.returns-in_ok-map_err-clause-answered
returns-in_ok-map_err-clause-answered g c =
    let none : c.hand_on.new.self.pending.items ≡ [] = c.hand_on.ensures.cleared in
    rw none ((λ _. refl), omega arith)

pub returns-in_ok-map_err-clause-written : goal.returns-in_ok-map_err-clause-written
returns-in_ok-map_err-clause-written g c =
    let before = c.args.report.now.pending.items in
    let none : c.hand_on.new.self.pending.items ≡ [] = c.hand_on.ensures.cleared in
    (before, first_of (search rules, grind (arith, common_steps)), rw none (sym (append-nil before)))

pub returns-else-len-gt-MOST_PENDING-clause-written : goal.returns-else-len-gt-MOST_PENDING-clause-written
returns-else-len-gt-MOST_PENDING-clause-written g c = ([], Appends-nil (g.W.Write.contents c.args.output.now), refl)
