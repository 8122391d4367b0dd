use Rattle.std.proofs.Common.{rules, ◌≡◌, ◌↔◌, true, List, subst}
use Rattle.locked_port.specs.declared.ticket.Receipt.{Receipt}
use Rattle.locked_port.specs.Hands.{Hand}
use Rattle.port_threads.specs.Rounds.{AreMade, receipts_of}
use Rattle.port_threads.specs.Works.{AreWhole}
use Rattle.port_threads.proofs.run.facts_at.Goals as goal

pub returns-in-Ok-close-clause-told : goal.returns-in-Ok-close-clause-told
returns-in-Ok-close-clause-told g c =
    let all = c.in-Ok.ensures.made in
    let same : c.deref.result.now ≡ receipts_of all.logs = search rules in
    record {
      port = c.in-Ok-close.closed.port;
      logs = all.logs;
      stands = search rules;
      made = subst (λ (hs : List Hand). AreMade hs c.args.load.now.rounds all.logs) c.requires.whole all.made;
      rounds_are = search rules;
      whole = subst (λ (rs : List Receipt). (c.of-facts.result.receipts ≡ true) ↔ AreWhole c.in-Ok-close.closed.port.history rs) same c.of-facts.ensures.whole;
    }
