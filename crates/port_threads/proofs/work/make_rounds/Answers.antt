use Rattle.std.proofs.Common.{rules, ◌≡◌, ℕ, ◌+◌, ◌*◌, ◌<◌, ◌≤◌, true, false, refl, sym, ◌∙◌, subst, Vec, Global, arith}
use Rattle.std.specs.Prelude.{vec_len}
use Rattle.locked_port.specs.declared.ticket.Receipt.{Receipt}
use Rattle.port_threads.specs.Rounds.{steps_of_round, Made}
use Rattle.port_threads.proofs.Told.{one_more, left_off}
use Rattle.port_threads.proofs.work.make_rounds.Goals as goal

pub returns-then-not-makes : goal.returns-then-not-makes
returns-then-not-makes g c =
    let no : c.makes.result ≡ false = search rules in
    let left = c.makes.ensures.left no in
    let lt : c.loop-round.round < c.args.rounds = search rules in
    let made = left_off c.loop-round.pass.client c.args.pass.client c.args.rounds c.loop-round.round _ c.loop-round.log.receipts.items c.makes.new.self.receipts.items left.0 c.loop-round.invariant.0 lt left.1 left.2 refl c.loop-round.invariant.1 in
    subst (λ (n : ℕ). Made c.args.pass.client c.args.rounds n c.work_of.result.receipts.items) (sym c.work_of.ensures.rounds)
    (subst (λ (v : Vec Receipt Global). Made c.args.pass.client c.args.rounds c.loop-round.round v.items) (sym c.work_of.ensures.receipts) made)

pub loop-round-preserved : goal.loop-round-preserved
loop-round-preserved g c =
    let yes : c.makes.result ≡ true = search rules in
    let more = c.makes.ensures.made yes in
    let all : vec_len c.makes.new.self.receipts ≡ vec_len c.loop-round.log.receipts + steps_of_round = c.makes.ensures.all yes in
    let before : steps_of_round * c.loop-round.round ≤ vec_len c.loop-round.log.receipts = c.loop-round.invariant.2 in (
      one_more c.loop-round.pass.client c.makes.new.pass.client c.loop-round.round _ c.loop-round.log.receipts.items c.makes.new.self.receipts.items more.0 c.loop-round.invariant.0 more.1 more.2 refl c.makes.ensures.client,
      c.makes.ensures.client ∙ c.loop-round.invariant.1,
      omega arith,
    )
