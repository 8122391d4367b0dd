use Rattle.std.proofs.Common.{rules, ◌≡◌, ℕ, ◌<◌, List, [], ◌∷◌, ◌++◌, map, length, sym, subst}
use Rattle.std.specs.Prelude.{vec_len, slice_index_or}
use Rattle.locked_port.specs.Hands.{Hand}
use Rattle.port_threads.specs.Rounds.{Made, AreMade}
use Rattle.port_threads.proofs.Logs.{made_each}
use Rattle.port_threads.proofs.run.run_all.Goals as goal

pub returns-clause-made : goal.returns-clause-made
returns-clause-made g c =
    let each : (i : ℕ) (d : _) (p : Hand) → i < vec_len c.in_ok-works.field-0 → Made (slice_index_or c.pop.new.self.items i p).client c.args.load.now.rounds (slice_index_or c.in_ok-works.field-0.items i d).rounds (slice_index_or c.in_ok-works.field-0.items i d).receipts.items = search rules in
    let len : vec_len c.in_ok-works.field-0 ≡ length c.in_ok-works.field-0.items = search rules in
    let same : length c.in_ok-works.field-0.items ≡ length c.pop.new.self.items = search rules in
    let whole : c.args.passes.items ≡ c.pop.new.self.items ++ c.in-Some.engine ∷ [] = search rules in
    record {
      logs = map (λ w. (w.rounds, w.receipts.items)) c.in_ok-works.field-0.items;
      made = subst (λ (hs : List Hand). AreMade hs c.args.load.now.rounds (map (λ w. (w.rounds, w.receipts.items)) c.in_ok-works.field-0.items)) (sym whole)
          (made_each c.args.load.now.rounds (λ w. (w.rounds, w.receipts.items)) c.pop.new.self.items c.in-Some.engine c.in_ok-works.field-0.items same (λ i d p lt. each i d p (subst (λ (n : ℕ). i < n) (sym len) lt)));
      rounds_are = search rules;
      receipts_are = search rules;
    }
