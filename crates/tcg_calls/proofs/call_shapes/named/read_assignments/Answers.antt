use Rattle.std.proofs.Common.{◌≡◌, sym, ◌∙◌, ap, map, ℕ, true, false, [], ◌∷◌, ◌++◌}
use Rattle.std.proofs.lemmas.List.{map-append}
use Rattle.tcg_tokens.specs.Tree.{Tree, tree}
use Rattle.tcg_calls.specs.Named.{has_name}
use Rattle.tcg_calls.proofs.call_shapes.NamedLemmas.{read_twice, read_more, distinct_more}
use Rattle.tcg_calls.proofs.call_shapes.named.read_assignments.Goals as goal

pub returns-then-has_name : goal.returns-then-has_name
returns-then-has_name c =
    let twice : has_name c.in-Some.name (map (λ p. (p.0, tree p.1.now)) c.loop-value.items.items) ≡ true = ap (λ xs. has_name c.in-Some.name (map (λ p. (p.0, tree p.1.now)) xs)) (sym c.deref.ensures.value) ∙ sym c.has_name.ensures ∙ c.if-has_name.true in
    sym (read_twice _ c.args.values.now c.loop-value.value-index c.value-item.result (c.in-Some.name, tree c.in-Some.content.now) c.loop-value-test.true c.value-item.is (sym c.in-Some.ensures) twice) ∙ c.loop-value.invariant.0

pub loop-value-preserved : goal.loop-value-preserved
loop-value-preserved c =
    let fresh : has_name c.in-Some.name (map (λ p. (p.0, tree p.1.now)) c.loop-value.items.items) ≡ false = ap (λ xs. has_name c.in-Some.name (map (λ p. (p.0, tree p.1.now)) xs)) (sym c.deref.ensures.value) ∙ sym c.has_name.ensures ∙ c.if-has_name.false in
    let grown : map {B = ℕ × Tree} (λ p. (p.0, tree p.1.now)) c.push.new.self.items ≡ map {B = ℕ × Tree} (λ p. (p.0, tree p.1.now)) c.loop-value.items.items ++ (c.in-Some.name, tree c.in-Some.content.now) ∷ [] = ap (map {B = ℕ × Tree} (λ p. (p.0, tree p.1.now))) c.in_ok-push.ensures.items ∙ map-append _ _ _ in
    rw grown (sym (read_more (map {B = ℕ × Tree} (λ p. (p.0, tree p.1.now)) c.loop-value.items.items) c.args.values.now c.loop-value.value-index c.value-item.result (c.in-Some.name, tree c.in-Some.content.now) c.loop-value-test.true c.value-item.is (sym c.in-Some.ensures)) ∙ c.loop-value.invariant.0, distinct_more (map {B = ℕ × Tree} (λ p. (p.0, tree p.1.now)) c.loop-value.items.items) (c.in-Some.name, tree c.in-Some.content.now) fresh c.loop-value.invariant.1)
