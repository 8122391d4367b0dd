use Rattle.std.proofs.Common.{◌≡◌, ℕ, suc, ◌+◌, List, [], ◌∷◌, ◌++◌, reverse, take, sym, ap, subst, ◌∙◌, arith}
use Rattle.std.proofs.Math.Seq.{take-suc}
use Rattle.std.proofs.lemmas.List.{take_all}
use Rattle.fis.specs.declared.any.Fis.{Fis}
use Rattle.port.specs.Host.{IsReceived}
use Rattle.port.proofs.Memory.{one_received}
use Rattle.port.proofs.Words.{one_taken}
use Rattle.port.proofs.host.receive.Goals as goal

pub loop-fis-preserved : goal.loop-fis-preserved
loop-fis-preserved c =
    let i = c.loop-fis.fis-index in
    let fis = c.fis-item.result in
    let xs = c.args.fises.now in
    let next : i + 1 ≡ suc i = omega arith in
    let taken : take (i + 1) xs ≡ take i xs ++ fis ∷ [] =
    ap (λ k. take k xs) next ∙ take-suc xs i fis (omega (arith, c.loop-fis-test.true))
    ∙ ap (λ x. take i xs ++ x ∷ []) (sym c.fis-item.is) in (
      λ place n apart. c.post.ensures.elsewhere place n apart ∙ c.loop-fis.invariant.0 place n apart,
      λ sent h. subst (IsReceived c.post.new.self) (sym (one_taken c.args.fises.now sent i fis taken))
          (one_received c.loop-fis.memory c.post.new.self fis (reverse (take i c.args.fises.now) ++ sent)
          c.post.ensures.stands c.post.ensures.beside (c.loop-fis.invariant.1 sent h)),
    )

pub returns-clause-received : goal.returns-clause-received
returns-clause-received c = λ sent h.
    let all : take c.loop-fis.fis-index c.args.fises.now ≡ c.args.fises.now =
    take_all c.loop-fis.fis-index c.args.fises.now (omega (arith, c.loop-fis-test.false)) in
    subst (λ (xs : List Fis). IsReceived c.loop-fis.memory (reverse xs ++ sent)) all (c.loop-fis.invariant.1 sent h)
