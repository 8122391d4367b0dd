use Rattle.std.proofs.Common.{rules, refl, arith}
use Rattle.std.proofs.lemmas.Grind.{common_steps}
use Rattle.tper.specs.Tper.{Takes}
use Rattle.tper.proofs.Keeping.{take-kept}
use Rattle.tper.proofs.trusted.Tper.receive.Goals as goal

pub returns-then-fits-clause-kept : goal.returns-then-fits-clause-kept
returns-then-fits-clause-kept c =
    λ o past blocks size k. take-kept c.args.self.now _ o past c.args.com_id c.args.room blocks
    (first_of (search rules, grind (arith, common_steps))) (first_of (search rules, grind (arith, common_steps)))
    (first_of (search rules, grind (arith, common_steps))) size k

pub returns-clause-kept : goal.returns-clause-kept
returns-clause-kept c =
    let takes : Takes c.args.com_id c.args.room c.args.self.now c.args.self.now = first_of (search rules, grind (arith, common_steps)) in
    λ o past blocks size k. take-kept c.args.self.now c.args.self.now o past c.args.com_id c.args.room blocks refl refl takes size k
