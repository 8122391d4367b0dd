use Rattle.std.proofs.Common.{◌≡◌, Some, ap, rules}
use Rattle.ace_eval.specs.Aces.{acl_at}
use Rattle.methods.specs.Judgement.{acl_told}
use Rattle.methods.proofs.CallLemmas.{tells-as}
use Rattle.methods.proofs.tables.get_acl.Goals as goal

pub returns-in_ok-outcome-in-Some-clause-tells : goal.returns-in_ok-outcome-in-Some-clause-tells
returns-in_ok-outcome-in-Some-clause-tells c =
    let is : Some c.as_slice.result.now ≡ acl_at c.args.profile c.args.sp c.args.object c.args.method = search rules in
    tells-as _ _ _ (ap (acl_told c.args.room) is) c.in_ok-outcome-in-Some.ensures
