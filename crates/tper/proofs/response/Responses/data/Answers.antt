use Rattle.std.proofs.Common.{◌≡◌, List, ℕ, IfOk, Some, subst, rules}
use Rattle.device_data.specs.ErrorLog.{sized}
use Rattle.tper.specs.Tper.{response_at}
use Rattle.tper.proofs.Responses.{long-header}
use Rattle.tper.proofs.response.Responses.data.Goals as goal

pub returns-in-Some : goal.returns-in-Some
returns-in-Some c =
    let waits : response_at c.args.self.now.waiting c.args.com_id ≡ Some c.in-Some.response.now = search rules in
    subst (λ (bytes : List ℕ). IfOk c.sized-in-Some.result (λ v. v.items ≡ sized c.args.room bytes))
    (long-header c.args.com_id c.args.room c.size_of.result _ c.in-Some.response.now c.short_header.result waits c.requires (search rules) c.short_header.ensures) c.sized-in-Some.ensures
