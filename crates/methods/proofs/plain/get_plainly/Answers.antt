use Rattle.std.proofs.Common.{◌∙◌, ap, Some}
use Rattle.sp_cells.specs.declared.names.Uid.{Uid}
use Rattle.tcg_calls.specs.Asks.{uid_of}
use Rattle.tcg_calls.specs.declared.call_shapes.ask.Ask.TheVariants.{GetCells}
use Rattle.methods.specs.Calls.{standing_in}
use Rattle.methods.specs.Judgement.{judged}
use Rattle.methods.proofs.CallLemmas.{judged-as}
use Rattle.methods.proofs.plain.get_plainly.Goals as goal

pub returns-clause-fulfils : goal.returns-clause-fulfils
returns-clause-fulfils c =
    let s = c.args.store.now in
    let l = c.args.sessions.now in
    let get = c.args.get.now in
    judged-as _ _ c.args.session c.call_asked.result s _ l _
    (ap (λ (object : Uid). judged (standing_in s l c.args.session) object c.uid_of-method.result (Some (GetCells get.first get.last))) c.uid_of-object.ensures
    ∙ ap (λ (method : Uid). judged (standing_in s l c.args.session) (uid_of get.object) method (Some (GetCells get.first get.last))) c.uid_of-method.ensures)
    c.call_asked.ensures.fulfils
