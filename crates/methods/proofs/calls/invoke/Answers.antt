use Rattle.std.proofs.Common.{List, map, ◌∙◌, ap}
use Rattle.sp_cells.specs.declared.names.Uid.{Uid}
use Rattle.tcg_tokens.specs.Tree.{tree}
use Rattle.tcg_tokens.specs.declared.value.Value.{Value}
use Rattle.tcg_calls.specs.Asks.{uid_of}
use Rattle.methods.specs.Calls.{judged_with}
use Rattle.methods.proofs.CallLemmas.{judged-as}
use Rattle.methods.proofs.calls.invoke.Goals as goal

pub returns-clause-fulfils : goal.returns-clause-fulfils
returns-clause-fulfils c =
    let s = c.args.store.now in
    let l = c.args.sessions.now in
    judged-as _ _ c.args.session c.called.result s _ l _
    (ap (λ (object : Uid). judged_with s l c.args.session object c.uid_of-method.result (map tree c.as_slice.result.now)) c.uid_of-object.ensures
    ∙ ap (λ (method : Uid). judged_with s l c.args.session (uid_of c.args.call.now.object) method (map tree c.as_slice.result.now)) c.uid_of-method.ensures
    ∙ ap (λ (args : List Value). judged_with s l c.args.session (uid_of c.args.call.now.object) (uid_of c.args.call.now.method) (map tree args)) c.as_slice.ensures.value)
    c.called.ensures.fulfils
