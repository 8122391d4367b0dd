-- The options write a configuration, whose controller serves.
use Rattle.std.proofs.Common.{rules, inl}
use Rattle.std.proofs.lemmas.Result.{IfOk-weaker}
use Rattle.opalport.proofs.controller.serve_controller.Goals as goal

pub returns-in-Ok-clause-ends : goal.returns-in-Ok-clause-ends
returns-in-Ok-clause-ends g c =
    IfOk-weaker c.serve_on.result _ _
    (λ status ends. inl (c.in-Ok.options, c.in-Ok.ensures.read, search rules, ends))
    c.serve_on.ensures.ends
