-- The ranges are those of the texts.
use Rattle.std.proofs.Common.{map, subst, List, ℕ, Bor}
use Rattle.std.proofs.lemmas.Result.{IfOk-weaker}
use Rattle.opalport.specs.Program.{ControllerEnds}
use Rattle.opalport.proofs.controller.serve_on.Goals as goal

pub returns-clause-ends : goal.returns-clause-ends
returns-clause-ends g c =
    IfOk-weaker c.on_drive.result _ _
    (λ status ends. subst
    (λ (ranges : List (Bor (List ℕ))). ControllerEnds g.R.Read.remaining g.W.Write.contents c.args.texts.now.way c.args.options.now (map (λ s. s.now) ranges)
    (g.R.Read.remaining c.args.input) status (g.W.Write.contents c.args.output.now) (g.W.Write.contents c.on_drive.new.output))
    c.deref.ensures.value
    ends)
    c.on_drive.ensures.ends
