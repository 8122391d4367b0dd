use Rattle.std.proofs.Common.{ap, ◌∙◌}
use Rattle.std.proofs.lemmas.Result.{IfOk-weaker}
use Rattle.transactions.specs.Sights.{Sight, look_up}
use Rattle.reasons.specs.Remedies.{remedy_text}
use Rattle.opalport_c.proofs.remedy.remedy_by.Goals as goal

pub returns : goal.returns
returns c =
    IfOk-weaker c.remedy_bytes.result _ _
    (λ text is. is ∙ ap (λ (s : Sight). remedy_text s.config.profile (look_up s) c.args.why.now) c.in_force-rows.ensures.stands)
    c.remedy_bytes.ensures
