use Rattle.std.proofs.Common.{subst, sym}
use Rattle.std.proofs.lemmas.Result.{IfOk-weaker}
use Rattle.drive.specs.State.{Agrees}
use Rattle.port.specs.Live.{LiveAgrees}
use Rattle.tool.specs.Courses.{PhaseRunsOn}
use Rattle.runs.proofs.recorded.Shows.{drive-samples, named-samples, port-samples}
use Rattle.runs.proofs.recorded.look.sample_of.Goals as goal

pub returns-in-Drive : goal.returns-in-Drive
returns-in-Drive c =
    IfOk-weaker c.of_drive.result _ _
    (λ sample shows. λ o course runs.
    drive-samples c.in-Drive.drive o course sample
    (λ o acts agrees. shows o acts (subst (λ d. Agrees d o acts) (sym c.drive.ensures) agrees))
    (subst (λ phase. PhaseRunsOn phase o course) c.in-Drive.is runs))
    c.of_drive.ensures

pub returns-in-Named : goal.returns-in-Named
returns-in-Named c =
    IfOk-weaker c.of_drive-in-Named.result _ _
    (λ sample shows. λ o course runs.
    named-samples c.in-Named.named o course sample
    (λ o acts agrees. shows o acts (subst (λ d. Agrees d o acts) (sym c.drive-in-Named.ensures) agrees))
    (subst (λ phase. PhaseRunsOn phase o course) c.in-Named.is runs))
    c.of_drive-in-Named.ensures

pub returns-in-Port : goal.returns-in-Port
returns-in-Port c =
    IfOk-weaker c.of_port.result _ _
    (λ sample shows. λ o course runs.
    port-samples c.in-Port.desk o course sample
    (λ o list agrees. shows o list (subst (λ p. LiveAgrees p o list) (sym c.port.ensures) agrees))
    (subst (λ phase. PhaseRunsOn phase o course) c.in-Port.is runs))
    c.of_port.ensures
