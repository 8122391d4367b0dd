use Rattle.basics.specs.declared.profile.Profile.{Profile}
use Rattle.trusted_cmds.specs.Profiles.{reading_in}
use Rattle.std.proofs.Common.{◌∙◌, ap}
use Rattle.drive.specs.State.{kept_facts}
use Rattle.drive.proofs.Commands.{known-some, known-none}
use Rattle.drive.proofs.drive.Drive.known.Goals as goal

pub returns-in-Ok-default-Some-clause-event : goal.returns-in-Ok-default-Some-clause-event
returns-in-Ok-default-Some-clause-event c = λ f payload.
    let read = c.in-Ok-default-Some in
    c.queued.ensures.event f payload
    ∙ known-some (kept_facts c.args.self.now f) c.args.h.now payload c.of_fis.result read.command read.field-0-1 read.tag (c.of_fis.ensures.exact ∙ ap (λ (p : Profile). reading_in p c.args.h.now) c.profile.ensures) read.is read.field-0-1-is

pub returns-in-Ok-default-None-clause-event : goal.returns-in-Ok-default-None-clause-event
returns-in-Ok-default-None-clause-event c = λ f payload.
    let read = c.in-Ok-default-None in
    c.unqueued.ensures.event f payload
    ∙ known-none (kept_facts c.args.self.now f) c.args.h.now payload c.of_fis.result read.command read.field-0-1 (c.of_fis.ensures.exact ∙ ap (λ (p : Profile). reading_in p c.args.h.now) c.profile.ensures) read.is read.field-0-1-is
