use Rattle.std.proofs.Common.{◌∙◌, ap, sym}
use Rattle.basics.specs.declared.profile.Profile.{Profile}
use Rattle.trusted_cmds.specs.Profiles.{payload_length_in}
use Rattle.history.proofs.Payloads.{payload-of-command}
use Rattle.drive.proofs.drive.Drive.payload_len_of.Goals as goal

pub returns : goal.returns
returns c =
    let config = c.args.self.now.tper.store.config in
    c.payload_len.ensures ∙ ap (λ (p : Profile). payload_length_in p c.args.h.now) c.profile.ensures ∙ ap (payload_length_in config.profile) c.requires.read ∙ sym (payload-of-command config c.args.fis.now c.requires.kind)
