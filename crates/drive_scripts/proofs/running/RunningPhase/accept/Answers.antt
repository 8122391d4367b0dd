use Rattle.std.proofs.Common.{refl, subst, sym}
use Rattle.fis.specs.H2d.{IsH2dSpelling}
use Rattle.drive_scripts.proofs.Acts.{read-back}
use Rattle.drive_scripts.proofs.Runs.{accepts-so}
use Rattle.drive_scripts.proofs.running.RunningPhase.accept.Goals as goal

pub accept_command-requires-clause-kind : goal.accept_command-requires-clause-kind
accept_command-requires-clause-kind c = c.to_bytes-fis.ensures.writing.kind

pub accept_command-requires-clause-read : goal.accept_command-requires-clause-read
accept_command-requires-clause-read c = sym (read-back c.to_bytes-fis.result c.to_fis-h.result c.to_bytes-fis.ensures.writing)

pub returns-clause-accepts : goal.returns-clause-accepts
returns-clause-accepts c = λ o acts runs.
    accepts-so _ c.args.self.now.acts o acts c.args.command.now c.args.tag c.to_bytes-fis.result
    c.deref.result.now c.args.self.now.payload.items
    c.accept_command.new.answer c.deref.ensures.value
    (subst (IsH2dSpelling c.to_bytes-fis.result) c.to_fis-h.ensures.exact c.to_bytes-fis.ensures)
    runs.1 refl (c.in_ok-accept_command.ensures.agrees o acts runs.0) (c.in_ok-accept_command.ensures.answer o acts runs.0)
