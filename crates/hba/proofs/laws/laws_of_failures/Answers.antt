-- An error is told by one FIS, with no data; a denial is an error.
use Rattle.std.proofs.Common.{◌+◌, ◌/◌, length, map, ap}
use Rattle.hba.specs.Blocks.{block_size}
use Rattle.fis.specs.H2d.{h2d_at}
use Rattle.history.specs.Decisions.{aborted}
use Rattle.history.specs.History.{Accept, event_by}
use Rattle.history.proofs.TransferProofs.{service_law}
use Rattle.history.specs.Tcg.{tcg}
use Rattle.hba.specs.Blocks.{of_last_block}
use Rattle.hba.specs.History.{facts_of, account, acts_of, regs_of, drive_effect}
use Rattle.hba.specs.Laws.{HostFailureLaw, HostDenialLaw}
use Rattle.hba.proofs.Failures.{fises_failed, data_failed, tells_error, halts, gives_nothing}
use Rattle.hba.proofs.laws.laws_of_failures.Goals as goal

failure_law : HostFailureLaw
failure_law o before tag fis payload error e =
    let f = facts_of o (acts_of o before) in
    let event = event_by f (Accept fis payload) in
    let n = (length payload + length (drive_effect o (account o before) (Accept fis payload)).bytes) / block_size in
    let sent = ap (map (of_last_block n)) (fises_failed f (h2d_at fis) event error e) in
    let given = data_failed f (h2d_at fis) event error e in
    record {
      tells = tells_error (regs_of o before) tag error _ sent;
      halts = λ arrival. halts (regs_of o before) tag error arrival _ sent;
      gives = λ place brought talk arrival h. gives_nothing place brought error _ _ talk arrival sent given h;
    }

denial_law : HostDenialLaw
denial_law o before tag fis payload command slot op lba count looked moves free on denied =
    failure_law o before tag fis payload aborted
    ((service_law tcg (facts_of o (acts_of o before)) (Accept fis payload) command slot op lba count looked moves free on).denied denied)

pub returns-clause-failed : goal.returns-clause-failed
returns-clause-failed c = failure_law

pub returns-clause-denied : goal.returns-clause-denied
returns-clause-denied c = denial_law
