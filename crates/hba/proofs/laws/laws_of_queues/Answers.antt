-- By the operations.
use Rattle.std.proofs.Common.{◌+◌, ◌/◌, length, refl}
use Rattle.hba.specs.Blocks.{block_size}
use Rattle.fis.specs.H2d.{h2d_at}
use Rattle.history.specs.Answers.{is_holding}
use Rattle.history.specs.History.{Accept, event_by}
use Rattle.history.specs.Tcg.{command_read}
use Rattle.hba.specs.History.{facts_of, Wrote, Powered, Signed, Missed, Controlled, Fetched, Completed, account, acts_of, regs_of, drive_effect, effect_after, Asserted, Restarted, Unheard}
use Rattle.hba.specs.Laws.{ActiveLaw}
use Rattle.hba.proofs.Active.{fetched_same, arrived_told}
use Rattle.hba.proofs.laws.laws_of_queues.Goals as goal

active_law : ActiveLaw
active_law o before (Wrote offset value) = tt
active_law o before Powered = tt
active_law o before Signed = refl
active_law o before (Missed fetched miss) = refl
active_law o before (Controlled tag) = refl
active_law o before (Asserted tag) = refl
active_law o before (Restarted tag) = refl
active_law o before (Unheard tag) = refl
active_law o before (Fetched tag fis payload arrival) =
    let f = facts_of o (acts_of o before) in
    let event = event_by f (Accept fis payload) in
    fetched_same arrival tag (regs_of o before) f.settings
    event.failed (is_holding event.deed) (command_read f.config (h2d_at fis))
    ((length payload + length (drive_effect o (account o before) (Accept fis payload)).bytes) / block_size)
    (drive_effect o (account o before) (Accept fis payload)).fises (effect_after o (account o before) (Accept fis payload)).fises refl refl
active_law o before (Completed tag payload arrival) =
    let f = facts_of o (acts_of o before) in
    arrived_told arrival tag (regs_of o before) (f.held tag)

pub returns : goal.returns
returns c = active_law
