-- What each clause of the laws of steps of `port_history` says of a lawful list.
use Rattle.std.proofs.Common.{◌≡◌, ℕ, ◌<◌, ◌≤◌, true, false, List, [], ◌∷◌, length, Some, None, Ok, ◌⊎◌, inl, inr, refl, arith, ap}
use Rattle.std.specs.Prelude.{option_map, is_some}
use Rattle.std.specs.Int.{bit_at}
use Rattle.fis.specs.H2d.{h2d_at}
use Rattle.sp_cells.specs.Config.{Config}
use Rattle.device_data.specs.declared.log_page.Failure.{Failure}
use Rattle.trusted_cmds.specs.declared.command.Command.{Command}
use Rattle.trusted_cmds.specs.declared.command.Command.TheVariants as commands
use Rattle.trusted_cmds.specs.Commands.{fis_of, tag_with}
use Rattle.history.specs.Bounds.{AreFed}
use Rattle.history.specs.Decisions.{is_busy, any_below}
use Rattle.history.specs.Facts.{facts}
use Rattle.history.specs.History.{Accept as AcceptFis}
use Rattle.history.specs.Items.{Items}
use Rattle.history.specs.Opening.{Origin}
use Rattle.history.specs.Quiet.{IsQuiet}
use Rattle.history.specs.Readers.{held, failure}
use Rattle.history.specs.Tcg.{tcg, command_read}
use Rattle.port_history.specs.declared.request.Request.TheVariants.{Read}
use Rattle.port_history.specs.declared.request.Answer.{Answer}
use Rattle.port_history.specs.declared.step.Step.{Step}
use Rattle.port_history.specs.declared.step.Step.TheVariants.{Take}
use Rattle.port_history.specs.Laws.{IsForPorts, NeverMixes, IsUnmixed, IsRecovery, FailureLaw, RegisterLaw, AnswerLaw, TakeLaw, OwnLaw, FedLaw, FullLaw, owner}
use Rattle.port_history.specs.Ready.{engine_ready}
use Rattle.port_history.specs.Refusals.{AreLawful, IsLawful, refusal}
use Rattle.port_history.specs.Registers.{registers}
use Rattle.port_history.specs.Stages.{is_answered, is_queued_command}
use Rattle.port_history.specs.Steps.{trace_of, trace, events, acts, stage, failed, answer, act_of, reply}
use Rattle.headline.proofs.law_rows.Lists.{locked, lays, not_both}

-- `ports`: sends are quiet, a read of sector 100 under tag 3 is read as it is, and so is the log page of a recovery.
port_sends_are_quiet : IsForPorts tcg → IsQuiet tcg
port_sends_are_quiet law = law.quiet

read_is_read : IsForPorts tcg → (config : Config)
    → tcg.reads config (fis_of (commands.ReadQueued 100 1) 3) ≡ Ok (commands.ReadQueued 100 1, Some 3)
read_is_read law config =
    law.reads config (commands.ReadQueued 100 1) 3 (omega arith)
    (record { counted = (omega arith, omega arith); most = omega arith; asked = refl })

log_is_read : IsForPorts tcg → (config : Config)
    → tcg.reads config (fis_of (commands.ReadLog10 true) 0) ≡ Ok (commands.ReadLog10 true, None)
log_is_read law config = law.recovers config

-- `unmixed`: an acceptance that is no recovery finds the queue whole, its tag free where it is queued, and else nothing held.
never_mixes_says : NeverMixes → (o : Origin) (step : Step) (before : List Step)
    → IsLawful o (step ∷ before) → (fis payload : List ℕ)
    → act_of (trace o before) step ≡ Some (AcceptFis fis payload)
    → failure (events (trace o before)) ≡ None
    → (command : Command) × (tag : ℕ)
    × (command_read o.tables.config (h2d_at fis) ≡ Ok (command, tag_with command tag))
    × (is_queued_command command ≡ true → held (events (trace o before)) tag ≡ None)
    × (is_queued_command command ≡ false → is_busy (facts o (events (trace o before))) ≡ false)
never_mixes_says law o step before lawful fis payload acts whole = told (law o step before lawful fis payload acts)
  where
    told : IsUnmixed o (events (trace o before)) fis ⊎ IsRecovery (events (trace o before)) fis
        → (command : Command) × (tag : ℕ)
        × (command_read o.tables.config (h2d_at fis) ≡ Ok (command, tag_with command tag))
        × (is_queued_command command ≡ true → held (events (trace o before)) tag ≡ None)
        × (is_queued_command command ≡ false → is_busy (facts o (events (trace o before))) ≡ false)
    told (inl its) = (its.command, its.tag, its.carries, its.free, its.alone)
    told (inr its) = not_both its.failed (is_none_then whole)
      where
        is_none_then : failure (events (trace o before)) ≡ None
            → is_some (failure (events (trace o before))) ≡ false
        is_none_then e = ap is_some e

-- `failure`: before any step neither has failed; where the drive has, the tag is the port's.
none_has_failed : FailureLaw → (o : Origin)
    → option_map (λ (f : Failure). f.tag) (failure (events (trace o []))) ≡ None
none_has_failed law o = law o [] tt

failed_tag_says : FailureLaw → (o : Origin) (list : List Step) → IsLawful o list
    → option_map (λ (f : Failure). f.tag) (failure (events (trace o list)))
    ≡ option_map (λ (tag : ℕ). Some tag) (failed (trace o list))
failed_tag_says law o list lawful = law o list lawful

-- `registers`: behind the Issue of a queued read under tag 3 both bits of tag 3 are set, and no bit of tag 4.
lays_is_lawful : IsLawful locked (lays 1 3 (Read 100 1))
unfolding any_below
lays_is_lawful = (refl, refl, (refl, refl, tt))

bits_of_tag_3 : RegisterLaw → (bit_at (registers (trace locked (lays 1 3 (Read 100 1)))).active 3 ≡ 1)
    × (bit_at (registers (trace locked (lays 1 3 (Read 100 1)))).issued 3 ≡ 1)
bits_of_tag_3 law =
    let its = law locked (lays 1 3 (Read 100 1)) lays_is_lawful 3 (omega arith) in (its.active, its.issued)

bits_of_tag_4 : RegisterLaw → (bit_at (registers (trace locked (lays 1 3 (Read 100 1)))).active 4 ≡ 0)
    × (bit_at (registers (trace locked (lays 1 3 (Read 100 1)))).issued 4 ≡ 0)
bits_of_tag_4 law =
    let its = law locked (lays 1 3 (Read 100 1)) lays_is_lawful 4 (omega arith) in (its.active, its.issued)

-- `answered`: a tag that is Answered has an answer.
answered_has_answer : AnswerLaw → (items : Items) → IsForPorts items → (o : Origin) (list : List Step)
    → AreLawful items o list → (tag : ℕ) → is_answered (stage (trace_of items o list) tag) ≡ true
    → answer (trace_of items o list) tag ≡ None → ⊥
answered_has_answer law items ports o list lawful tag answered none =
    not_both (law items ports o list lawful tag answered) (ap is_some none)

-- `taken`: who takes has put, and gets the answer that stands.
taken_is_own : TakeLaw → (o : Origin) (client tag : ℕ) (before : List Step)
    → IsLawful o (Take client tag ∷ before)
    → (owner before tag ≡ Some client) × (is_answered (stage (trace o before) tag) ≡ true)
    × (its_answer : Answer) × (answer (trace o before) tag ≡ Some its_answer)
    × (reply (trace o before) (Take client tag) ≡ its_answer)
taken_is_own law o client tag before lawful =
    let its = law o client tag before lawful in
    (its.owns, its.answered, its.its_answer, its.stands, its.gets)

-- So nothing is taken at first, nor twice.
nothing_to_take : TakeLaw → (o : Origin) (client tag : ℕ) → IsLawful o (Take client tag ∷ []) → ⊥
nothing_to_take law o client tag lawful = no_owner (law o client tag [] lawful).owns
  where
    no_owner : None ≡ Some client → ⊥
    no_owner e = cc

-- `own`: where the history has room, the owner of an answer takes it.
owner_takes : OwnLaw → (o : Origin) (client tag : ℕ) (before : List Step) → IsLawful o before
    → tag < 32 → length (trace o before) < 1048576 → owner before tag ≡ Some client
    → is_answered (stage (trace o before) tag) ≡ true
    → (refusal (trace o before) (Take client tag) ≡ None) × IsLawful o (Take client tag ∷ before)
owner_takes law o client tag before lawful slot room owns answered =
    law o client tag before lawful slot room owns answered

-- `fed`: the acts of a lawful list bring what their commands want.
lawful_is_fed : FedLaw → (o : Origin) (list : List Step) → IsLawful o list → AreFed o (acts o list)
lawful_is_fed law o list lawful = law o list lawful

-- `full`: with 1,048,576 steps nothing is ready.
full_is_idle : FullLaw → (o : Origin) (list : List Step) → 1048576 ≤ length (trace o list)
    → engine_ready o list ≡ []
full_is_idle law o list full = law o list full
