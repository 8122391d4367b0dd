-- The audit, over every lawful list of steps: each act that was denied has exactly one line, at its
-- step, with its client, in the words of what denied it; no other act has one.
use Rattle.std.specs.Prelude.{◌≡◌, ℕ, ◌+◌, ◌<◌, ◌==◌, ◌⊎◌, List, [], ◌∷◌, ◌++◌, length, Some, if◌then◌else◌}
use Rattle.audit.specs.declared.reason.AuditLine.{AuditLine}
use Rattle.audit.specs.declared.reason.Why.{Why}
use Rattle.tcg_calls.specs.Asks.{uid_of}
use Rattle.trusted_cmds.specs.Trims.{extents_in}
use Rattle.methods.specs.Laws.{IsAmong, IsDeniedBy}
use Rattle.history.specs.Decisions.{ranges_in_force}
use Rattle.history.specs.DenialLaws.{TransferDenied, MethodDenied, AttemptDenied, StartDenied, TrimDenied}
use Rattle.history.specs.Tcg.{tcg}
use Rattle.history.specs.Facts.{Facts, standing}
use Rattle.history.specs.History.{Act}
use Rattle.history.specs.Opening.{Origin}
use Rattle.history.specs.TransferLaws.{IsReason, NamesExtent}
use Rattle.port_history.specs.declared.stages.Put.{Put}
use Rattle.port_history.specs.declared.stages.Stage.TheVariants.{Issued}
use Rattle.port_history.specs.declared.step.Step.{Step}
use Rattle.port_history.specs.declared.step.Step.TheVariants as steps
use Rattle.port_history.specs.Refusals.{IsLawful}
use Rattle.port_history.specs.Steps.{trace, stage, act_of, audit}
use Rattle.headline.specs.Steps.{facts_after}

-- A transfer that its verdict denied: by the shadow, or by the range and flag of its least denied
-- sector.
pub record IsTransferDenied (f : Facts) (act : Act) (why : Why) : Type 0 where
  pub by : TransferDenied f act why
  pub names : IsReason (ranges_in_force f) by.op by.lba by.count why

-- A call that no access entry granted: by the first column, in the call's order, that has none.
pub record IsMethodDenied (f : Facts) (act : Act) (why : Why) : Type 0 where
  pub by : MethodDenied f act why
  pub names : IsDeniedBy (standing f by.session) (uid_of by.object) (uid_of by.method) by.ask why

-- A TRIM that the policy denied: by the first of its extents that may not be written.
pub record IsTrimDenied (f : Facts) (act : Act) (why : Why) : Type 0 where
  pub by : TrimDenied f act why
  pub names : NamesExtent (ranges_in_force f) (extents_in by.looked.payload) why

-- What denied an act: the policy, the access entries, or a failed attempt, which is named with its
-- authority and how it failed.
abbrev pub IsDeniedAs : Facts → Act → Why → Type 0
IsDeniedAs f act why =
    IsTransferDenied f act why ⊎ IsMethodDenied f act why ⊎ AttemptDenied f act why
    ⊎ StartDenied f act why ⊎ IsTrimDenied f act why

-- A step at which the drive denied the command that a client put.
pub record IsDeniedStep (o : Origin) (before : List Step) (step : Step) (client : ℕ)
    (why : Why) : Type 0 where
  pub tag : ℕ
  pub put : Put
  pub accepts : step ≡ steps.Accept tag
  pub stands : stage (trace o before) tag ≡ Issued put
  pub its_client : put.client ≡ client
  pub act : Act
  pub does : act_of (trace o before) step ≡ Some act
  pub denied : IsDeniedAs (facts_after tcg o before) act why

-- The lines that carry a number.
abbrev pub lines_at : ℕ → List AuditLine → List AuditLine
lines_at number [] = []
lines_at number (line ∷ lines) =
    if line.step == number then line ∷ lines_at number lines else lines_at number lines

-- The line is that of a denied step of the list, whose number it has: steps are counted from 1.
pub record IsLineOf (o : Origin) (list : List Step) (line : AuditLine) : Type 0 where
  pub later : List Step
  pub step : Step
  pub before : List Step
  pub place : list ≡ later ++ step ∷ before
  pub number : line.step ≡ 1 + length before
  pub denied : IsDeniedStep o before step line.client line.why

-- The log of a list of steps. A denied step has its line and no second one, any other step none; and
-- there are no further lines. They stand in the order of the steps: the newest line comes first.
pub record IsAudited (o : Origin) (list : List Step) : Type 0 where
  pub denied : (later before : List Step) (step : Step) (client : ℕ) (why : Why)
      → list ≡ later ++ step ∷ before → IsDeniedStep o before step client why
      → lines_at (1 + length before) (audit (trace o list))
      ≡ record { step = 1 + length before; client = client; why = why } ∷ []
  pub others : (later before : List Step) (step : Step) → list ≡ later ++ step ∷ before
      → ((client : ℕ) (why : Why) → IsDeniedStep o before step client why → ⊥)
      → lines_at (1 + length before) (audit (trace o list)) ≡ []
  pub lines : (line : AuditLine) → IsAmong (audit (trace o list)) line → IsLineOf o list line
  pub rises : (newer older : List AuditLine) (line other : AuditLine)
      → audit (trace o list) ≡ newer ++ line ∷ older → IsAmong older other → other.step < line.step

abbrev pub AuditLaw : Type 0
AuditLaw = (o : Origin) (list : List Step) → IsLawful o list → IsAudited o list
