-- What lines that do no command are told.
use Rattle.std.proofs.Common.{◌≡◌, ◌∙◌, ℕ, List, [], ◌∷◌, ◌++◌, refl, sym, ap, subst, append-nil}
use Rattle.history.specs.Opening.{Origin}
use Rattle.history.specs.History.{Act, Reset}
use Rattle.reasons.specs.declared.explained.onset.Source.{Source}
use Rattle.drive_scripts.specs.Kept.{KeptReasons, RecountsAll}
use Rattle.reasons.specs.Onsets.{Sourced, bare_acts}
use Rattle.drive_scripts.specs.Explanations.{attributed}
use Rattle.drive_scripts.proofs.Added.{attributed_none, bare_none, bare_one, reasons_of_none, reasons_of_reset}
use Rattle.script_lines.specs.declared.report.Report.{Report}
use Rattle.drive_scripts.specs.DriveCourses.{Explains}

-- a line that does no act
pub explains-none : (source : Source) (o : Origin) (past : List Sourced) (acts : List Act) (kept : KeptReasons)
    (report : Report) → acts ≡ bare_acts past → RecountsAll kept o past
    → Explains source o past acts kept report report
explains-none source o past acts kept report is recounts =
    subst (λ (acts : List Act). Explains source o past acts kept report report) (sym is) (record {
      bare = bare_none source past;
      recounts = subst (λ (p : List Sourced). RecountsAll kept o p) (sym (attributed_none source past)) recounts;
      pending = sym
          (ap (λ text. report.pending.items ++ text) (reasons_of_none o past)
          ∙ append-nil report.pending.items);
      last = refl;
    })

-- a line that resets the drive
pub explains-reset : (source : Source) (o : Origin) (past : List Sourced) (acts : List Act) (kind : ℕ)
    (kept : KeptReasons) (report : Report) → acts ≡ Reset kind ∷ bare_acts past
    → RecountsAll kept o (attributed source (Reset kind ∷ bare_acts past) past)
    → Explains source o past acts kept report report
explains-reset source o past acts kind kept report is recounts =
    subst (λ (acts : List Act). Explains source o past acts kept report report) (sym is) (record {
      bare = bare_one source (Reset kind) past;
      recounts = recounts;
      pending = sym
          (ap (λ text. report.pending.items ++ text) (reasons_of_reset o past kind)
          ∙ append-nil report.pending.items);
      last = refl;
    })
