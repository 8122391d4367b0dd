-- An opening that does not run to its end.
use Rattle.std.proofs.Common.{◌≡◌, ℕ, zero, suc, rules, Bool, true, false, ◌==◌, List, [], cond, Option, None, Some, refl, sym, subst, append-nil}
use Rattle.std.proofs.lemmas.Bool.{false≢true}
use Rattle.std.specs.Io.KnownBytes.{Appends}
use Rattle.sp_cells.specs.Config.{Config}
use Rattle.tool.specs.Outcomes.{RunOutcome, Yields, ends, run_outcome_of}
use Rattle.tool.specs.Scripts.{script_lines}
use Rattle.runs.specs.Alphabets.{opening_lines_text}
use Rattle.runs.specs.Merges.{part_outcome_of, part_behind, part_of_lines}
use Rattle.runs.specs.Tellings.{exploration_of, explored_behind, explored_lines}
use Rattle.runs.specs.declared.explored.plan.Plan.{Plan}
use Rattle.runs.specs.declared.explored.share.Share.{Share}

appends_nothing : (before : Option (List ℕ)) → Appends before before []
appends_nothing None = tt
appends_nothing (Some xs) = sym (append-nil xs)

ends_with : (whole : RunOutcome) (status : ℕ) (before : Option (List ℕ)) (is_done : Bool) → is_done ≡ false
    → Yields (cond is_done whole (ends status)) status before before
ends_with whole status before true e = absurd (false≢true (sym e))
ends_with whole status before false e = (refl, appends_nothing before)

failed : (status : ℕ) → (status ≡ 0 → ⊥) → (status == 0) ≡ false
failed zero differs = absurd (differs refl)
failed (suc n) differs = search rules

-- its status is that of the whole, and nothing is written
pub stopped : (config : Config) (plan : Plan) (text : List ℕ) (status : ℕ) (before : Option (List ℕ))
    → (run_outcome_of config (opening_lines_text (script_lines text))).status ≡ status → (status ≡ 0 → ⊥)
    → Yields (exploration_of config plan text) status before before
stopped config plan text status before is differs =
    subst (λ s. Yields (explored_behind config plan (script_lines text) s) status before before) (sym is)
    (ends_with (explored_lines config plan (script_lines text)) status before (status == 0) (failed status differs))

-- the same of a part
pub part_stopped : (config : Config) (plan : Plan) (share : Share) (text : List ℕ) (status : ℕ) (before : Option (List ℕ))
    → (run_outcome_of config (opening_lines_text (script_lines text))).status ≡ status → (status ≡ 0 → ⊥)
    → Yields (part_outcome_of config plan share text) status before before
part_stopped config plan share text status before is differs =
    subst (λ s. Yields (part_behind config plan share (script_lines text) s) status before before) (sym is)
    (ends_with (part_of_lines config plan share (script_lines text)) status before (status == 0) (failed status differs))
