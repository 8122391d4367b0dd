-- Open and aborted transactions leave no trace in lawful lists.
use Rattle.std.proofs.Common.{◌≡◌, ◌∙◌, List, [], ◌∷◌, ◌++◌, Option, Some, None, refl, sym, ap}
use Rattle.std.specs.Prelude.{option_map}
use Rattle.locking.specs.Ranges.{ranges_in}
use Rattle.locking.specs.Verdict.{verdict_of}
use Rattle.sp_cells.specs.Flat.{LookUp}
use Rattle.history.specs.Events.{Event}
use Rattle.history.specs.Facts.{Facts, facts}
use Rattle.history.specs.Items.{Items}
use Rattle.history.specs.History.{Act, Accept as AcceptFis, Complete as CompleteTag, Reset as ResetDrive, SoftwareReset, event_of, event_in}
use Rattle.history.specs.NoTrace.{emptied}
use Rattle.history.specs.Opening.{Origin}
use Rattle.history.proofs.Elsewhere.{elsewhere_law}
use Rattle.history.proofs.NoTraceLaws.{open_law, abort_law, facts-alike}
use Rattle.port_history.specs.declared.step.Step.{Step}
use Rattle.port_history.specs.Steps.{Effect, event_before, act_of, act_before, effect_in, trace_of}
use Rattle.headline.specs.NoTrace.{OpenLaw, AbortLaw, acts_since, past_with}
use Rattle.headline.specs.Steps.{past_of, facts_after, event_after}
use Rattle.headline.proofs.Forgotten.{alike_aborted, alike_further}

effect_event : (items : Items) (f : Facts) (act : Act) → (effect_in items f act).event ≡ event_in items f act
effect_event items f (AcceptFis fis bytes) = refl
effect_event items f (CompleteTag tag bytes) = refl
effect_event items f (ResetDrive kind) = refl
effect_event items f SoftwareReset = refl

pub open_law_of_steps : OpenLaw
open_law_of_steps items own o list lawful sp number is_open =
    let unseen = open_law o (past_of items o list) sp number is_open in
    record {
      unseen = unseen;
      verdicts = λ op lba count.
          ap (λ (rows : LookUp). verdict_of (ranges_in o.tables.config.mbr_sectors rows) op lba count) unseen.rows;
      elsewhere = λ step act does apart.
          ap (λ (a : Option Act). option_map (λ (e : Effect). e.event)
          (option_map (effect_in items (facts_after items o list)) a)) does
          ∙ ap Some (effect_event items (facts_after items o list) act
          ∙ sym (elsewhere_law items own o (past_of items o list) sp number act is_open apart));
    }

-- the past of the later steps
past_now : (items : Items) (o : Origin) (before : List Step) (step : Step) (x : Option Effect) (aborts : Event)
    → option_map (λ (e : Effect). e.event) x ≡ Some aborts
    → event_before x (past_of items o before) ≡ aborts ∷ past_of items o before
past_now items o before step None aborts is = absurd (none_some is)
  where
    none_some : {y : Event} → None ≡ Some y → ⊥
    none_some e = cc
past_now items o before step (Some e) aborts is = ap (λ (y : Event). y ∷ past_of items o before) (same is)
  where
    same : {x y : Event} → Some x ≡ Some y → x ≡ y
    same g = cc

one_more : (items : Items) (o : Origin) (rest : List Step) (base : List Event) (acts : List Act) (x : Option Act)
    → past_of items o rest ≡ past_with items o base acts
    → event_before (option_map (effect_in items (facts_after items o rest)) x) (past_of items o rest)
    ≡ past_with items o base (act_before x acts)
one_more items o rest base acts None is = is
one_more items o rest base acts (Some act) is =
    ap (λ (e : Event). e ∷ past_of items o rest) (effect_event items (facts_after items o rest) act)
    ∙ ap (λ (past : List Event). event_of items o past act ∷ past) is

past_is : (items : Items) (o : Origin) (later : List Step) (step : Step) (before : List Step) (aborts : Event)
    → event_after items o before step ≡ Some aborts
    → past_of items o (later ++ step ∷ before)
    ≡ past_with items o (aborts ∷ past_of items o before) (acts_since items o later (step ∷ before))
past_is items o [] step before aborts is = past_now items o before step _ aborts is
past_is items o (s ∷ later) step before aborts is =
    one_more items o (later ++ step ∷ before) (aborts ∷ past_of items o before) (acts_since items o later (step ∷ before))
    (act_of (trace_of items o (later ++ step ∷ before)) s) (past_is items o later step before aborts is)

pub abort_law_of_steps : AbortLaw
abort_law_of_steps items o list lawful later before step sp number aborts place is_open is aborting = record {
  past = past_is items o later step before aborts is;
  events = abort_law items o (past_of items o before) sp number aborts is_open aborting acts;
  same =
      facts-alike o _ _ (alike_further items o (aborts ∷ past_of items o before) (aborts ∷ emptied sp (past_of items o before))
      (alike_aborted aborts (past_of items o before) sp number is_open aborting) acts)
      ∙ ap (facts o) (sym (past_is items o later step before aborts is));
}
  where
    acts : List Act
    acts = acts_since items o later (step ∷ before)
