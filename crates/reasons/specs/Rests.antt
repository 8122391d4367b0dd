-- A denied transfer rests on something, all of which is in force before its act; and so each of its conditions has an
-- onset.
use Rattle.std.specs.Prelude.{◌≡◌, true, List, [], ◌∷◌, Some}
use Rattle.std.specs.List.{AllByRecursion}
use Rattle.audit.specs.declared.reason.Why.{Why}
use Rattle.history.specs.Opening.{Origin}
use Rattle.history.specs.Facts.{Facts, facts}
use Rattle.history.specs.Readers.{in_force}
use Rattle.history.specs.History.{Act, log}
use Rattle.history.specs.DenialLaws.{TransferDenied}
use Rattle.reasons.specs.declared.explained.condition.Condition.{Condition}
use Rattle.reasons.specs.declared.explained.onset.Onset.{Onset}
use Rattle.reasons.specs.Conditions.{HasRange, is_in_force, conditions_in}
use Rattle.reasons.specs.Onsets.{Sourced, bare_acts, held_since, holds_after}

-- it is a condition of a range there is, and holds
abbrev pub IsInForce : Facts → Condition → Type 0
IsInForce f condition = HasRange condition × (is_in_force f.rows condition ≡ true)

-- there is one
abbrev pub HasSome : List Condition → Type 0
HasSome [] = ⊥
HasSome (condition ∷ conditions) = Unit {0}

abbrev pub RestLaw : Type 0
RestLaw =
    (f : Facts) (act : Act) (why : Why) → TransferDenied f act why
    → HasSome (conditions_in f.rows why)
    × AllByRecursion (IsInForce f) (conditions_in f.rows why)

-- it holds since some act, or since the opening
abbrev pub HasOnset : Origin → List Sourced → Condition → Type 0
HasOnset o past condition =
    (onset : Onset) × (held_since (holds_after o condition) past ≡ Some onset)

abbrev pub ReasonLaw : Type 0
ReasonLaw =
    (o : Origin) (past : List Sourced) (act : Act) (why : Why)
    → TransferDenied (facts o (log o (bare_acts past))) act why
    → HasSome (conditions_in (in_force o (log o (bare_acts past))) why)
    × AllByRecursion (HasOnset o past) (conditions_in (in_force o (log o (bare_acts past))) why)
