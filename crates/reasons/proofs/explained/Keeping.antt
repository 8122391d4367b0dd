-- What is kept beside a drive, over one more act.
use Rattle.std.proofs.Common.{◌≡◌, ◌∙◌, ℕ, ◌+◌, ◌%◌, ◌^◌, ◌≤◌, ◌==◌, nat_le, Bool, true, false, List, [], ◌∷◌, ◌++◌, length, slice_index_or, refl, ap, if◌then◌else◌, arith, Option, None}
use Rattle.std.proofs.lemmas.Bool.{leb-true, eqb-true, and_parts}
use Rattle.sp_cells.specs.declared.names.TheConstants.{RANGES}
use Rattle.sp_cells.specs.Flat.{LookUp}
use Rattle.locking.specs.Ranges.{is_shadow_up}
use Rattle.reasons.specs.declared.explained.condition.Flag.{Flag}
use Rattle.reasons.specs.declared.explained.condition.Flag.TheVariants.{ReadLockEnabled, WriteLockEnabled, ReadLocked, WriteLocked}
use Rattle.reasons.specs.declared.explained.condition.Place.{Place}
use Rattle.reasons.specs.declared.explained.condition.Condition.{Condition}
use Rattle.reasons.specs.declared.explained.condition.Condition.TheVariants.{Lock, At, Shadow}
use Rattle.reasons.specs.declared.explained.onset.Onset.{Onset}
use Rattle.reasons.specs.declared.explained.onsets.RangeOnsets.{RangeOnsets}
use Rattle.reasons.specs.Conditions.{HasRange, has_range, is_in_force, nowhere, place_in, same_place, range_place, range_named, conditions_of}
use Rattle.reasons.specs.declared.explained.onset.Onset.TheVariants.{AtOpening, AtAct}
use Rattle.reasons.specs.Onsets.{Sourced, bare_acts, act_number, cause_at, onset_at, onset_after, held_since, holds_after}
use Rattle.reasons.specs.Chronicles.{KeptOnsets, Recounts, no_onsets, onset_of_flag, onset_of_place, kept_onset, kept_place, range_onsets_after}
use Rattle.reasons.specs.declared.explained.onset.Counted.{Counted}
use Rattle.reasons.specs.Reasons.{line_since, reason_text, reasons_text, told_with}
use Rattle.audit.specs.declared.reason.Why.{Why}
use Rattle.history.specs.Opening.{Origin}
use Rattle.history.specs.History.{log}
use Rattle.history.specs.Readers.{in_force}

-- no flag of a range without onsets has one
pub none_set : (flag : Flag) → onset_of_flag flag no_onsets ≡ None
none_set ReadLockEnabled = refl
none_set WriteLockEnabled = refl
none_set ReadLocked = refl
none_set WriteLocked = refl

-- one flag of what comes behind
pub flag_so : (flag : Flag) (rows : LookUp) (range : ℕ) (now : Onset) (old : RangeOnsets)
    → onset_of_flag flag (range_onsets_after rows range now old) ≡ onset_after (onset_of_flag flag old) (is_in_force rows (Lock range flag)) now
flag_so ReadLockEnabled rows range now old = refl
flag_so WriteLockEnabled rows range now old = refl
flag_so ReadLocked rows range now old = refl
flag_so WriteLocked rows range now old = refl

-- nor has a range without onsets been anywhere
none-if : (b : Bool) → ◌≡◌ {A = Option Onset} (if b then None else None) None
none-if true = refl
none-if false = refl

pub none_placed : (place : Place) → onset_of_place place no_onsets ≡ None
none_placed place = none-if (same_place nowhere place)

-- two places are one where they are the same
abbrev lying : ℕ → ℕ → Place
lying start length = record { start = start; length = length }

one-place : (a b : Place) → same_place a b ≡ true → a ≡ b
one-place a b h =
    let both = and_parts (a.start == b.start) (a.length == b.length) h in
    ap (λ (n : ℕ). lying n a.length) (eqb-true a.start b.start both.0) ∙ ap (λ (n : ℕ). lying b.start n) (eqb-true a.length b.length both.1)

-- the place of what comes behind
place-if : (place : Place) (rows : LookUp) (range : ℕ) (now : Onset) (old : RangeOnsets) (b : Bool) → same_place (place_in rows range) place ≡ b
    → onset_of_place place (range_onsets_after rows range now old) ≡ onset_after (onset_of_place place old) b now
place-if place rows range now old true same =
    ap (λ (b : Bool). if b then onset_after (onset_of_place (place_in rows range) old) true now else None) same
    ∙ ap (λ (p : Place). onset_after (onset_of_place p old) true now) (one-place (place_in rows range) place same)
place-if place rows range now old false same =
    ap (λ (b : Bool). if b then onset_after (onset_of_place (place_in rows range) old) true now else None) same

-- what is kept of all conditions, with what holds now
pub noted : (rows : LookUp) (now : Onset) (old new : KeptOnsets)
    → ((k : ℕ) → k ≤ RANGES → slice_index_or new.ranges k no_onsets ≡ range_onsets_after rows k now (slice_index_or old.ranges k no_onsets))
    → new.shadow ≡ onset_after old.shadow (is_shadow_up rows) now → (condition : Condition) → HasRange condition
    → kept_onset new condition ≡ onset_after (kept_onset old condition) (is_in_force rows condition) now
noted rows now old new each shadow (Lock range flag) has =
    ap (onset_of_flag flag) (each range (leb-true range 16 has)) ∙ flag_so flag rows range now (slice_index_or old.ranges range no_onsets)
noted rows now old new each shadow (At range place) has =
    ap (onset_of_place place) (each range (leb-true range 16 has))
    ∙ place-if place rows range now (slice_index_or old.ranges range no_onsets) (same_place (place_in rows range) place) refl
noted rows now old new each shadow Shadow has = shadow

placed-if : (rows : LookUp) (now : Onset) (old new : KeptOnsets) (range : ℕ) (b : Bool) → nat_le range RANGES ≡ b
    → ((k : ℕ) → k ≤ RANGES → slice_index_or new.ranges k no_onsets ≡ range_onsets_after rows k now (slice_index_or old.ranges k no_onsets))
    → (if b then (slice_index_or new.ranges range no_onsets).place else nowhere) ≡ (if b then place_in rows range else nowhere)
placed-if rows now old new range true has each = ap (λ (r : RangeOnsets). r.place) (each range (leb-true range 16 has))
placed-if rows now old new range false has each = refl

pub placed : (rows : LookUp) (now : Onset) (old new : KeptOnsets)
    → ((k : ℕ) → k ≤ RANGES → slice_index_or new.ranges k no_onsets ≡ range_onsets_after rows k now (slice_index_or old.ranges k no_onsets))
    → (range : ℕ) → kept_place new range ≡ range_place rows range
placed rows now old new each range = placed-if rows now old new range (nat_le range RANGES) refl each

-- acts are counted on

wraps : (n : ℕ) → (n % 2 ^ 64 + 1) % 2 ^ 64 ≡ (n + 1) % 2 ^ 64
wraps n = grind arith

pub one_more : (acts : ℕ) (s : Sourced) (past : List Sourced) → acts ≡ act_number past → (acts + 1) % 2 ^ 64 ≡ act_number (s ∷ past)
one_more acts s past e = ap (λ (n : ℕ). (n + 1) % 2 ^ 64) e ∙ wraps (length past) ∙ grind arith

-- what is kept at the opening, and behind one more act, is what the acts say
pub opens : (k : KeptOnsets) (o : Origin) (rows : LookUp) → k.acts ≡ 0
    → ((c : Condition) → HasRange c → kept_onset k c ≡ onset_after None (is_in_force rows c) AtOpening)
    → ((range : ℕ) → kept_place k range ≡ range_place rows range) → rows ≡ in_force o [] → Recounts k o []
opens k o rows acts onsets places same = record {
  acts = acts;
  onsets = λ c has. onsets c has ∙ ap (λ (look : LookUp). onset_after None (is_in_force look c) AtOpening) same;
  places = λ range. places range ∙ ap (λ (look : LookUp). range_place look range) same;
}

pub goes-on : (k new : KeptOnsets) (o : Origin) (s : Sourced) (past : List Sourced) (rows : LookUp)
    → new.acts ≡ (k.acts + 1) % 2 ^ 64
    → ((c : Condition) → HasRange c → kept_onset new c ≡ onset_after (kept_onset k c) (is_in_force rows c) (AtAct new.acts s.source (cause_at s.act)))
    → ((range : ℕ) → kept_place new range ≡ range_place rows range)
    → rows ≡ in_force o (log o (bare_acts (s ∷ past))) → Recounts k o past → Recounts new o (s ∷ past)
goes-on k new o s past rows acts onsets places same kept =
    let counted : new.acts ≡ act_number (s ∷ past) = acts ∙ one_more k.acts s past kept.acts in record {
      acts = counted;
      onsets = λ c has. onsets c has
          ∙ ap (λ (n : ℕ). onset_after (kept_onset k c) (is_in_force rows c) (AtAct n s.source (cause_at s.act))) counted
          ∙ ap (λ (was : Option Onset). onset_after was (is_in_force rows c) (onset_at s past)) (kept.onsets c has)
          ∙ ap (λ (look : LookUp). onset_after (held_since (holds_after o c) past) (is_in_force look c) (onset_at s past)) same;
      places = λ range. places range ∙ ap (λ (look : LookUp). range_place look range) same;
    }

-- what is kept tells the same lines as the acts
same_line : (counted : Counted) (condition : Condition) (b : Bool) (x y : Option Onset) → (b ≡ true → x ≡ y)
    → (if b then line_since counted condition x else []) ≡ (if b then line_since counted condition y else [])
same_line counted condition true x y e = ap (line_since counted condition) (e refl)
same_line counted condition false x y e = refl

same_reasons : (counted : Counted) (k : KeptOnsets) (o : Origin) (past : List Sourced) (conditions : List Condition) → Recounts k o past
    → reasons_text counted (kept_onset k) conditions ≡ reasons_text counted (λ c. held_since (holds_after o c) past) conditions
same_reasons counted k o past [] r = refl
same_reasons counted k o past (c ∷ conditions) r =
    ap (λ l. l ++ reasons_text counted (kept_onset k) conditions) (same_line counted c (has_range c) (kept_onset k c) (held_since (holds_after o c) past) (λ is. r.onsets c is))
    ∙ ap (λ l. reason_text counted c (held_since (holds_after o c) past) ++ l) (same_reasons counted k o past conditions r)

pub same_explanation : (counted : Counted) (k : KeptOnsets) (o : Origin) (past : List Sourced) (why : Why) (remedy : List ℕ) → Recounts k o past
    → told_with counted (kept_onset k) (kept_place k) why remedy
    ≡ told_with counted (λ c. held_since (holds_after o c) past) (range_place (in_force o (log o (bare_acts past)))) why remedy
same_explanation counted k o past why remedy r =
    ap (λ (place : Place). reasons_text counted (kept_onset k) (conditions_of why place) ++ remedy ++ 10 ∷ []) (r.places (range_named why))
    ∙ ap (λ l. l ++ remedy ++ 10 ∷ [])
    (same_reasons counted k o past (conditions_of why (range_place (in_force o (log o (bare_acts past))) (range_named why))) r)
