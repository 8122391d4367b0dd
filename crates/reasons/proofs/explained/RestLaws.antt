-- What a denied transfer rests on holds.
use Rattle.std.proofs.Common.{◌≡◌, ◌∙◌, ◌⊎◌, ℕ, zero, suc, ◌==◌, ◌&&◌, ◌+◌, ◌≤◌, ◌<◌, nat_le, nat_lt, not, if◌then◌else◌, Bool, true, false, List, [], ◌∷◌, refl, sym, ap, subst, arith, inl, inr, Option, Some, None, eq-eqb}
use Rattle.std.specs.List.{AllByRecursion}
use Rattle.std.proofs.lemmas.Bool.{le-leb, ltb-true, and_from}
use Rattle.sp_cells.specs.Flat.{LookUp}
use Rattle.sp_cells.specs.Ranges.{range_start, range_length}
use Rattle.sp_cells.specs.declared.names.TheConstants.{RANGES}
use Rattle.audit.specs.declared.reason.Why.{Why}
use Rattle.locking.specs.declared.range.Op.{Op}
use Rattle.locking.specs.declared.range.Op.TheVariants.{Read, Write}
use Rattle.locking.specs.declared.range.RangeRow.{RangeRow}
use Rattle.locking.specs.Range.{covers, permits, row_in, row_at, is_shadowed}
use Rattle.locking.specs.Ranges.{row_of, range_rows_from, ranges_in, is_shadow_up}
use Rattle.locking.specs.Verdict.{why_of, shadow_why}
use Rattle.history.specs.Opening.{Origin}
use Rattle.history.specs.Facts.{Facts, facts}
use Rattle.history.specs.Readers.{in_force}
use Rattle.history.specs.History.{log}
use Rattle.history.specs.Decisions.{ranges_in_force}
use Rattle.history.specs.TransferLaws.{IsReason}
use Rattle.history.proofs.TransferProofs.{verdict_law}
use Rattle.reasons.specs.declared.explained.condition.Condition.{Condition}
use Rattle.reasons.specs.declared.explained.onset.Onset.{Onset}
use Rattle.reasons.specs.declared.explained.condition.Condition.TheVariants.{At}
use Rattle.reasons.specs.Conditions.{nowhere, place_in, same_place, range_place, conditions_in}
use Rattle.reasons.specs.Onsets.{Sourced, bare_acts, held_since, holds_after}
use Rattle.reasons.specs.Rests.{IsInForce, HasSome, RestLaw, HasOnset, ReasonLaw}
use Rattle.reasons.proofs.explained.OnsetLaws.{never}

-- the range of a sector is one of those that the rows describe
found-if : (look : LookUp) (first n sector : ℕ) (global row : RangeRow) (b : Bool) → covers (row_of look first) sector ≡ b
    → ((row_in (range_rows_from look (suc first) n) global sector ≡ global) ⊎ ((k : ℕ) × (k < suc first + n) × (row_in (range_rows_from look (suc first) n) global sector ≡ row_of look k)))
    → (row_in (range_rows_from look first (suc n)) global sector ≡ global) ⊎ ((k : ℕ) × (k < first + suc n) × (row_in (range_rows_from look first (suc n)) global sector ≡ row_of look k))
found-if look first n sector global row true here later = inr (first, omega arith, ap (λ b. if b then row_of look first else row_in (range_rows_from look (suc first) n) global sector) here)
found-if look first n sector global row false here (inl is) = inl (ap (λ b. if b then row_of look first else row_in (range_rows_from look (suc first) n) global sector) here ∙ is)
found-if look first n sector global row false here (inr its) = inr (its.0, omega (arith, its.1), ap (λ b. if b then row_of look first else row_in (range_rows_from look (suc first) n) global sector) here ∙ its.2)

found : (look : LookUp) (first n sector : ℕ) (global : RangeRow)
    → (row_in (range_rows_from look first n) global sector ≡ global) ⊎ ((k : ℕ) × (k < first + n) × (row_in (range_rows_from look first n) global sector ≡ row_of look k))
found look first zero sector global = inl refl
found look first (suc n) sector global = found-if look first n sector global global (covers (row_of look first) sector) refl (found look (suc first) n sector global)

its-row : (size sector : ℕ) (look : LookUp) → (k : ℕ) × (k ≤ 16) × (row_at (ranges_in size look) sector ≡ row_of look k)
unfolding ranges_in
its-row size sector look =
    elim (found look 1 16 sector (row_of look 0)) [
      | inl is ↦ (0, omega arith, is)
      | inr its ↦ (its.0, omega (arith, its.1), its.2)
    ]

-- a lock denies where it is enabled and set
both-set : (enabled locked : Bool) → not (enabled && locked) ≡ false → (locked ≡ true) × (enabled ≡ true)
both-set true true h = (refl, refl)
both-set true false h = absurd cc
both-set false locked h = absurd cc

-- and its range lies where it lies
in-place : (look : LookUp) (k : ℕ) → k ≤ 16 → same_place (place_in look k) (range_place look k) ≡ true
in-place look k le =
    ap (λ (b : Bool). same_place (place_in look k) (if b then place_in look k else nowhere)) (le-leb k 16 le)
    ∙ and_from (range_start look k == range_start look k) (range_length look k == range_length look k)
    (eq-eqb (range_start look k) (range_start look k) refl) (eq-eqb (range_length look k) (range_length look k) refl)

lies-rests : (f : Facts) (k : ℕ) → k ≤ 16 → (b : Bool) → AllByRecursion (IsInForce f) (if b then At k (range_place f.rows k) ∷ [] else [])
lies-rests f k le true = ((le-leb k 16 le, in-place f.rows k le), tt)
lies-rests f k le false = tt

range-rests : (f : Facts) (op : Op) (lba count k : ℕ) → k ≤ 16 → permits op (row_of f.rows k) ≡ false → AllByRecursion (IsInForce f) (conditions_in f.rows (why_of op lba count k))
range-rests f Read lba count k le denied =
    let both = both-set (row_of f.rows k).read_enabled (row_of f.rows k).read_locked denied in
    let there : nat_le k RANGES ≡ true = le-leb k 16 le in
    ((there, both.0), ((there, both.1), lies-rests f k le (nat_lt 0 k)))
range-rests f Write lba count k le denied =
    let both = both-set (row_of f.rows k).write_enabled (row_of f.rows k).write_locked denied in
    let there : nat_le k RANGES ≡ true = le-leb k 16 le in
    ((there, both.0), ((there, both.1), lies-rests f k le (nat_lt 0 k)))

-- the shadow denies where it is up
up-if : (size sector : ℕ) (b : Bool) → nat_lt sector (if b then size else 0) ≡ true → b ≡ true
up-if size sector true h = refl
up-if size sector false h = absurd (omega (arith, ltb-true sector 0 h))

is-up : (size sector : ℕ) (look : LookUp) → is_shadowed (ranges_in size look) sector ≡ true → is_shadow_up look ≡ true
unfolding ranges_in
is-up size sector look h = up-if size sector (is_shadow_up look) h

shadow-rests : (f : Facts) (op : Op) (lba count : ℕ) → is_shadow_up f.rows ≡ true → AllByRecursion (IsInForce f) (conditions_in f.rows (shadow_why op lba count))
shadow-rests f Read lba count up = ((refl, up), tt)
shadow-rests f Write lba count up = ((refl, up), tt)

reason-rests : (f : Facts) (op : Op) (lba count : ℕ) (why : Why) → IsReason (ranges_in_force f) op lba count why → AllByRecursion (IsInForce f) (conditions_in f.rows why)
reason-rests f op lba count why (inl shadow) =
    subst (λ (w : Why). AllByRecursion (IsInForce f) (conditions_in f.rows w)) (sym shadow.names)
    (shadow-rests f op lba count (is-up f.config.mbr_sectors shadow.sector f.rows shadow.shadowed))
reason-rests f op lba count why (inr range) =
    let row = its-row f.config.mbr_sectors range.sector f.rows in
    let denied : permits op (row_of f.rows row.0) ≡ false = ap (permits op) (sym row.2) ∙ range.least.denied in
    subst (λ (w : Why). AllByRecursion (IsInForce f) (conditions_in f.rows w))
    (sym (range.names ∙ ap (λ (r : RangeRow). why_of op lba count r.range) row.2))
    (range-rests f op lba count row.0 row.1 denied)

-- and there is something
range-some : (look : LookUp) (op : Op) (lba count k : ℕ) → HasSome (conditions_in look (why_of op lba count k))
range-some look Read lba count k = tt
range-some look Write lba count k = tt

shadow-some : (look : LookUp) (op : Op) (lba count : ℕ) → HasSome (conditions_in look (shadow_why op lba count))
shadow-some look Read lba count = tt
shadow-some look Write lba count = tt

reason-some : (f : Facts) (op : Op) (lba count : ℕ) (why : Why) → IsReason (ranges_in_force f) op lba count why → HasSome (conditions_in f.rows why)
reason-some f op lba count why (inl shadow) = subst (λ (w : Why). HasSome (conditions_in f.rows w)) (sym shadow.names) (shadow-some f.rows op lba count)
reason-some f op lba count why (inr range) =
    subst (λ (w : Why). HasSome (conditions_in f.rows w)) (sym range.names) (range-some f.rows op lba count (row_at (ranges_in_force f) range.sector).range)

pub rests : RestLaw
rests f act why t =
    let its = (verdict_law (ranges_in_force f) t.op t.lba t.count).reason why t.verdict in
    (reason-some f t.op t.lba t.count why its, reason-rests f t.op t.lba t.count why its)

-- what holds has an onset
onset-if : (o : Origin) (past : List Sourced) (c : Condition) (found : Option Onset) → held_since (holds_after o c) past ≡ found → holds_after o c past ≡ true → HasOnset o past c
onset-if o past c (Some onset) e holds = (onset, e)
onset-if o past c None e holds =
    let gone : holds_after o c past ≡ false = (never (holds_after o c) past).0 e in
    let clash : true ≡ false = sym holds ∙ gone in absurd cc

each-onset : (o : Origin) (past : List Sourced) (cs : List Condition) → AllByRecursion (IsInForce (facts o (log o (bare_acts past)))) cs → AllByRecursion (HasOnset o past) cs
each-onset o past [] all = tt
each-onset o past (c ∷ cs) all = (onset-if o past c (held_since (holds_after o c) past) refl all.0.1, each-onset o past cs all.1)

pub reasons : ReasonLaw
reasons o past act why denied =
    let rest = rests (facts o (log o (bare_acts past))) act why denied in
    (rest.0, each-onset o past (conditions_in (in_force o (log o (bare_acts past))) why) rest.1)
