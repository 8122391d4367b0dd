-- A TRIM is done exactly where all that it names may be written.
use Rattle.std.proofs.Common.{◌≡◌, ◌∙◌, ℕ, ◌+◌, ◌&&◌, Bool, true, false, List, [], ◌∷◌, ◌++◌, Option, Some, None, refl, sym, ap, subst, cond, arith}
use Rattle.std.proofs.lemmas.List.Elements.{All-head, All-tail, All-cons}
use Rattle.std.specs.Prelude.{nat_le}
use Rattle.std.specs.List.{All, list_all}
use Rattle.audit.specs.declared.reason.Why.{Why}
use Rattle.audit.specs.declared.rules.rule.Rule.TheVariants.{BeyondDrive}
use Rattle.locking.specs.Range.{RangeRows}
use Rattle.locking.specs.Verdict.{verdict_of}
use Rattle.locking.specs.declared.range.Op.TheVariants.{Write}
use Rattle.locking.specs.declared.ranges.Verdict.{Verdict}
use Rattle.locking.specs.declared.ranges.Verdict.TheVariants.{Serve, Shadow, Denied}
use Rattle.trusted_cmds.specs.declared.command.Command.TheVariants.{Trim}
use Rattle.trusted_cmds.specs.declared.trim.Extent.{Extent}
use Rattle.trusted_cmds.specs.Trims.{extents_in}
use Rattle.history.specs.Events.{Trimmed, Event, did, or_else}
use Rattle.history.specs.Facts.{Facts}
use Rattle.history.specs.Decisions.{aborted, not_found, fails, denial_in, are_on_drive, first_denial, trimmed_by, trimmed, ranges_in_force}
use Rattle.history.specs.TransferLaws.{IsPermitted, is_denied, AreTrimmable, NamesExtent, TrimsAll, TrimLaw}
use Rattle.history.proofs.MethodProofs.{looked_law}
use Rattle.history.proofs.TransferProofs.{verdict_law}

none-some : {A : Type 0} {x : A} → None ≡ Some x → ⊥
none-some h = cc

true-false : true ≡ false → ⊥
true-false h = cc

both : (a b : Bool) → (a && b) ≡ true → (a ≡ true) × (b ≡ true)
both true b h = (refl, h)
both false b h = absurd (true-false (sym h))

joined : (a b : Bool) → a ≡ true → b ≡ true → (a && b) ≡ true
joined true b ha hb = hb
joined false b ha hb = absurd (true-false (sym ha))

passed : (v : Verdict) (later : Option Why) → or_else (denial_in v) later ≡ None → (is_denied v ≡ false) × (later ≡ None)
passed Serve later h = (refl, h)
passed Shadow later h = (refl, h)
passed (Denied why) later h = absurd (none-some (sym h))

passes : (v : Verdict) (later : Option Why) → is_denied v ≡ false → later ≡ None → or_else (denial_in v) later ≡ None
passes Serve later free h = h
passes Shadow later free h = h
passes (Denied why) later free h = absurd (true-false free)

abbrev MayTrim : ℕ → RangeRows → Extent → Type 0
MayTrim sectors ranges extent = (nat_le (extent.lba + extent.count) sectors ≡ true) × IsPermitted ranges Write extent.lba extent.count

all-may : (sectors : ℕ) (ranges : RangeRows) (extents : List Extent) → are_on_drive sectors extents ≡ true → first_denial ranges extents ≡ None
    → All (MayTrim sectors ranges) extents
unfolding verdict_of first_denial
all-may sectors ranges [] on free = λ k d lt. absurd (omega arith)
all-may sectors ranges (extent ∷ extents) on free =
    let here = both (nat_le (extent.lba + extent.count) sectors) (are_on_drive sectors extents) on in
    let served = passed (verdict_of ranges Write extent.lba extent.count) (first_denial ranges extents) free in
    All-cons (MayTrim sectors ranges) extent extents
    (here.0, (verdict_law ranges Write extent.lba extent.count).served.0 served.0)
    (all-may sectors ranges extents here.1 served.1)

all-on : (sectors : ℕ) (ranges : RangeRows) (extents : List Extent) → All (MayTrim sectors ranges) extents → are_on_drive sectors extents ≡ true
all-on sectors ranges [] may = refl
all-on sectors ranges (extent ∷ extents) may =
    joined (nat_le (extent.lba + extent.count) sectors) (are_on_drive sectors extents)
    (All-head (MayTrim sectors ranges) extent extents may).0
    (all-on sectors ranges extents (All-tail (MayTrim sectors ranges) extent extents may))

all-free : (sectors : ℕ) (ranges : RangeRows) (extents : List Extent) → All (MayTrim sectors ranges) extents → first_denial ranges extents ≡ None
unfolding first_denial
all-free sectors ranges [] may = refl
all-free sectors ranges (extent ∷ extents) may =
    passes (verdict_of ranges Write extent.lba extent.count) (first_denial ranges extents)
    ((verdict_law ranges Write extent.lba extent.count).served.1 (All-head (MayTrim sectors ranges) extent extents may).1)
    (all-free sectors ranges extents (All-tail (MayTrim sectors ranges) extent extents may))

-- which extent a denial is of
added : (ranges : RangeRows) (extent : Extent) (extents : List Extent) (why : Why) → is_denied (verdict_of ranges Write extent.lba extent.count) ≡ false
    → NamesExtent ranges extents why → NamesExtent ranges (extent ∷ extents) why
added ranges extent extents why free n = record {
  before = extent ∷ n.before;
  extent = n.extent;
  after = n.after;
  place = ap (λ (xs : List Extent). extent ∷ xs) n.place;
  passed = All-cons (λ (e : Extent). IsPermitted ranges Write e.lba e.count) extent n.before
      ((verdict_law ranges Write extent.lba extent.count).served.0 free) n.passed;
  reason = n.reason;
}

some-same : {x y : Why} → Some x ≡ Some y → x ≡ y
some-same h = cc

named : (ranges : RangeRows) (extent : Extent) (extents : List Extent) (why : Why) (v : Verdict) → verdict_of ranges Write extent.lba extent.count ≡ v
    → (first_denial ranges extents ≡ Some why → NamesExtent ranges extents why) → or_else (denial_in v) (first_denial ranges extents) ≡ Some why
    → NamesExtent ranges (extent ∷ extents) why
named ranges extent extents why Serve is later h = added ranges extent extents why (ap is_denied is) (later h)
named ranges extent extents why Shadow is later h = added ranges extent extents why (ap is_denied is) (later h)
named ranges extent extents why (Denied w) is later h = record {
  before = [];
  extent = extent;
  after = extents;
  place = refl;
  passed = λ k d lt. absurd (omega arith);
  reason = (verdict_law ranges Write extent.lba extent.count).reason why (is ∙ ap (λ (x : Why). Denied x) (some-same h));
}

pub names_extent : (ranges : RangeRows) (extents : List Extent) (why : Why) → first_denial ranges extents ≡ Some why → NamesExtent ranges extents why
unfolding verdict_of first_denial
names_extent ranges [] why h = absurd (none-some h)
names_extent ranges (extent ∷ extents) why h =
    named ranges extent extents why (verdict_of ranges Write extent.lba extent.count) refl (names_extent ranges extents why) h

trims-all : (f : Facts) (extents : List Extent) → TrimsAll f (trimmed f extents) extents
trims-all f extents =
    by (are_on_drive f.config.sectors extents) (first_denial (ranges_in_force f) extents) refl refl
  where
    by : (on : Bool) (x : Option Why) → are_on_drive f.config.sectors extents ≡ on → first_denial (ranges_in_force f) extents ≡ x
        → TrimsAll f (cond on (trimmed_by extents x) (fails not_found None (Some BeyondDrive))) extents
    by true None on-is x-is = record {
      done = (λ h. all-may f.config.sectors (ranges_in_force f) extents on-is x-is, λ may. refl);
      whole = λ h. refl;
      none = λ error h. absurd (none-some h);
      reason = λ why h. absurd (none-some h);
    }
    by true (Some why) on-is x-is = record {
      done = (
        λ h. absurd (none-some (sym h)),
        λ may. absurd (none-some (sym (all-free f.config.sectors (ranges_in_force f) extents may) ∙ x-is)),
      );
      whole = λ h. absurd (none-some (sym h));
      none = λ error h. refl;
      reason = λ w h. names_extent (ranges_in_force f) extents w (x-is ∙ h);
    }
    by false x on-is x-is = record {
      done = (
        λ h. absurd (none-some (sym h)),
        λ may. absurd (true-false (sym (all-on f.config.sectors (ranges_in_force f) extents may) ∙ on-is)),
      );
      whole = λ h. absurd (none-some (sym h));
      none = λ error h. refl;
      reason = λ why h. absurd (none-some h);
    }

pub trim_law : TrimLaw
trim_law items f act blocks looked =
    subst (λ (event : Event). TrimsAll f event (extents_in looked.payload)) (sym (looked_law items f act (Trim blocks) None looked))
    (trims-all f (extents_in looked.payload))
