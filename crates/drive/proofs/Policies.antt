-- What the policy says of a transfer, and what the history does with it then.
use Rattle.std.proofs.Common.{◌≡◌, ℕ, ◌+◌, ◌-◌, ◌<◌, ◌≤◌, Bool, true, false, Option, Some, None, Result, Ok, Err, IfOk, IfSome, refl, sym, subst, ap, if◌then◌else◌, arith}
use Rattle.std.proofs.lemmas.Bool.{le-leb, ltb-true}
use Rattle.fis.specs.declared.h2d.RegH2d.{RegH2d}
use Rattle.locking.specs.declared.ranges.Verdict.{Verdict}
use Rattle.locking.specs.declared.ranges.Verdict.TheVariants.{Serve, Shadow, Denied}
use Rattle.locking.specs.declared.range.Op.{Op}
use Rattle.locking.specs.Range.{RangeRows}
use Rattle.locking.specs.Ranges.{ranges_in, is_shadow_up}
use Rattle.locking.specs.Verdict.{verdict_of, IsVerdict}
use Rattle.locking.proofs.Verdicts.{verdict_is, shadow_has_sector}
use Rattle.sp_cells.specs.Flat.{LookUp}
use Rattle.trusted_cmds.specs.declared.command.Command.{Command}
use Rattle.history.specs.Events.{Deed, did}
use Rattle.history.specs.Facts.{Facts}
use Rattle.history.specs.Decisions.{aborted, not_found, fails, fails_queue, holds, on_drive, verdict_on, queued_by, unqueued_by, queued_transfer, unqueued_transfer}
use Rattle.drive.specs.declared.decision.Refusal.{Refusal}
use Rattle.drive.specs.declared.transfer.Transfer.{Transfer}
use Rattle.drive.specs.Decision.{ranges_of, Refused, told, by_verdict, policy, policy_on}
use Rattle.drive.specs.Transfer.{is_on_drive, StandsOnDrive}
use Rattle.drive.specs.State.{DriveState, kept_facts}
use Rattle.audit.specs.declared.rules.rule.Rule.TheVariants.{BeyondDrive}

-- a verdict that permits
abbrev permitting : Bool → Verdict
permitting b = if b then Shadow else Serve

queued-by-ok : (h : RegH2d) (tag : ℕ) (c : Command) (v : Verdict) (b : Bool) → by_verdict v ≡ Ok b → queued_by h tag c v ≡ holds tag c (permitting b)
queued-by-ok h tag c Serve b e = let same : false ≡ b = cc in ap (λ x. holds tag c (permitting x)) same
queued-by-ok h tag c Shadow b e = let same : true ≡ b = cc in ap (λ x. holds tag c (permitting x)) same
queued-by-ok h tag c (Denied why) b e = absurd cc

queued-by-err : (h : RegH2d) (tag : ℕ) (c : Command) (v : Verdict) (r : Refused) → by_verdict v ≡ Err r → queued_by h tag c v ≡ fails_queue (Some tag) r.error h r.denied r.rule
queued-by-err h tag c Serve r e = absurd cc
queued-by-err h tag c Shadow r e = absurd cc
queued-by-err h tag c (Denied why) r e = let same : (record { error = aborted; denied = Some why; rule = None }) ≡ r = cc in ap (λ (x : Refused). fails_queue (Some tag) x.error h x.denied x.rule) same

queued-ok : (b : Bool) (h : RegH2d) (tag : ℕ) (c : Command) (v : Verdict) (s : Bool)
    → (if b then by_verdict v else Err (record { error = not_found; denied = None; rule = Some BeyondDrive })) ≡ Ok s
    → (if b then queued_by h tag c v else fails_queue (Some tag) not_found h None (Some BeyondDrive)) ≡ holds tag c (permitting s)
queued-ok true h tag c v s e = queued-by-ok h tag c v s e
queued-ok false h tag c v s e = absurd cc

queued-err : (b : Bool) (h : RegH2d) (tag : ℕ) (c : Command) (v : Verdict) (r : Refused)
    → (if b then by_verdict v else Err (record { error = not_found; denied = None; rule = Some BeyondDrive })) ≡ Err r
    → (if b then queued_by h tag c v else fails_queue (Some tag) not_found h None (Some BeyondDrive)) ≡ fails_queue (Some tag) r.error h r.denied r.rule
queued-err true h tag c v r e = queued-by-err h tag c v r e
queued-err false h tag c v r e = let same : (record { error = not_found; denied = None; rule = Some BeyondDrive }) ≡ r = cc in ap (λ (x : Refused). fails_queue (Some tag) x.error h x.denied x.rule) same

pub queued_held : (d : DriveState) (f : Facts) (h : RegH2d) (tag : ℕ) (c : Command) (t : Transfer) (s : Bool) → policy_on d t ≡ Ok s
    → queued_transfer (kept_facts d f) h tag c t.op t.lba t.count ≡ holds tag c (permitting s)
queued_held d f h tag c t s e = queued-ok (on_drive (kept_facts d f) t.lba t.count) h tag c (verdict_on (kept_facts d f) t.op t.lba t.count) s e

pub queued_refused : (d : DriveState) (f : Facts) (h : RegH2d) (tag : ℕ) (c : Command) (t : Transfer) (r : Refused) → policy_on d t ≡ Err r
    → queued_transfer (kept_facts d f) h tag c t.op t.lba t.count ≡ fails_queue (Some tag) r.error h r.denied r.rule
queued_refused d f h tag c t r e = queued-err (on_drive (kept_facts d f) t.lba t.count) h tag c (verdict_on (kept_facts d f) t.op t.lba t.count) r e

unqueued-by-ok : (deed : Deed) (v : Verdict) (b : Bool) → by_verdict v ≡ Ok b → unqueued_by deed v ≡ did deed
unqueued-by-ok deed Serve b e = refl
unqueued-by-ok deed Shadow b e = refl
unqueued-by-ok deed (Denied why) b e = absurd cc

unqueued-by-err : (deed : Deed) (v : Verdict) (r : Refused) → by_verdict v ≡ Err r → unqueued_by deed v ≡ fails r.error r.denied r.rule
unqueued-by-err deed Serve r e = absurd cc
unqueued-by-err deed Shadow r e = absurd cc
unqueued-by-err deed (Denied why) r e = let same : (record { error = aborted; denied = Some why; rule = None }) ≡ r = cc in ap (λ (x : Refused). fails x.error x.denied x.rule) same

unqueued-ok : (b : Bool) (deed : Deed) (v : Verdict) (s : Bool)
    → (if b then by_verdict v else Err (record { error = not_found; denied = None; rule = Some BeyondDrive })) ≡ Ok s
    → (if b then unqueued_by deed v else fails not_found None (Some BeyondDrive)) ≡ did deed
unqueued-ok true deed v s e = unqueued-by-ok deed v s e
unqueued-ok false deed v s e = absurd cc

unqueued-err : (b : Bool) (deed : Deed) (v : Verdict) (r : Refused)
    → (if b then by_verdict v else Err (record { error = not_found; denied = None; rule = Some BeyondDrive })) ≡ Err r
    → (if b then unqueued_by deed v else fails not_found None (Some BeyondDrive)) ≡ fails r.error r.denied r.rule
unqueued-err true deed v r e = unqueued-by-err deed v r e
unqueued-err false deed v r e = let same : (record { error = not_found; denied = None; rule = Some BeyondDrive }) ≡ r = cc in ap (λ (x : Refused). fails x.error x.denied x.rule) same

pub unqueued_moved : (d : DriveState) (f : Facts) (deed : Deed) (t : Transfer) (s : Bool) → policy_on d t ≡ Ok s
    → unqueued_transfer (kept_facts d f) deed t.op t.lba t.count ≡ did deed
unqueued_moved d f deed t s e = unqueued-ok (on_drive (kept_facts d f) t.lba t.count) deed (verdict_on (kept_facts d f) t.op t.lba t.count) s e

pub unqueued_refused : (d : DriveState) (f : Facts) (deed : Deed) (t : Transfer) (r : Refused) → policy_on d t ≡ Err r
    → unqueued_transfer (kept_facts d f) deed t.op t.lba t.count ≡ fails r.error r.denied r.rule
unqueued_refused d f deed t r e = unqueued-err (on_drive (kept_facts d f) t.lba t.count) deed (verdict_on (kept_facts d f) t.op t.lba t.count) r e

permitted-by : (v : Verdict) (s : Bool) → by_verdict v ≡ Ok s → v ≡ permitting s
permitted-by Serve s e = let same : false ≡ s = cc in ap permitting same
permitted-by Shadow s e = let same : true ≡ s = cc in ap permitting same
permitted-by (Denied why) s e = absurd cc

permitted-if : (b : Bool) (v : Verdict) (s : Bool)
    → (if b then by_verdict v else Err (record { error = not_found; denied = None; rule = Some BeyondDrive })) ≡ Ok s → v ≡ permitting s
permitted-if true v s e = permitted-by v s e
permitted-if false v s e = absurd cc

-- what is permitted has the verdict of its shadow flag
pub permitted : (d : DriveState) (t : Transfer) (s : Bool) → policy_on d t ≡ Ok s → verdict_of (ranges_of d.tper) t.op t.lba t.count ≡ permitting s
permitted d t s e = permitted-if (is_on_drive d.tper.store.config.sectors t) (verdict_of (ranges_of d.tper) t.op t.lba t.count) s e

-- what reads the shadow lies within it

shadow-within : (rows : RangeRows) (op : Op) (lba count most : ℕ) → rows.shadowed ≤ most → verdict_of rows op lba count ≡ Shadow → lba + count ≤ most
shadow-within rows op lba count most few e =
    let w = shadow_has_sector rows op lba count e in
    let inside : IsVerdict rows op lba count Shadow = subst (λ v. IsVerdict rows op lba count v) e (verdict_is rows op lba count) in
    let from : lba ≤ w.0 = w.1 in
    let below : w.0 < lba + count = w.2 in
    let last : lba + count - 1 < rows.shadowed = ltb-true (lba + count - 1) rows.shadowed (inside.1 (lba + count - 1) (omega (arith, from, below)) (omega (arith, from, below))) in
    omega (arith, from, below, last, few)

shadowed-few : (b : Bool) (size : ℕ) → (if b then size else 0) ≤ size
shadowed-few true size = omega arith
shadowed-few false size = omega arith

fits-shadow : (sectors mbr : ℕ) (look : LookUp) (t : Transfer) (v : Verdict) (s : Bool) → verdict_of (ranges_in mbr look) t.op t.lba t.count ≡ v
    → by_verdict v ≡ Ok s → s ≡ true → is_on_drive mbr t ≡ true
unfolding ranges_in
fits-shadow sectors mbr look t Serve s e r is = let no : false ≡ true = cc in absurd cc
fits-shadow sectors mbr look t Shadow s e r is =
    le-leb (t.lba + t.count) mbr (shadow-within (ranges_in mbr look) t.op t.lba t.count mbr (shadowed-few (is_shadow_up look) mbr) e)
fits-shadow sectors mbr look t (Denied why) s e r is = absurd cc

policy-by : (b : Bool) (sectors mbr : ℕ) (look : LookUp) (t : Transfer) (r : Result Bool Refused) → is_on_drive sectors t ≡ b
    → r ≡ (if b then by_verdict (verdict_of (ranges_in mbr look) t.op t.lba t.count) else Err (record { error = not_found; denied = None; rule = Some BeyondDrive }))
    → IfOk r (λ s. StandsOnDrive sectors mbr (record { transfer = t; is_shadowed = s }))
policy-by true sectors mbr look t (Ok s) e h =
    record { on_drive = e; in_shadow = λ is. fits-shadow sectors mbr look t (verdict_of (ranges_in mbr look) t.op t.lba t.count) s refl (sym h) is }
policy-by true sectors mbr look t (Err x) e h = tt
policy-by false sectors mbr look t (Ok s) e h = absurd cc
policy-by false sectors mbr look t (Err x) e h = tt

policy-fits : (sectors mbr : ℕ) (look : LookUp) (t : Transfer) (r : Result Bool Refused) → r ≡ policy sectors (ranges_in mbr look) t
    → IfOk r (λ s. StandsOnDrive sectors mbr (record { transfer = t; is_shadowed = s }))
policy-fits sectors mbr look t r h = policy-by (is_on_drive sectors t) sectors mbr look t r refl h

pub told-fits : (sectors mbr : ℕ) (look : LookUp) (t : Transfer) (r : Result Bool Refusal) → told r ≡ policy sectors (ranges_in mbr look) t
    → IfOk r (λ s. StandsOnDrive sectors mbr (record { transfer = t; is_shadowed = s }))
told-fits sectors mbr look t (Ok s) h = policy-fits sectors mbr look t (Ok s) h
told-fits sectors mbr look t (Err x) h = tt

pub permitted-fits : (sectors mbr : ℕ) (look : LookUp) (t : Transfer) (r : Option Bool) → IfSome r (λ s. policy sectors (ranges_in mbr look) t ≡ Ok s)
    → IfSome r (λ s. StandsOnDrive sectors mbr (record { transfer = t; is_shadowed = s }))
permitted-fits sectors mbr look t (Some s) h = policy-fits sectors mbr look t (Ok s) (sym h)
permitted-fits sectors mbr look t None h = tt

-- What some rows say of a transfer that is permitted, the same rows say.
pub permitted-so : (a b : ℕ) (rows its : RangeRows) (t : Transfer) (r : Option Bool) → a ≡ b → rows ≡ its → IfSome r (λ s. policy a rows t ≡ Ok s) → IfSome r (λ s. policy b its t ≡ Ok s)
permitted-so a b rows its t r sectors ranges h = subst (λ (n : ℕ). IfSome r (λ s. policy n its t ≡ Ok s)) sectors (subst (λ (x : RangeRows). IfSome r (λ s. policy a x t ≡ Ok s)) ranges h)
