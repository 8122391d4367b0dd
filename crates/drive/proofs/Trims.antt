-- A TRIM: what the drive judges of its extents is what the history judges, and what is erased is what is trimmed.
use Rattle.std.proofs.Common.{◌≡◌, ◌∙◌, ℕ, zero, suc, ◌+◌, ◌/◌, ◌==◌, ◌&&◌, ◌||◌, Bool, true, false, List, [], ◌∷◌, ◌++◌, length, drop, Option, Some, None, Result, Ok, Err, refl, sym, ap, subst, cond, arith, get_or, if◌then◌else◌, ◌<◌}
use Rattle.std.specs.Prelude.{map, nat_le, unwrap_or}
use Rattle.std.specs.List.{list_all, list_any}
use Rattle.std.proofs.lemmas.Bool.Decides.{nat_tests}
use Rattle.std.proofs.lemmas.List.Folds.{list_all-append}
use Rattle.std.proofs.Math.Seq.{drop-cons}
use Rattle.fis.specs.declared.h2d.RegH2d.{RegH2d}
use Rattle.audit.specs.declared.reason.Why.{Why}
use Rattle.audit.specs.declared.rules.rule.Rule.TheVariants.{BeyondDrive}
use Rattle.locking.specs.Verdict.{verdict_of}
use Rattle.locking.specs.declared.range.Op.TheVariants.{Write}
use Rattle.locking.specs.declared.ranges.Verdict.{Verdict}
use Rattle.locking.specs.declared.ranges.Verdict.TheVariants.{Serve, Shadow, Denied}
use Rattle.shadow_mbr.specs.Erasure.{is_erased}
use Rattle.shadow_mbr.specs.Stored.{sector_at, zeros}
use Rattle.shadow_mbr.specs.declared.erasure.Erasure.{Erasure}
use Rattle.trusted_cmds.specs.declared.command.Command.TheVariants.{Trim}
use Rattle.trusted_cmds.specs.declared.trim.Extent.{Extent}
use Rattle.trusted_cmds.specs.Trims.{entry_size, some_sectors, extents_of, extents_in, has_sector}
use Rattle.device_data.specs.Settings.{active}
use Rattle.history.specs.Opening.{Origin}
use Rattle.history.specs.Events.{Trimmed, Event, did, or_else}
use Rattle.history.specs.Readers.{trimming}
use Rattle.history.specs.Facts.{Facts, facts}
use Rattle.history.specs.Decisions.{aborted, not_found, fails, are_on_drive, denial_in, first_denial, trimmed_by, trimmed}
use Rattle.history.specs.Tcg.{command_read}
use Rattle.history.specs.Answers.{errored, ready, answer_fis}
use Rattle.drive.specs.declared.answer.Accepted.{Accepted}
use Rattle.drive.specs.declared.decision.Decision.TheVariants.{Aborts, Trims}
use Rattle.drive.specs.declared.decision.Refusal.{Refusal}
use Rattle.drive.specs.declared.transfer.Transfer.{Transfer}
use Rattle.drive.specs.Decision.{Refused, told, by_verdict, ranges_of, reason, ruling, policy_on, decision_event}
use Rattle.drive.specs.Trims.{has_some, as_write, refused_or, first_refused, trim_refusal, refusal_told, erasure_of, erased_by_each}
use Rattle.drive.specs.State.{DriveState, kept_facts, KeepsDrive}
use Rattle.drive.specs.Answers.{IsDoneAndAnswered}
use Rattle.drive.proofs.Keeping.{seen-is, trims-keeps}
use Rattle.drive.proofs.Acting.{IsTold, aborts-done, served-answer, read-as}

-- each extent of a payload has sectors
some-here : (extent : Extent) (none : Bool) → (extent.count == 0) ≡ none → list_all has_some (cond none [] (extent ∷ [])) ≡ true
some-here extent true is = refl
some-here extent false is = grind (arith, nat_tests)

joined : (a b : Bool) → a ≡ true → b ≡ true → (a && b) ≡ true
joined true b ha hb = hb
joined false b ha hb = absurd cc

some-more : (extents : List Extent) (extent : Extent) → list_all has_some extents ≡ true → list_all has_some (extents ++ some_sectors extent) ≡ true
some-more extents extent some =
    list_all-append has_some extents (some_sectors extent)
    ∙ joined (list_all has_some extents) (list_all has_some (some_sectors extent)) some (some-here extent (extent.count == 0) refl)

some-of : (payload : List ℕ) (n : ℕ) → list_all has_some (extents_of payload n) ≡ true
unfolding extents_of
some-of payload zero = refl
some-of payload (suc n) = some-more (extents_of payload n) _ (some-of payload n)

pub extents_some : (payload : List ℕ) → list_all has_some (extents_in payload) ≡ true
extents_some payload = some-of payload (length payload / entry_size)

both : (a b : Bool) → (a && b) ≡ true → (a ≡ true) × (b ≡ true)
both true b is = (refl, is)
both false b is = absurd cc

some-both : (extents : List Extent) (i : ℕ) (default item : Extent) → i < length extents → item ≡ get_or extents i default
    → list_all has_some (drop i extents) ≡ true → (has_some item ≡ true) × (list_all has_some (drop (i + 1) extents) ≡ true)
some-both extents i default item small its some =
    let next : suc i ≡ i + 1 = omega arith in
    let parts = both (has_some (get_or extents i default)) (list_all has_some (drop (suc i) extents))
    (sym (ap (list_all has_some) (drop-cons extents i default small)) ∙ some) in
    (ap has_some its ∙ parts.0, sym (ap (λ (n : ℕ). list_all has_some (drop n extents)) next) ∙ parts.1)

pub some-at : (extents : List Extent) (i : ℕ) (default item : Extent) → i < length extents → item ≡ get_or extents i default
    → list_all has_some (drop i extents) ≡ true → has_some item ≡ true
some-at extents i default item small its some = (some-both extents i default item small its some).0

pub some-later : (extents : List Extent) (i : ℕ) (default item : Extent) → i < length extents → item ≡ get_or extents i default
    → list_all has_some (drop i extents) ≡ true → list_all has_some (drop (i + 1) extents) ≡ true
some-later extents i default item small its some = (some-both extents i default item small its some).1

-- whether one of them is refused
refusal-there : (d : DriveState) (extents : List Extent) (i : ℕ) (default item : Extent) (t : Transfer) → i < length extents → item ≡ get_or extents i default
    → t ≡ as_write item → first_refused d (drop i extents) ≡ refused_or (policy_on d t) (first_refused d (drop (i + 1) extents))
unfolding first_refused
refusal-there d extents i default item t small its is =
    let next : suc i ≡ i + 1 = omega arith in
    ap (first_refused d) (drop-cons extents i default small)
    ∙ ap (λ (x : Extent). refused_or (policy_on d (as_write x)) (first_refused d (drop (suc i) extents))) (sym its)
    ∙ ap (λ (x : Transfer). refused_or (policy_on d x) (first_refused d (drop (suc i) extents))) (sym is)
    ∙ ap (λ (n : ℕ). refused_or (policy_on d t) (first_refused d (drop n extents))) next

pub refused-later : (d : DriveState) (extents : List Extent) (i : ℕ) (default item : Extent) (t : Transfer) (r : Result Bool Refusal) (s : Bool)
    → i < length extents → item ≡ get_or extents i default → t ≡ as_write item → told r ≡ policy_on d t → r ≡ Ok s
    → first_refused d (drop (i + 1) extents) ≡ first_refused d (drop i extents)
refused-later d extents i default item t r s small its is policy served =
    ap (λ (x : Result Bool Refusal). refused_or (told x) (first_refused d (drop (i + 1) extents))) (sym served)
    ∙ ap (λ (x : Result Bool Refused). refused_or x (first_refused d (drop (i + 1) extents))) policy
    ∙ sym (refusal-there d extents i default item t small its is)

pub refused-here : (d : DriveState) (extents : List Extent) (i : ℕ) (default item : Extent) (t : Transfer) (r : Result Bool Refusal) (refusal : Refusal)
    → i < length extents → item ≡ get_or extents i default → t ≡ as_write item → told r ≡ policy_on d t → r ≡ Err refusal
    → refusal_told (Some refusal) ≡ first_refused d (drop i extents)
refused-here d extents i default item t r refusal small its is policy refused =
    ap (λ (x : Result Bool Refusal). refused_or (told x) (first_refused d (drop (i + 1) extents))) (sym refused)
    ∙ ap (λ (x : Result Bool Refused). refused_or x (first_refused d (drop (i + 1) extents))) policy
    ∙ sym (refusal-there d extents i default item t small its is)

-- the first that is refused, where all are on the drive, is the first that is denied
abbrev refused_by : Option Why → Option Refused
refused_by None = None
refused_by (Some why) = Some (record { error = aborted; denied = Some why; rule = None })

refuses-here : (v : Verdict) (later : Option Refused) (x : Option Why) → later ≡ refused_by x
    → refused_or (by_verdict v) later ≡ refused_by (or_else (denial_in v) x)
refuses-here Serve later x is = is
refuses-here Shadow later x is = is
refuses-here (Denied why) later x is = refl

refuses-first : (d : DriveState) (extents : List Extent) → are_on_drive d.tper.store.config.sectors extents ≡ true
    → first_refused d extents ≡ refused_by (first_denial (ranges_of d.tper) extents)
unfolding first_refused first_denial
refuses-first d [] on = refl
refuses-first d (extent ∷ extents) on =
    let parts = both (nat_le (extent.lba + extent.count) d.tper.store.config.sectors) (are_on_drive d.tper.store.config.sectors extents) on in
    let verdict : Verdict = verdict_of (ranges_of d.tper) Write extent.lba extent.count in
    ap (λ (b : Bool). refused_or (cond b (by_verdict verdict) (Err (record { error = not_found; denied = None; rule = Some BeyondDrive }))) (first_refused d extents)) parts.0
    ∙ refuses-here verdict (first_refused d extents) (first_denial (ranges_of d.tper) extents) (refuses-first d extents parts.1)

-- what a refusal comes to, or none
abbrev refused_event : List Extent → Option Refused → Event
refused_event extents None = did (Trimmed extents)
refused_event extents (Some refused) = fails refused.error refused.denied refused.rule

denied-event : (extents : List Extent) (x : Option Why) → trimmed_by extents x ≡ refused_event extents (refused_by x)
denied-event extents None = refl
denied-event extents (Some why) = refl

trimmed-so : (d : DriveState) (f : Facts) (extents : List Extent) → trimmed (kept_facts d f) extents ≡ refused_event extents (trim_refusal d extents)
trimmed-so d f extents = by (are_on_drive d.tper.store.config.sectors extents) refl
  where
    by : (on : Bool) → are_on_drive d.tper.store.config.sectors extents ≡ on
        → cond on (trimmed_by extents (first_denial (ranges_of d.tper) extents)) (fails not_found None (Some BeyondDrive))
        ≡ refused_event extents (cond on (first_refused d extents) (Some (record { error = not_found; denied = None; rule = Some BeyondDrive })))
    by true is =
        denied-event extents (first_denial (ranges_of d.tper) extents)
        ∙ ap (refused_event extents) (sym (refuses-first d extents is))
    by false is = refl

event-so : (d : DriveState) (o : Origin) (past : List Event) (extents : List Extent) (r : Option Refusal) → refusal_told r ≡ trim_refusal d extents
    → KeepsDrive d o past → refused_event extents (refusal_told r) ≡ trimmed (facts o past) extents
event-so d o past extents r is k =
    ap (refused_event extents) is ∙ sym (trimmed-so d (facts o past) extents)
    ∙ ap (λ (f : Facts). trimmed f extents) (seen-is d o past k)

-- a TRIM that is refused
pub trim-refused : (h : RegH2d) (d : DriveState) (o : Origin) (past : List Event) (payload : List ℕ) (blocks : ℕ) (r : Option Refusal) (refusal : Refusal) (a : Accepted)
    → refusal_told r ≡ trim_refusal d (extents_in payload) → r ≡ Some refusal
    → IsTold a errored refusal.error false (answer_fis true errored refusal.error ∷ []) [] (reason refusal.cause) (ruling refusal.cause)
    → KeepsDrive d o past → IsDoneAndAnswered (facts o past) h (decision_event (facts o past) payload (Trims blocks)) d o past a
trim-refused h d o past payload blocks r refusal a told is t k =
    subst (λ (event : Event). IsDoneAndAnswered (facts o past) h event d o past a)
    (ap (λ (x : Option Refusal). refused_event (extents_in payload) (refusal_told x)) (sym is) ∙ event-so d o past (extents_in payload) r told k)
    (aborts-done (facts o past) h d o past payload refusal.error refusal.cause (Aborts refusal.error refusal.cause) a refl t k)

-- a TRIM that is done
pub trim-done : (h : RegH2d) (d e : DriveState) (o : Origin) (past : List Event) (payload : List ℕ) (blocks : ℕ) (r : Option Refusal) (a : Accepted)
    → refusal_told r ≡ trim_refusal d (extents_in payload) → r ≡ None
    → command_read d.tper.store.config h ≡ Ok (Trim blocks, None) → e.tper ≡ d.tper → e.queue ≡ d.queue → e.settings ≡ active d.settings
    → ((s : ℕ) → sector_at e.media s ≡ unwrap_or (trimming s (extents_in payload)) (sector_at d.media s))
    → IsTold a ready 0 false (answer_fis true ready 0 ∷ []) [] None None
    → KeepsDrive d o past → IsDoneAndAnswered (facts o past) h (decision_event (facts o past) payload (Trims blocks)) e o past a
trim-done h d e o past payload blocks r a told is reads tper queue chosen media t k =
    subst (λ (event : Event). IsDoneAndAnswered (facts o past) h event e o past a)
    (ap (λ (x : Option Refusal). refused_event (extents_in payload) (refusal_told x)) (sym is) ∙ event-so d o past (extents_in payload) r told k) (
      trims-keeps d e o past (extents_in payload) tper queue chosen media k,
      served-answer (facts o past) h (did (Trimmed (extents_in payload))) a (Trim blocks) (refl, refl) (read-as d o past h _ k reads) t,
    )

-- what is erased, one after the other
pub erased-more : (erasures : List Erasure) (i : ℕ) (default item : Erasure) (s : ℕ) (before after : List ℕ) → i < length erasures → item ≡ get_or erasures i default
    → after ≡ (if is_erased item s then zeros else before)
    → erased_by_each (drop (i + 1) erasures) s after ≡ erased_by_each (drop i erasures) s before
unfolding erased_by_each
erased-more erasures i default item s before after small its is =
    let next : i + 1 ≡ suc i = omega arith in
    ap (λ (n : ℕ). erased_by_each (drop n erasures) s after) next
    ∙ ap (erased_by_each (drop (suc i) erasures) s) (is ∙ ap (λ (x : Erasure). if is_erased x s then zeros else before) its)
    ∙ sym (ap (λ (rest : List Erasure). erased_by_each rest s before) (drop-cons erasures i default small))

-- what is erased is what is trimmed
erased-here : (here later : Bool) (before : List ℕ)
    → unwrap_or (cond later (Some zeros) None) (cond (here || false) zeros before) ≡ unwrap_or (cond (here || later) (Some zeros) None) before
erased-here true true before = refl
erased-here true false before = refl
erased-here false true before = refl
erased-here false false before = refl

pub erased_is_trimmed : (extents : List Extent) (s : ℕ) (before : List ℕ)
    → erased_by_each (map erasure_of extents) s before ≡ unwrap_or (trimming s extents) before
unfolding erased_by_each
erased_is_trimmed [] s before = refl
erased_is_trimmed (extent ∷ extents) s before =
    erased_is_trimmed extents s (cond (has_sector s extent || false) zeros before)
    ∙ erased-here (has_sector s extent) (list_any (has_sector s) extents) before
