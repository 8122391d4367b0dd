-- A StartSession comes to the same by what is kept and by the past.
use Rattle.std.proofs.Common.{◌≡◌, ℕ, ◌==◌, Bool, true, false, not, ◌||◌, ◌&&◌, map, nat_eq, List, [], ◌∷◌, ◌++◌, Option, Some, None, refl, sym, ◌∙◌, ap, cond, subst, inl, inr, eq-eqb}
use Rattle.std.specs.Prelude.{is_some, nat_lt}
use Rattle.std.specs.List.{list_any}
use Rattle.std.specs.Map.{lookup}
use Rattle.std.proofs.lemmas.Bool.{or_left, or_right}
use Rattle.sp_cells.specs.Config.{Config}
use Rattle.sp_cells.specs.declared.names.Uid.{Uid}
use Rattle.sp_cells.specs.declared.names.Sp.{Sp}
use Rattle.sp_cells.specs.declared.names.Sp.TheVariants.{Admin, Locking}
use Rattle.sp_cells.specs.Flat.{LookUp, sp_eq}
use Rattle.sp_cells.specs.ColumnNames.{tries_column}
use Rattle.sp_cells.specs.Ranges.{number}
use Rattle.audit.specs.declared.reason.AttemptFailure.{AttemptFailure}
use Rattle.audit.specs.declared.reason.AttemptFailure.TheVariants.{WrongPin, LockedOut, Disabled, Blocked, Unknown}
use Rattle.sessions.specs.declared.beside.Beside.{Beside}
use Rattle.sessions.specs.Made.{beside_after}
use Rattle.tcg_calls.specs.Statuses.{invalid_parameter, sp_busy, no_sessions_available}
use Rattle.transactions.specs.Stored.{Stored}
use Rattle.sessions.specs.declared.opening.Opening.{Opening}
use Rattle.sessions.specs.declared.opening.StartVerdict.{StartVerdict}
use Rattle.sessions.specs.declared.opening.StartVerdict.TheVariants.{Refused, Attempted}
use Rattle.sessions.specs.Attempts.{attempt_failure as failure_of, credential}
use Rattle.sessions.specs.Answers.{rows_in_force, up}
use Rattle.sessions.specs.Gains.{first_held}
use Rattle.sessions.specs.Live.{Holder, Live, session_at, is_of, lives_on, lives_of, AreNumbered, AreNumberedOf}
use Rattle.sessions.specs.Starts.{opening_of, sp_named, is_in_use, is_full, opening_verdict_on, verdict, host_of, reply_to, denied_with, rule_of, stored_by, stored_with, begun_by, begun_with, next_by, start_reply, start_denied, start_rule, start_stored}
use Rattle.history.specs.Opening.{Origin}
use Rattle.shadow_mbr.specs.Erasure.{no_sectors}
use Rattle.sessions.specs.Deeds.{Begun, erased_by}
use Rattle.history.specs.Events.{Event}
use Rattle.history.specs.Readers.{session_on, beside}
use Rattle.history.specs.Facts.{Facts, facts, numbered, live, is_on_com_id}
use Rattle.history.specs.Tcg.{start_verdict, deed_of_start, start_deed, started_by}
use Rattle.sessions.specs.Made.{with_count, StoresAs, gains_on, LivesAs, Meets}
use Rattle.history.specs.KeptSessions.{session_numbered, KeepsSessions}
use Rattle.history.specs.KeptCalls.{StartLaw}
use Rattle.history.specs.KeptStore.{KeepsStore}
use Rattle.history.proofs.Words.{sp-is, sp-same}
use Rattle.history.proofs.KeptStoreReads.{store_read_law}
use Rattle.history.proofs.KeptSessionsNumbers.{Hits, split, numbered-miss, numbered-hit, none-apart, kept-none, Kept, kept-some}
use Rattle.audit.specs.declared.rules.rule.Rule.TheVariants.{NotInUse, SpBusy, NoNumber}

-- Whether a session of an SP lives.

-- one that is kept under a number lives
any-found : (sp : Sp) (h : Holder) (n : ℕ) (e : ℕ × Holder) (es : List (ℕ × Holder)) (b : Bool) → sp_eq h.sp sp ≡ true → (lookup (nat_eq n) es ≡ Some h → list_any (λ s. sp_eq s.sp sp) (map (λ e. e.1) es) ≡ true)
    → cond b (Some e.1) (lookup (nat_eq n) es) ≡ Some h → list_any (λ s. sp_eq s.sp sp) (map (λ e. e.1) (e ∷ es)) ≡ true
any-found sp h n e es true on rest is =
    let same : e.1 ≡ h = cc in
    or_left (sp_eq e.1.sp sp) (list_any (λ s. sp_eq s.sp sp) (map (λ e. e.1) es)) (ap (λ (g : Holder). sp_eq g.sp sp) same ∙ on)
any-found sp h n e es false on rest is = or_right (sp_eq e.1.sp sp) (list_any (λ s. sp_eq s.sp sp) (map (λ e. e.1) es)) (rest is)

any-numbered : (sp : Sp) (h : Holder) (n : ℕ) (es : List (ℕ × Holder)) → sp_eq h.sp sp ≡ true → lookup (nat_eq n) es ≡ Some h → list_any (λ s. sp_eq s.sp sp) (map (λ e. e.1) es) ≡ true
any-numbered sp h n [] on is = absurd (none-apart is)
any-numbered sp h n (e ∷ es) on is = any-found sp h n e es (nat_eq n e.0) on (any-numbered sp h n es on) is

-- the session of an SP lives by what is kept
lives-kept : (past : List Event) (l : Live) (sp : Sp) (s : Begun) → KeepsSessions l past → session_on past sp ≡ Some s → lives_on sp l ≡ true
lives-kept past l sp s k lives =
    let hit : Hits (session_on past) s.number = record { sp = sp; session = s; lives = lives; number = eq-eqb s.number s.number refl } in
    let kept = kept-some past (session_at l s.number) (session_numbered past s.number) s (k.at s.number) (numbered-hit (session_on past) s.number k.apart hit) in
    any-numbered sp kept.holder s.number l.sessions (ap (λ x. sp_eq x sp) (kept.keeps.sp ∙ k.on sp s lives) ∙ sp-same sp) kept.is

some-same : {A : Type 0} {x y : A} → Some x ≡ Some y → x ≡ y
some-same h = cc

-- and none that lives is another
kept-lives : (past : List Event) (l : Live) (sp : Sp) → KeepsSessions l past → (n : ℕ) (h : Holder) → session_at l n ≡ Some h → h.sp ≡ sp → is_some (session_on past sp) ≡ true
kept-lives past l sp k n h is on = elim (split (session_on past) n) [
  | inl hit ↦ by_hit hit (kept-some past (session_at l n) (session_numbered past n) hit.session (k.at n) (numbered-hit (session_on past) n k.apart hit))
  | inr misses ↦ absurd (none-apart (sym (kept-none past (session_at l n) (session_numbered past n) (k.at n) (numbered-miss (session_on past) n misses)) ∙ is))
]
  where
    by_hit : (hit : Hits (session_on past) n) → Kept past (session_at l n) hit.session → is_some (session_on past sp) ≡ true
    by_hit hit kept =
        let same : kept.holder ≡ h = some-same (sym kept.is ∙ is) in
        let its : hit.sp ≡ sp = sym (k.on hit.sp hit.session hit.lives) ∙ sym kept.keeps.sp ∙ ap (λ (g : Holder). g.sp) same ∙ on in
        ap (λ x. is_some (session_on past x)) (sym its) ∙ ap is_some hit.lives

pub lives-past : (past : List Event) (l : Live) (sp : Sp) → KeepsSessions l past → AreNumbered l → lives_on sp l ≡ is_some (session_on past sp)
lives-past past l sp k are = by_both (lives_on sp l) (session_on past sp) refl refl
  where
    by_both : (b : Bool) (x : Option Begun) → lives_on sp l ≡ b → session_on past sp ≡ x → b ≡ is_some x
    by_both true (Some s) at is = refl
    by_both false None at is = refl
    by_both false (Some s) at is = sym at ∙ lives-kept past l sp s k is
    by_both true None at is = let found = are sp at in sym (kept-lives past l sp k found.0 found.1 found.2 found.3) ∙ ap is_some is

-- the session of an SP that is on a ComID
any-of : (p : Holder → Bool) (h : Holder) (n : ℕ) (e : ℕ × Holder) (es : List (ℕ × Holder)) (b : Bool) → p h ≡ true → (lookup (nat_eq n) es ≡ Some h → list_any p (map (λ e. e.1) es) ≡ true)
    → cond b (Some e.1) (lookup (nat_eq n) es) ≡ Some h → list_any p (map (λ e. e.1) (e ∷ es)) ≡ true
any-of p h n e es true on rest is = let same : e.1 ≡ h = cc in or_left (p e.1) (list_any p (map (λ e. e.1) es)) (ap p same ∙ on)
any-of p h n e es false on rest is = or_right (p e.1) (list_any p (map (λ e. e.1) es)) (rest is)

any-passes : (p : Holder → Bool) (h : Holder) (n : ℕ) (es : List (ℕ × Holder)) → p h ≡ true → lookup (nat_eq n) es ≡ Some h → list_any p (map (λ e. e.1) es) ≡ true
any-passes p h n [] on is = absurd (none-apart is)
any-passes p h n (e ∷ es) on is = any-of p h n e es (nat_eq n e.0) on (any-passes p h n es on) is

of-kept : (past : List Event) (l : Live) (com_id : ℕ) (sp : Sp) (s : Begun) → KeepsSessions l past → session_on past sp ≡ Some s → (s.com_id == com_id) ≡ true → lives_of com_id sp l ≡ true
of-kept past l com_id sp s k lives of =
    let hit : Hits (session_on past) s.number = record { sp = sp; session = s; lives = lives; number = eq-eqb s.number s.number refl } in
    let kept = kept-some past (session_at l s.number) (session_numbered past s.number) s (k.at s.number) (numbered-hit (session_on past) s.number k.apart hit) in
    any-passes (is_of com_id sp) kept.holder s.number l.sessions
    (ap (λ b. b && (kept.holder.com_id == com_id)) (ap (λ x. sp_eq x sp) (kept.keeps.sp ∙ k.on sp s lives) ∙ sp-same sp) ∙ ap (λ (n : ℕ). n == com_id) kept.keeps.com_id ∙ of) kept.is

and-both : (a b : Bool) → (a && b) ≡ true → (a ≡ true) × (b ≡ true)
and-both true b h = (refl, h)
and-both false b h = cc

kept-of : (past : List Event) (l : Live) (com_id : ℕ) (sp : Sp) → KeepsSessions l past → (n : ℕ) (h : Holder) → session_at l n ≡ Some h → is_of com_id sp h ≡ true → is_on_com_id com_id (session_on past sp) ≡ true
kept-of past l com_id sp k n h is on = elim (split (session_on past) n) [
  | inl hit ↦ by_hit hit (kept-some past (session_at l n) (session_numbered past n) hit.session (k.at n) (numbered-hit (session_on past) n k.apart hit))
  | inr misses ↦ absurd (none-apart (sym (kept-none past (session_at l n) (session_numbered past n) (k.at n) (numbered-miss (session_on past) n misses)) ∙ is))
]
  where
    by_hit : (hit : Hits (session_on past) n) → Kept past (session_at l n) hit.session → is_on_com_id com_id (session_on past sp) ≡ true
    by_hit hit kept =
        let parts = and-both (sp_eq h.sp sp) (h.com_id == com_id) on in
        let same : kept.holder ≡ h = some-same (sym kept.is ∙ is) in
        let its : hit.sp ≡ sp = sym (k.on hit.sp hit.session hit.lives) ∙ sym kept.keeps.sp ∙ ap (λ (g : Holder). g.sp) same ∙ sp-is h.sp sp parts.0 in
        ap (λ x. is_on_com_id com_id (session_on past x)) (sym its) ∙ ap (is_on_com_id com_id) hit.lives
        ∙ ap (λ (m : ℕ). m == com_id) (sym kept.keeps.com_id ∙ ap (λ (g : Holder). g.com_id) same) ∙ parts.1

bool-same : (a b : Bool) → (a ≡ true → b ≡ true) → (b ≡ true → a ≡ true) → a ≡ b
bool-same true b h g = sym (h refl)
bool-same false true h g = g refl
bool-same false false h g = refl

on-some : (com_id : ℕ) (x : Option Begun) → is_on_com_id com_id x ≡ true → (s : Begun) × (x ≡ Some s) × ((s.com_id == com_id) ≡ true)
on-some com_id None h = cc
on-some com_id (Some s) h = (s, refl, h)

pub of-past : (past : List Event) (l : Live) (com_id : ℕ) (sp : Sp) → KeepsSessions l past → AreNumberedOf l → lives_of com_id sp l ≡ is_on_com_id com_id (session_on past sp)
of-past past l com_id sp k are =
    bool-same (lives_of com_id sp l) (is_on_com_id com_id (session_on past sp))
    (λ lives. let found = are com_id sp lives in kept-of past l com_id sp k found.0 found.1 found.2 found.3)
    (λ on. let x = on-some com_id (session_on past sp) on in of-kept past l com_id sp x.0 k x.1 x.2)

-- among the facts
abbrev of_sp : Sp → Option Begun → Option Begun → Option Begun
of_sp Admin a b = a
of_sp Locking a b = b

lives-listed : (a b : Option Begun) → ((s : Begun) → a ≡ Some s → s.sp ≡ Admin) → ((s : Begun) → b ≡ Some s → s.sp ≡ Locking) → (sp : Sp) → list_any (λ s. sp_eq s.sp sp) (map (λ e. e.1) (numbered a ++ numbered b)) ≡ is_some (of_sp sp a b)
lives-listed None None on_a on_b Admin = refl
lives-listed None None on_a on_b Locking = refl
lives-listed (Some s) None on_a on_b Admin = ap (λ x. sp_eq x Admin || false) (on_a s refl)
lives-listed (Some s) None on_a on_b Locking = ap (λ x. sp_eq x Locking || false) (on_a s refl)
lives-listed None (Some t) on_a on_b Admin = ap (λ x. sp_eq x Admin || false) (on_b t refl)
lives-listed None (Some t) on_a on_b Locking = ap (λ x. sp_eq x Locking || false) (on_b t refl)
lives-listed (Some s) (Some t) on_a on_b Admin = ap (λ x. sp_eq x Admin || (sp_eq t.sp Admin || false)) (on_a s refl)
lives-listed (Some s) (Some t) on_a on_b Locking = ap (λ x. sp_eq x Locking || (sp_eq t.sp Locking || false)) (on_a s refl) ∙ ap (λ x. sp_eq x Locking || false) (on_b t refl)

lives-facts : (o : Origin) (past : List Event) (l : Live) (sp : Sp) → KeepsSessions l past → lives_on sp (live (facts o past)) ≡ is_some (session_on past sp)
lives-facts o past l sp k = lives-listed (session_on past Admin) (session_on past Locking) (k.on Admin) (k.on Locking) sp ∙ ap is_some (by_sp sp)
  where
    by_sp : (x : Sp) → of_sp x (session_on past Admin) (session_on past Locking) ≡ session_on past x
    by_sp Admin = refl
    by_sp Locking = refl

-- The verdict.

-- what of sessions a verdict reads
record Alike (l m : Live) : Type 0 where
  lives : (sp : Sp) → lives_on sp l ≡ lives_on sp m
  next : l.next ≡ m.next
  beside : l.beside ≡ m.beside

alike-facts : (o : Origin) (past : List Event) (l : Live) → KeepsSessions l past → AreNumbered l → l.beside ≡ beside past → Alike l (live (facts o past))
alike-facts o past l k are beside = record { lives = λ sp. lives-past past l sp k are ∙ sym (lives-facts o past l sp k); next = k.next; beside = beside }

verdict-on : (look : LookUp) (l m : Live) (opening : Opening) → Alike l m → (named : Option Sp) → opening_verdict_on look l opening named ≡ opening_verdict_on look m opening named
verdict-on look l m opening alike None = refl
verdict-on look l m opening alike (Some sp) =
    let attempts : Beside → StartVerdict = λ beside. Attempted sp (failure_of beside.block look sp opening.authority opening.proof) in
    ap (λ b. cond (not (is_in_use look sp)) (Refused invalid_parameter NotInUse) (cond b (Refused sp_busy SpBusy) (cond (is_full l) (Refused no_sessions_available NoNumber) (attempts l.beside)))) (alike.lives sp)
    ∙ ap (λ n. cond (not (is_in_use look sp)) (Refused invalid_parameter NotInUse) (cond (lives_on sp m) (Refused sp_busy SpBusy) (cond (nat_lt 0xffffffff n) (Refused no_sessions_available NoNumber) (attempts l.beside)))) alike.next
    ∙ ap (λ b. cond (not (is_in_use look sp)) (Refused invalid_parameter NotInUse) (cond (lives_on sp m) (Refused sp_busy SpBusy) (cond (is_full m) (Refused no_sessions_available NoNumber) (attempts b)))) alike.beside

verdict-same : (look : LookUp) (l m : Live) → Alike l m → (x : Option Opening) → verdict look l x ≡ verdict look m x
verdict-same look l m alike None = refl
verdict-same look l m alike (Some opening) = verdict-on look l m opening alike (sp_named opening.spid)

-- an attempt is made on an SP with no session
by-tests : (a b c : Bool) (s sp : Sp) (g f : Option AttemptFailure) (l : Live) → lives_on s l ≡ b
    → cond a (Refused invalid_parameter NotInUse) (cond b (Refused sp_busy SpBusy) (cond c (Refused no_sessions_available NoNumber) (Attempted s g))) ≡ Attempted sp f → lives_on sp l ≡ false
by-tests true b c s sp g f l is h = cc
by-tests false true c s sp g f l is h = cc
by-tests false false true s sp g f l is h = cc
by-tests false false false s sp g f l is h = let same : s ≡ sp = cc in ap (λ x. lives_on x l) (sym same) ∙ is

free-by : (look : LookUp) (l : Live) (opening : Opening) (sp : Sp) (f : Option AttemptFailure) (named : Option Sp) → opening_verdict_on look l opening named ≡ Attempted sp f → lives_on sp l ≡ false
free-by look l opening sp f None h = cc
free-by look l opening sp f (Some s) h = by-tests (not (is_in_use look s)) (lives_on s l) (is_full l) s sp (failure_of l.beside.block look s opening.authority opening.proof) f l refl h

-- The store.

counted : (s : Stored) (rows : LookUp) (sp : Sp) (authority : Uid) (n : ℕ) → rows_in_force s ≡ rows → with_count sp (credential (rows_in_force s) sp authority) n s ≡ with_count sp (credential rows sp authority) n s
counted s rows sp authority n same = ap (λ look. with_count sp (credential look sp authority) n s) same

store-by : (f : Facts) (com_id : ℕ) (opening : Opening) (s : Stored) → rows_in_force s ≡ f.rows → (v : StartVerdict) → StoresAs (deed_of_start f com_id opening v) s (stored_by opening.authority v s)
store-by f com_id opening s same (Refused status rule) = refl
store-by f com_id opening s same (Attempted sp None) = counted s f.rows sp opening.authority 0 same
store-by f com_id opening s same (Attempted sp (Some WrongPin)) =
    ap (λ look. with_count sp (credential look sp opening.authority) (up (number (rows_in_force s) sp (credential look sp opening.authority) tries_column)) s) same
store-by f com_id opening s same (Attempted sp (Some LockedOut)) = refl
store-by f com_id opening s same (Attempted sp (Some Disabled)) = refl
store-by f com_id opening s same (Attempted sp (Some Blocked)) = refl
store-by f com_id opening s same (Attempted sp (Some Unknown)) = refl

store-with : (f : Facts) (com_id : ℕ) (s : Stored) (l : Live) → rows_in_force s ≡ f.rows → (x : Option Opening) → verdict (rows_in_force s) l x ≡ start_verdict f x
    → StoresAs (start_deed f com_id x) s (stored_with x (verdict (rows_in_force s) l x) s)
store-with f com_id s l same None verdicts = refl
store-with f com_id s l same (Some opening) verdicts =
    subst (λ v. StoresAs (deed_of_start f com_id opening v) s (stored_by opening.authority (verdict (rows_in_force s) l (Some opening)) s)) verdicts (store-by f com_id opening s same (verdict (rows_in_force s) l (Some opening)))

-- The sessions.

gains-none : (sp : Sp) (o : Option Holder) → o ≡ gains_on sp [] o
gains-none sp None = refl
gains-none sp (Some h) = by_sp (sp_eq h.sp sp)
  where
    by_sp : (b : Bool) → Some h ≡ cond b (Some (record h { held = h.held })) (Some h)
    by_sp true = refl
    by_sp false = refl

free-at : (l : Live) (sp : Sp) → lives_on sp l ≡ false → (n : ℕ) (h : Holder) → session_at l n ≡ Some h → sp_eq h.sp sp ≡ false
free-at l sp free n h is = by_test (sp_eq h.sp sp) refl
  where
    by_test : (b : Bool) → sp_eq h.sp sp ≡ b → b ≡ false
    by_test false at = refl
    by_test true at = sym (any-numbered sp h n l.sessions at is) ∙ free

lives-by : (f : Facts) (com_id : ℕ) (opening : Opening) (look : LookUp) (l m : Live) → look ≡ f.rows → l.next ≡ f.next_number → (v : StartVerdict)
    → ((sp : Sp) (g : Option AttemptFailure) → v ≡ Attempted sp g → lives_on sp l ≡ false) → m.next ≡ next_by v l.next
    → ((n : ℕ) → session_at m n ≡ begun_by look com_id opening v (l.next == n) (session_at l n)) → LivesAs (deed_of_start f com_id opening v) l m
lives-by f com_id opening look l m rows next (Refused status rule) free after points = record { next = after; at = points }
lives-by f com_id opening look l m rows next (Attempted sp (Some failure)) free after points = record { next = after; at = λ n. points n ∙ gains-none sp (session_at l n) }
lives-by f com_id opening look l m rows next (Attempted sp None) free after points = record {
  number = sym next;
  next = after;
  free = free-at l sp (free sp None refl);
  at = λ n. points n ∙ ap (λ x. cond (l.next == n) (Some (record { sp = sp; com_id = com_id; host = opening.host; held = first_held x sp opening.authority })) (session_at l n)) rows;
}

lives-with : (f : Facts) (com_id : ℕ) (look : LookUp) (l m : Live) → look ≡ f.rows → l.next ≡ f.next_number → (x : Option Opening) → verdict look l x ≡ start_verdict f x
    → m.next ≡ next_by (verdict look l x) l.next → ((n : ℕ) → session_at m n ≡ begun_with look com_id x (verdict look l x) (l.next == n) (session_at l n)) → LivesAs (start_deed f com_id x) l m
lives-with f com_id look l m rows next None verdicts after points = record { next = after; at = points }
lives-with f com_id look l m rows next (Some opening) verdicts after points =
    subst (λ v. LivesAs (deed_of_start f com_id opening v) l m) verdicts
    (lives-by f com_id opening look l m rows next (verdict look l (Some opening)) (λ sp g is. free-by look l opening sp g (sp_named opening.spid) is) after points)

-- No StartSession erases.

erases-by : (f : Facts) (com_id : ℕ) (opening : Opening) (v : StartVerdict) → no_sectors ≡ erased_by (deed_of_start f com_id opening v)
erases-by f com_id opening (Refused status rule) = refl
erases-by f com_id opening (Attempted sp None) = refl
erases-by f com_id opening (Attempted sp (Some failure)) = refl

erases-with : (f : Facts) (com_id : ℕ) (x : Option Opening) → no_sectors ≡ erased_by (start_deed f com_id x)
erases-with f com_id None = refl
erases-with f com_id (Some opening) = erases-by f com_id opening (start_verdict f (Some opening))

-- Nor does it free SID.

beside-by : (f : Facts) (com_id : ℕ) (b : Beside) (opening : Opening) (v : StartVerdict) → b ≡ beside_after (deed_of_start f com_id opening v) b
beside-by f com_id b opening (Refused status rule) = refl
beside-by f com_id b opening (Attempted sp None) = refl
beside-by f com_id b opening (Attempted sp (Some failure)) = refl

beside-with : (f : Facts) (com_id : ℕ) (b : Beside) (x : Option Opening) → b ≡ beside_after (start_deed f com_id x) b
beside-with f com_id b None = refl
beside-with f com_id b (Some opening) = beside-by f com_id b opening (start_verdict f (Some opening))

-- What an opening comes to, whatever asks for it.

opened-as : (o : Origin) (past : List Event) (s : Stored) (l m : Live) (com_id host : ℕ) (x : Option Opening) → KeepsStore s o past → KeepsSessions l past → AreNumbered l
    → l.beside ≡ beside past → m.beside ≡ l.beside
    → m.next ≡ next_by (verdict (rows_in_force s) l x) l.next
    → ((n : ℕ) → session_at m n ≡ begun_with (rows_in_force s) com_id x (verdict (rows_in_force s) l x) (l.next == n) (session_at l n))
    → Meets (started_by (facts o past) com_id host x) (reply_to host l.next (verdict (rows_in_force s) l x)) (denied_with x (verdict (rows_in_force s) l x)) (rule_of (verdict (rows_in_force s) l x)) no_sectors s (stored_with x (verdict (rows_in_force s) l x) s) l m
opened-as o past s l m com_id host x store k are is stays after points =
    let f : Facts = facts o past in
    let rows : rows_in_force s ≡ f.rows = (store_read_law s o past store).rows in
    let verdicts : verdict (rows_in_force s) l x ≡ start_verdict f x = ap (λ look. verdict look l x) rows ∙ verdict-same f.rows l (live f) (alike-facts o past l k are is) x in
    record {
      answer = ap (λ n. reply_to host n (verdict (rows_in_force s) l x)) k.next ∙ ap (reply_to host f.next_number) verdicts;
      denied = ap (denied_with x) verdicts;
      rule = ap rule_of verdicts;
      erases = erases-with f com_id x;
      store = store-with f com_id s l rows x verdicts;
      sessions = lives-with f com_id (rows_in_force s) l m rows k.next x verdicts after points;
      beside = stays ∙ beside-with f com_id l.beside x;
    }

pub start_law : StartLaw
start_law o past s l m com_id args store k are is stays after points =
    subst (λ (config : Config). Meets (started_by (facts o past) com_id (host_of args) (opening_of config.profile args)) (start_reply s l args) (start_denied s l args) (start_rule s l args) no_sectors s (start_stored s l args) l m)
    store.config
    (opened-as o past s l m com_id (host_of args) (opening_of s.config.profile args) store k are is stays after points)
