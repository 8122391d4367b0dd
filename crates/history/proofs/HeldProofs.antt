-- What is held was accepted at an act of the list, and permitted there.
use Rattle.trusted_cmds.proofs.Spellings.{tag-reads}
use Rattle.std.proofs.Common.{◌≡◌, ℕ, ◌==◌, ◌*◌, Bool, true, false, ◌&&◌, ◌||◌, not, List, [], ◌∷◌, Option, Some, None, refl, sym, ◌∙◌, ap, cond, eqb-true, ◌%◌, ◌/◌, ◌<◌, arith}
use Rattle.std.specs.Prelude.{is_some, unwrap_or, slice_index, nat_le, length, Result, Ok, Err}
use Rattle.fis.specs.Types.{h2d_type}
use Rattle.fis.specs.H2d.{h2d_at}
use Rattle.fis.specs.declared.h2d.RegH2d.{RegH2d}
use Rattle.locking.specs.declared.range.Op.{Op}
use Rattle.locking.specs.declared.range.Op.TheVariants.{Read, Write}
use Rattle.trusted_cmds.specs.Commands.{is_queued, tag_of, sector_size}
use Rattle.history.specs.Opening.{Origin}
use Rattle.trusted_cmds.specs.declared.command.Command.{Command}
use Rattle.trusted_cmds.specs.declared.command.Command.TheVariants.{ReadQueued, WriteQueued, ReadDma, WriteDma, Send, Receive, Identify, ReadLog10, Flush, SetFeatures, ReadLog, ReadPio, WritePio, Verify, Trim, Control}
use Rattle.trusted_cmds.specs.declared.control.Control.TheVariants.{SetMultiple, Idle, Standby, CheckPowerMode, Diagnose}
use Rattle.trusted_cmds.specs.declared.command.CommandError.{CommandError}
use Rattle.trusted_cmds.specs.Commands.{fault_of, read_unless}
use Rattle.locking.specs.declared.ranges.Verdict.{Verdict}
use Rattle.locking.specs.declared.ranges.Verdict.TheVariants.{Serve, Shadow, Denied}
use Rattle.device_data.specs.declared.log_page.Failure.{Failure}
use Rattle.history.proofs.TrimProofs.{trimmed-has}
use Rattle.trusted_cmds.specs.Trims.{extents_in}
use Rattle.history.specs.Events.{HeldCommand, Held, Completed, CompletedWrite, QueueFailed, QueueMended, QueueEnded, Deed, Nothing, InSession, OfQueue, Wrote, Trimmed, Took, BlockedSid, Chose, PowerSet, WasReset, Event, did, Silent}
use Rattle.history.specs.Readers.{holding, held}
use Rattle.history.specs.Facts.{Facts, facts}
use Rattle.history.specs.Decisions.{not_found, aborted, fails, refuses, fails_queue, on_drive, ranges_in_force, verdict_on, queued_by, admitted, unqueued_by, is_trusted, is_session_com_id, discovery_com_id, received, while_failed, is_busy, completed_by, completed, resets, unqueued_of, known_of, commanded_of, is_received, unreceived, asks_stack, receive_other, was_read}
use Rattle.history.specs.Items.{Items}
use Rattle.history.specs.Quiet.{IsQuiet, ReadsTags}
use Rattle.history.specs.Answers.{is_holding}
use Rattle.history.specs.History.{Act, Accept, Complete, Reset, SoftwareReset, event_in, event_of, log_of}
use Rattle.history.specs.Looked.{IsLookedAtBy}
use Rattle.history.specs.Tcg.{tcg}
use Rattle.history.specs.DenialLaws.{Reaches, read_queued, write_queued}
use Rattle.history.specs.TransferLaws.{TagLaw, is_denied, WasAccepted, HeldLaw}
use Rattle.history.proofs.Words.{latest-here, latest-skip}
use Rattle.history.proofs.QuietProofs.{quiet-none}
use Rattle.history.proofs.TransferProofs.{verdict_law}
use Rattle.sp_cells.specs.Resets.{programmatic}
use Rattle.audit.specs.declared.rules.rule.Rule.TheVariants.{NoCommand, Unreadable, Mixed, BeyondDrive}
use Rattle.sessions.specs.Deeds.{StackTold}

clash : {b : Bool} → b ≡ true → b ≡ false → ⊥
clash h g = absurd (true-false (sym h ∙ g))
  where
    true-false : true ≡ false → ⊥
    true-false k = cc

-- what is read as held
holds-if : (b : Bool) (x h : HeldCommand) → cond b (Some (Some x)) None ≡ Some (Some h) → (b ≡ true) × (x ≡ h)
holds-if true x h g = (refl, cc)
holds-if false x h g = cc

abbrev dropped : Option (Option HeldCommand)
dropped = Some None

drops-if : (b : Bool) (h : HeldCommand) → cond b dropped None ≡ Some (Some h) → ⊥
drops-if true h g = cc
drops-if false h g = cc

holds-is : (tag : ℕ) (d : Deed) (h : HeldCommand) → holding tag d ≡ Some (Some h) → d ≡ OfQueue (Held tag h)
holds-is tag (OfQueue (Held t x)) h g = let w = holds-if (t == tag) x h g in ap (λ n. OfQueue (Held n x)) (eqb-true t tag w.0) ∙ ap (λ y. OfQueue (Held tag y)) w.1
holds-is tag (OfQueue (Completed t)) h g = absurd (drops-if (t == tag) h g)
holds-is tag (OfQueue (CompletedWrite t lba bytes)) h g = absurd (drops-if (t == tag) h g)
holds-is tag (OfQueue (QueueFailed failure)) h g = cc
holds-is tag (OfQueue QueueMended) h g = cc
holds-is tag (OfQueue QueueEnded) h g = cc
holds-is tag Nothing h g = cc
holds-is tag (InSession d r) h g = cc
holds-is tag (Wrote lba bytes) h g = cc
holds-is tag (Trimmed extents) h g = cc
holds-is tag (Took c) h g = cc
holds-is tag (BlockedSid block) h g = cc
holds-is tag (Chose feature) h g = cc
holds-is tag (PowerSet in_standby) h g = cc
holds-is tag (WasReset kind) h g = cc

-- what is not queued holds nothing
none-if : (b : Bool) (x y : Event) → is_holding x.deed ≡ false → is_holding y.deed ≡ false → is_holding (cond b x y).deed ≡ false
none-if true x y h g = h
none-if false x y h g = g

unqueued_by-none : (d : Deed) (v : Verdict) → is_holding d ≡ false → is_holding (unqueued_by d v).deed ≡ false
unqueued_by-none d Serve h = h
unqueued_by-none d Shadow h = h
unqueued_by-none d (Denied why) h = refl

received-none : (com_id blocks : ℕ) (x : Option (List ℕ)) → is_holding (received com_id blocks x).deed ≡ false
received-none com_id blocks None = refl
received-none com_id blocks (Some r) = none-if (nat_le (length r) (sector_size * blocks)) (did (Took com_id)) (did Nothing) refl refl

unqueued-none : (items : Items) (still : IsQuiet items) (f : Facts) (payload : List ℕ) (c : Command) → is_holding (unqueued_of items f payload c).deed ≡ false
unqueued-none items still f payload (ReadDma l n) = none-if (on_drive f l n) (unqueued_by was_read (verdict_on f Read l n)) (fails not_found None (Some BeyondDrive)) (unqueued_by-none was_read (verdict_on f Read l n) refl) refl
unqueued-none items still f payload (WriteDma l n) = none-if (on_drive f l n) (unqueued_by (Wrote l payload) (verdict_on f Write l n)) (fails not_found None (Some BeyondDrive)) (unqueued_by-none (Wrote l payload) (verdict_on f Write l n) refl) refl
unqueued-none items still f payload (Send p c b d) =
    none-if (resets f.rows (Send p c b d)) (did (WasReset programmatic)) (items.sends f p c b payload) refl
    (quiet-none (items.sends f p c b payload).deed (still f p c b payload))
unqueued-none items still f payload (Receive p c b d) = none-if (asks_stack f.config.profile p c b) (did (InSession (StackTold c) Silent)) (receive_other f p c b) refl (none-if (is_received f p c b) (received c b (f.waiting c)) (refuses (unreceived p b)) (received-none c b (f.waiting c)) refl)
unqueued-none items still f payload (ReadPio l n) = none-if (on_drive f l n) (unqueued_by was_read (verdict_on f Read l n)) (fails not_found None (Some BeyondDrive)) (unqueued_by-none was_read (verdict_on f Read l n) refl) refl
unqueued-none items still f payload (WritePio l n) = none-if (on_drive f l n) (unqueued_by (Wrote l payload) (verdict_on f Write l n)) (fails not_found None (Some BeyondDrive)) (unqueued_by-none (Wrote l payload) (verdict_on f Write l n) refl) refl
unqueued-none items still f payload (Verify l n) = none-if (on_drive f l n) (unqueued_by was_read (verdict_on f Read l n)) (fails not_found None (Some BeyondDrive)) (unqueued_by-none was_read (verdict_on f Read l n) refl) refl
unqueued-none items still f payload (Trim blocks) = trimmed-has (λ e. is_holding e.deed ≡ false) f (extents_in payload) refl (λ why. refl) refl
unqueued-none items still f payload (Control SetMultiple) = refl
unqueued-none items still f payload (Control Idle) = refl
unqueued-none items still f payload (Control Standby) = refl
unqueued-none items still f payload (Control CheckPowerMode) = refl
unqueued-none items still f payload (Control Diagnose) = refl
unqueued-none items still f payload _ = refl

-- an act that holds a command
record HeldBy (items : Items) (f : Facts) (act : Act) (tag : ℕ) (h : HeldCommand) : Type 0 where
  looked : IsLookedAtBy items f act h.command (Some tag)
  op : Op
  lba : ℕ
  count : ℕ
  moves : Reaches h.command (Some tag) op lba count
  on_drive : on_drive f lba count ≡ true
  verdict : verdict_on f op lba count ≡ h.verdict
  served : is_denied h.verdict ≡ false

held-as : (items : Items) (f : Facts) (act : Act) (t tag : ℕ) (x h : HeldCommand) → OfQueue (Held t x) ≡ OfQueue (Held tag h) → HeldBy items f act t x → HeldBy items f act tag h
held-as items f act t tag x h same w = let is_tag : t ≡ tag = cc in let is_held : x ≡ h = cc in rw (← is_tag, ← is_held) w

not-held : {d : Deed} {tag : ℕ} {h : HeldCommand} → is_holding d ≡ false → d ≡ OfQueue (Held tag h) → ⊥
not-held g is = clash (ap is_holding is) g

moved-is : (items : Items) (f : Facts) (act : Act) (tag t : ℕ) (h : HeldCommand) (c : Command) (op : Op) (lba count : ℕ) (r : RegH2d) → IsLookedAtBy items f act c (Some t) → Reaches c (Some t) op lba count → (b : Bool) (v : Verdict) → on_drive f lba count ≡ b → verdict_on f op lba count ≡ v
    → (cond b (queued_by r t c v) (fails_queue (Some t) not_found r None (Some BeyondDrive))).deed ≡ OfQueue (Held tag h) → HeldBy items f act tag h
moved-is items f act tag t h c op lba count r looked moves false v drive is g = absurd (not-held refl g)
moved-is items f act tag t h c op lba count r looked moves true (Denied why) drive is g = absurd (not-held refl g)
moved-is items f act tag t h c op lba count r looked moves true Serve drive is g =
    held-as items f act t tag (record { command = c; verdict = Serve }) h g (record { looked = looked; op = op; lba = lba; count = count; moves = moves; on_drive = drive; verdict = is; served = refl })
moved-is items f act tag t h c op lba count r looked moves true Shadow drive is g =
    held-as items f act t tag (record { command = c; verdict = Shadow }) h g (record { looked = looked; op = op; lba = lba; count = count; moves = moves; on_drive = drive; verdict = is; served = refl })

admitted-is : (items : Items) (f : Facts) (act : Act) (tag t : ℕ) (h : HeldCommand) (c : Command) (looked : IsLookedAtBy items f act c (Some t)) → (b : Bool) → (admitted f (h2d_at looked.fis) t c b).deed ≡ OfQueue (Held tag h) → HeldBy items f act tag h
admitted-is items f act tag t h c looked true g = absurd (not-held refl g)
admitted-is items f act tag t h (ReadQueued l n) looked false g = moved-is items f act tag t h (ReadQueued l n) Read l n (h2d_at looked.fis) looked read_queued (on_drive f l n) (verdict_on f Read l n) refl refl g
admitted-is items f act tag t h (WriteQueued l n) looked false g = moved-is items f act tag t h (WriteQueued l n) Write l n (h2d_at looked.fis) looked write_queued (on_drive f l n) (verdict_on f Write l n) refl refl g
admitted-is items f act tag t h (ReadDma l n) looked false g = absurd (not-held refl g)
admitted-is items f act tag t h (WriteDma l n) looked false g = absurd (not-held refl g)
admitted-is items f act tag t h (Send p c b d) looked false g = absurd (not-held refl g)
admitted-is items f act tag t h (Receive p c b d) looked false g = absurd (not-held refl g)
admitted-is items f act tag t h Identify looked false g = absurd (not-held refl g)
admitted-is items f act tag t h (ReadLog10 d) looked false g = absurd (not-held refl g)
admitted-is items f act tag t h Flush looked false g = absurd (not-held refl g)
admitted-is items f act tag t h (SetFeatures feature) looked false g = absurd (not-held refl g)
admitted-is items f act tag t h (ReadLog page dma) looked false g = absurd (not-held refl g)
admitted-is items f act tag t h (ReadPio l n) looked false g = absurd (not-held refl g)
admitted-is items f act tag t h (WritePio l n) looked false g = absurd (not-held refl g)
admitted-is items f act tag t h (Verify l n) looked false g = absurd (not-held refl g)
admitted-is items f act tag t h (Trim blocks) looked false g = absurd (not-held refl g)
admitted-is items f act tag t h (Control control) looked false g = absurd (not-held refl g)

while_failed-none : (r : Result (Command × Option ℕ) CommandError) → is_holding (while_failed r).deed ≡ false
while_failed-none (Ok (ReadLog10 dma, tag)) = refl
while_failed-none _ = refl

accept-is : (items : Items) (still : IsQuiet items) (f : Facts) (fis payload : List ℕ) (tag : ℕ) (h : HeldCommand) → (event_in items f (Accept fis payload)).deed ≡ OfQueue (Held tag h) → HeldBy items f (Accept fis payload) tag h
accept-is items still f fis payload tag h g = by_kind (slice_index fis 0 == h2d_type) refl g
  where
    c : RegH2d
    c = h2d_at fis

    by_reading : (slice_index fis 0 == h2d_type) ≡ true → c.is_command ≡ true → f.failure ≡ None → (is_busy f && not (is_queued c.command)) ≡ false → (r : Result (Command × Option ℕ) CommandError) → items.reads f.config c ≡ r → (known_of items f c payload r).deed ≡ OfQueue (Held tag h) → HeldBy items f (Accept fis payload) tag h
    by_reading kind commands mended unmixed (Err e) is k = absurd (not-held (none-if (is_queued c.command) (fails_queue (Some (tag_of c)) aborted c None (Some (Unreadable e))) (refuses (Unreadable e)) refl refl) k)
    by_reading kind commands mended unmixed (Ok (command, None)) is k = absurd (not-held (unqueued-none items still f payload command) k)
    by_reading kind commands mended unmixed (Ok (command, Some t)) is k =
        admitted-is items f (Accept fis payload) tag t h command (record { fis = fis; payload = payload; accepts = refl; kind = eqb-true (slice_index fis 0) h2d_type kind; commands = commands; mended = mended; unmixed = unmixed; reads = is }) (is_some (f.held t)) k

    by_mix : (slice_index fis 0 == h2d_type) ≡ true → c.is_command ≡ true → f.failure ≡ None → (b : Bool) → (is_busy f && not (is_queued c.command)) ≡ b → (cond b (fails_queue None aborted c None (Some Mixed)) (known_of items f c payload (items.reads f.config c))).deed ≡ OfQueue (Held tag h) → HeldBy items f (Accept fis payload) tag h
    by_mix kind commands mended true is k = absurd (not-held refl k)
    by_mix kind commands mended false is k = by_reading kind commands mended is (items.reads f.config c) refl k

    by_failure : (slice_index fis 0 == h2d_type) ≡ true → c.is_command ≡ true → (x : Option Failure) → f.failure ≡ x → (cond (is_some x) (while_failed (items.reads f.config c)) (cond (is_busy f && not (is_queued c.command)) (fails_queue None aborted c None (Some Mixed)) (known_of items f c payload (items.reads f.config c)))).deed ≡ OfQueue (Held tag h) → HeldBy items f (Accept fis payload) tag h
    by_failure kind commands (Some x) is k = absurd (not-held (while_failed-none (items.reads f.config c)) k)
    by_failure kind commands None is k = by_mix kind commands is (is_busy f && not (is_queued c.command)) refl k

    by_command : (slice_index fis 0 == h2d_type) ≡ true → (b : Bool) → c.is_command ≡ b → (cond (not b) (refuses NoCommand) (cond (is_some f.failure) (while_failed (items.reads f.config c)) (cond (is_busy f && not (is_queued c.command)) (fails_queue None aborted c None (Some Mixed)) (known_of items f c payload (items.reads f.config c))))).deed ≡ OfQueue (Held tag h) → HeldBy items f (Accept fis payload) tag h
    by_command kind false is k = absurd (not-held refl k)
    by_command kind true is k = by_failure kind is f.failure refl k

    by_kind : (b : Bool) → (slice_index fis 0 == h2d_type) ≡ b → (cond b (commanded_of items f c payload) (refuses NoCommand)).deed ≡ OfQueue (Held tag h) → HeldBy items f (Accept fis payload) tag h
    by_kind false is k = absurd (not-held refl k)
    by_kind true is k = by_command is c.is_command refl k

completed-none : (tag : ℕ) (payload : List ℕ) (x : Option HeldCommand) → is_holding (completed tag payload x).deed ≡ false
completed-none tag payload None = refl
completed-none tag payload (Some h) = by_command h.command
  where
    by_command : (c : Command) → is_holding (completed_by tag payload c).deed ≡ false
    by_command (WriteQueued l n) = refl
    by_command _ = refl

later : (items : Items) (o : Origin) (act : Act) (acts : List Act) (tag : ℕ) (h : HeldCommand) → WasAccepted items o acts tag h → WasAccepted items o (act ∷ acts) tag h
later items o act acts tag h w = record {
  before = w.before;
  later = act ∷ w.later;
  fis = w.fis;
  payload = w.payload;
  place = ap (λ (rest : List Act). act ∷ rest) w.place;
  looked = w.looked;
  op = w.op;
  lba = w.lba;
  count = w.count;
  moves = w.moves;
  on_drive = w.on_drive;
  verdict = w.verdict;
  permitted = w.permitted;
}

here : (items : Items) (still : IsQuiet items) (o : Origin) (act : Act) (acts : List Act) (tag : ℕ) (h : HeldCommand) → (event_of items o (log_of items o acts) act).deed ≡ OfQueue (Held tag h) → WasAccepted items o (act ∷ acts) tag h
here items still o (Complete t payload) acts tag h g = absurd (not-held (completed-none t payload (held (log_of items o acts) t)) g)
here items still o (Reset kind) acts tag h g = absurd (not-held refl g)
here items still o SoftwareReset acts tag h g = absurd (not-held refl g)
here items still o (Accept fis payload) acts tag h g =
    let w = accept-is items still (facts o (log_of items o acts)) fis payload tag h g in
    record {
      before = acts;
      later = [];
      fis = fis;
      payload = payload;
      place = refl;
      looked = w.looked;
      op = w.op;
      lba = w.lba;
      count = w.count;
      moves = w.moves;
      on_drive = w.on_drive;
      verdict = w.verdict;
      permitted = (verdict_law (ranges_in_force (facts o (log_of items o acts))) w.op w.lba w.count).served.0 (ap is_denied w.verdict ∙ w.served);
    }

held-step : (items : Items) (still : IsQuiet items) (o : Origin) (act : Act) (acts : List Act) (tag : ℕ) (h : HeldCommand) → (x : Option (Option HeldCommand)) → holding tag (event_of items o (log_of items o acts) act).deed ≡ x → held (log_of items o (act ∷ acts)) tag ≡ Some h → (held (log_of items o acts) tag ≡ Some h → WasAccepted items o acts tag h) → WasAccepted items o (act ∷ acts) tag h
held-step items still o act acts tag h None is g before = later items o act acts tag h (before (sym (ap (λ y. unwrap_or y None) (latest-skip (holding tag) (event_of items o (log_of items o acts) act) (log_of items o acts) is)) ∙ g))
held-step items still o act acts tag h (Some x) is g before =
    here items still o act acts tag h (holds-is tag (event_of items o (log_of items o acts) act).deed h (is ∙ ap (λ y. Some y) (sym (ap (λ y. unwrap_or y None) (latest-here (holding tag) (event_of items o (log_of items o acts) act) (log_of items o acts) x is)) ∙ g)))

pub held_law : HeldLaw
held_law items still o [] tag h g = absurd (nothing g)
  where
    nothing : {x : HeldCommand} → None ≡ Some x → ⊥
    nothing k = cc
held_law items still o (act ∷ acts) tag h g = held-step items still o act acts tag h (holding tag (event_of items o (log_of items o acts) act).deed) refl g (held_law items still o acts tag h)

-- the tag of a FIS is below 32
tag-below : (n tag : ℕ) → n % 32 ≡ tag → tag < 32
tag-below n tag h = omega (arith, h)

ok-same : {p q : Command × Option ℕ} → ◌≡◌ {A = Result (Command × Option ℕ) CommandError} (Ok p) (Ok q) → p ≡ q
ok-same h = cc

ok-tag : {c d : Command} {x y : Option ℕ} → ◌≡◌ {A = Result (Command × Option ℕ) CommandError} (Ok (c, x)) (Ok (d, y)) → x ≡ y
ok-tag h = ap (λ (p : Command × Option ℕ). p.1) (ok-same h)

read-tag : (h : RegH2d) (c : Command) (tag : ℕ) (x : Option CommandError) → read_unless x h ≡ Ok (c, Some tag) → tag < 32
read-tag h c tag (Some e) g = absurd (clashes g)
  where
    clashes : {e : CommandError} {x : Command × Option ℕ} → ◌≡◌ {A = Result (Command × Option ℕ) CommandError} (Err e) (Ok x) → ⊥
    clashes k = cc
read-tag h c tag None g = by_code (is_queued h.command) (ok-tag g)
  where
    same-tag : {a b : ℕ} → Some a ≡ Some b → a ≡ b
    same-tag k = cc

    by_code : (b : Bool) → cond b (Some (tag_of h)) None ≡ Some tag → tag < 32
    by_code true k = tag-below (h.count / 8) tag (same-tag k)
    by_code false k = cc

pub tcg_tags : ReadsTags tcg
tcg_tags config h command tag is = read-tag h command tag (fault_of h) (tag-reads config.profile h command tag is)

pub tag_law : TagLaw
tag_law items still reads o acts tag h g = let w = held_law items still o acts tag h g in reads (facts o (log_of items o w.before)).config (h2d_at w.looked.fis) h.command tag w.looked.reads
