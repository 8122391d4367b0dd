-- An answered item, a receive, a reset and no acts keep what the past says.
use Rattle.std.proofs.Common.{◌≡◌, ℕ, ◌*◌, ◌==◌, Bool, true, false, ◌&&◌, List, [], ◌∷◌, length, Option, Some, None, refl, sym, subst, ap, ◌∙◌, cond, if◌then◌else◌}
use Rattle.std.specs.Prelude.{unwrap_or, nat_le}
use Rattle.compacket.specs.declared.session.Session.{Session}
use Rattle.compacket.specs.Spelling.{frame_bytes}
use Rattle.tcg_tokens.specs.Message.{Message, message, end_session}
use Rattle.tcg_tokens.specs.Spelling.{item_spelling_of}
use Rattle.sp_cells.specs.Config.{table_sectors}
use Rattle.sp_cells.specs.declared.names.Sp.{Sp}
use Rattle.sp_tables.specs.Contents.{Contents}
use Rattle.shadow_mbr.specs.Stored.{StoredSectors as Bytes, sector_size, byte_at}
use Rattle.transactions.specs.Stored.{Stored, new_store, after_reset}
use Rattle.std.proofs.Math.Path.{fun_ext}
use Rattle.sp_cells.specs.declared.names.Sp.TheVariants.{Admin, Locking}
use Rattle.sp_cells.specs.Flat.{sp_eq}
use Rattle.sessions.specs.Live.{Holder, Live, session_at, lives_of, AreNumberedOf, unless_ending}
use Rattle.sessions.specs.Beside.{new_beside, beside_at_reset, with_reset_stack, with_told_stack}
use Rattle.audit.specs.declared.rules.rule.Rule.{Rule}
use Rattle.trusted_cmds.specs.declared.block.SidBlock.{SidBlock}
use Rattle.methods.specs.declared.outcome.Outcome.{Outcome as Answered}
use Rattle.history.specs.Opening.{Origin, origin_on}
use Rattle.history.specs.Agreement.{HasNoTries}
use Rattle.history.specs.Events.{Event, Nothing, InSession, Dropped, Took, WasReset, BlockedSid, did}
use Rattle.history.specs.Readers.{waiting, waits}
use Rattle.history.specs.Decisions.{received}
use Rattle.history.specs.Tcg.{answers, broken_off, stack_reset}
use Rattle.history.specs.Facts.{facts}
use Rattle.history.proofs.KeptSessionsStart.{of-past}
use Rattle.sessions.specs.Deeds.{Outcome, Ended, StackReset, says}
use Rattle.history.specs.KeptStore.{HasKnownRows, KeepsStore}
use Rattle.sessions.specs.Made.{LeavesAll, closed_if}
use Rattle.history.proofs.KeptStoreOpenings.{store_opening_law}
use Rattle.history.proofs.KeptSessionsLaws.{sessions_opening_law}
use Rattle.tper.specs.declared.trusted.Sent.{Sent}
use Rattle.tper.specs.Items.{AnswersAs}
use Rattle.tper.specs.Tper.{Tper, Keeps, IsToldOfSend, Responds, Takes, response_at, fits_in, unless_on_if, told_event}
use Rattle.tper.proofs.KeptBeside.{kept_after}

-- ---- an item

waits-there : (b : Bool) (bytes : List ℕ) (w : Option (List ℕ)) → cond b (Some bytes) w ≡ unwrap_or (cond b (Some (Some bytes)) None) w
waits-there true bytes w = refl
waits-there false bytes w = refl

pub answer-kept : (t u : Tper) (o : Origin) (past : List Event) (com_id : ℕ) (session : Session) (out : Outcome) (said : Answered)
    → AnswersAs out said t.store u.store t.live u.live → Responds com_id session (message said.reply) t u
    → Keeps t o past → Keeps u o (answers com_id session out ∷ past)
answer-kept t u o past com_id session out said met responds k =
    kept_after t u o past (answers com_id session out) met.store met.sessions met.beside
    (λ other. responds other
    ∙ ap (λ (m : Message). cond (com_id == other) (Some (frame_bytes com_id session (item_spelling_of m))) (response_at t.waiting other)) met.answer
    ∙ waits-there (com_id == other) (frame_bytes com_id session (item_spelling_of out.said)) (response_at t.waiting other)) k

-- a session that ends without an answer
pub broken-kept : (t u : Tper) (o : Origin) (past : List Event) (rule : Rule) (sp : Sp) (said : Answered)
    → AnswersAs (says (Ended sp) end_session) said t.store u.store t.live u.live → u.waiting ≡ t.waiting
    → Keeps t o past → Keeps u o (broken_off rule sp ∷ past)
broken-kept t u o past rule sp said met waits k =
    kept_after t u o past (broken_off rule sp) met.store met.sessions met.beside
    (λ com_id. ap (λ (w : List (Option (List ℕ))). response_at w com_id) waits) k

pub answer-sent : (t u : Tper) (com_id : ℕ) (session : Session) (out : Outcome) (said : Answered) (s : Sent)
    → AnswersAs out said t.store u.store t.live u.live → s.denied ≡ said.denied → s.rule ≡ said.rule → s.erases ≡ said.erases
    → IsToldOfSend (answers com_id session out) s
answer-sent t u com_id session out said s met denied rule erases = record { failed = refl; denied = denied ∙ met.denied; rule = rule ∙ met.rule; erases = erases ∙ met.erases }

-- ---- a receive

there : (b : Bool) (w : Option (List ℕ)) → cond (b && true) None w ≡ unwrap_or (cond b (Some None) None) w
there true w = refl
there false w = refl

not-there : (b : Bool) (w : Option (List ℕ)) → cond (b && false) None w ≡ w
not-there true w = refl
not-there false w = refl

leaves : (l m : Live) → m ≡ l → LeavesAll l m
leaves l m h = record { next = ap (λ (x : Live). x.next) h; at = λ n. ap (λ (x : Live). session_at x n) h }

took-kept : (t u : Tper) (o : Origin) (past : List Event) (com_id room : ℕ) → u.store ≡ t.store → u.live ≡ t.live → Takes com_id room t u → Keeps t o past
    → (f : Bool) → fits_in room (response_at t.waiting com_id) ≡ f → Keeps u o (cond f (did (Took com_id)) (did Nothing) ∷ past)
took-kept t u o past com_id room hs hl takes k true h =
    kept_after t u o past (did (Took com_id)) hs (leaves t.live u.live hl) (ap (λ (x : Live). x.beside) hl)
    (λ other. takes other ∙ ap (λ (b : Bool). cond (com_id == other && b) None (response_at t.waiting other)) h ∙ there (com_id == other) (response_at t.waiting other)) k
took-kept t u o past com_id room hs hl takes k false h =
    kept_after t u o past (did Nothing) hs (leaves t.live u.live hl) (ap (λ (x : Live). x.beside) hl)
    (λ other. takes other ∙ ap (λ (b : Bool). cond (com_id == other && b) None (response_at t.waiting other)) h ∙ not-there (com_id == other) (response_at t.waiting other)) k

received-kept : (t u : Tper) (o : Origin) (past : List Event) (com_id room blocks : ℕ) → u.store ≡ t.store → u.live ≡ t.live → Takes com_id room t u → room ≡ sector_size * blocks → Keeps t o past
    → (w : Option (List ℕ)) → response_at t.waiting com_id ≡ w → Keeps u o (received com_id blocks w ∷ past)
received-kept t u o past com_id room blocks hs hl takes size k None is =
    took-kept t u o past com_id room hs hl takes k false (ap (λ (w : Option (List ℕ)). fits_in room w) is)
received-kept t u o past com_id room blocks hs hl takes size k (Some r) is =
    took-kept t u o past com_id room hs hl takes k (nat_le (length r) (sector_size * blocks))
    (ap (λ (w : Option (List ℕ)). fits_in room w) is ∙ ap (λ (n : ℕ). nat_le (length r) n) size)

pub take-kept : (t u : Tper) (o : Origin) (past : List Event) (com_id room blocks : ℕ) → u.store ≡ t.store → u.live ≡ t.live → Takes com_id room t u → room ≡ sector_size * blocks → Keeps t o past → Keeps u o (received com_id blocks (waiting past com_id) ∷ past)
take-kept t u o past com_id room blocks hs hl takes size k =
    received-kept t u o past com_id room blocks hs hl takes size k (waiting past com_id) (k.waiting com_id)

-- ---- a block of SID, a reset, and no acts

pub block-kept : (t u : Tper) (o : Origin) (past : List Event) (block : SidBlock) → u.store ≡ t.store → u.live ≡ record t.live { beside = record t.live.beside { block = block } } → u.waiting ≡ t.waiting → Keeps t o past → Keeps u o (did (BlockedSid block) ∷ past)
block-kept t u o past block store live waits k =
    kept_after t u o past (did (BlockedSid block)) store
    (record { next = ap (λ (x : Live). x.next) live; at = λ n. ap (λ (x : Live). session_at x n) live }) (ap (λ (x : Live). x.beside) live)
    (λ com_id. ap (λ (w : List (Option (List ℕ))). response_at w com_id) waits) k

pub reset-kept : (t u : Tper) (o : Origin) (past : List Event) (kind : ℕ) → u.store ≡ after_reset kind t.store → ((n : ℕ) → session_at u.live n ≡ None) → u.live.next ≡ t.live.next → u.live.beside ≡ beside_at_reset kind t.live.beside → ((com_id : ℕ) → response_at u.waiting com_id ≡ None) → Keeps t o past → Keeps u o (did (WasReset kind) ∷ past)
reset-kept t u o past kind store none next here waits k =
    kept_after t u o past (did (WasReset kind)) store (record { next = next; at = none }) here waits k

-- ---- the stack of a ComID

-- the sessions that end are those of the SPs that end
ending-both : (a b : Bool) (ends : Sp → Bool) → ends Admin ≡ a → ends Locking ≡ b → (x : Option Holder) → unless_on_if b Locking (unless_on_if a Admin x) ≡ unless_ending ends x
ending-both true true ends is its None = refl
ending-both true false ends is its None = refl
ending-both false true ends is its None = refl
ending-both false false ends is its None = refl
ending-both a b ends is its (Some h) = by_sp a b h.sp refl is its
  where
    by_sp : (a b : Bool) (sp : Sp) → h.sp ≡ sp → ends Admin ≡ a → ends Locking ≡ b → unless_on_if b Locking (unless_on_if a Admin (Some h)) ≡ cond (ends h.sp) None (Some h)
    by_sp true true Admin at is its = ap (λ s. unless_on_if true Locking (cond (sp_eq s Admin) None (Some h))) at ∙ sym (ap (λ s. cond (ends s) None (Some h)) at ∙ ap (λ c. cond c None (Some h)) is)
    by_sp true true Locking at is its =
        ap (λ s. unless_on_if true Locking (cond (sp_eq s Admin) None (Some h))) at
        ∙ ap (λ s. cond (sp_eq s Locking) None (Some h)) at
        ∙ sym (ap (λ s. cond (ends s) None (Some h)) at ∙ ap (λ c. cond c None (Some h)) its)
    by_sp true false Admin at is its = ap (λ s. cond (sp_eq s Admin) None (Some h)) at ∙ sym (ap (λ s. cond (ends s) None (Some h)) at ∙ ap (λ c. cond c None (Some h)) is)
    by_sp true false Locking at is its = ap (λ s. cond (sp_eq s Admin) None (Some h)) at ∙ sym (ap (λ s. cond (ends s) None (Some h)) at ∙ ap (λ c. cond c None (Some h)) its)
    by_sp false true Admin at is its = ap (λ s. cond (sp_eq s Locking) None (Some h)) at ∙ sym (ap (λ s. cond (ends s) None (Some h)) at ∙ ap (λ c. cond c None (Some h)) is)
    by_sp false true Locking at is its = ap (λ s. cond (sp_eq s Locking) None (Some h)) at ∙ sym (ap (λ s. cond (ends s) None (Some h)) at ∙ ap (λ c. cond c None (Some h)) its)
    by_sp false false Admin at is its = sym (ap (λ s. cond (ends s) None (Some h)) at ∙ ap (λ c. cond c None (Some h)) is)
    by_sp false false Locking at is its = sym (ap (λ s. cond (ends s) None (Some h)) at ∙ ap (λ c. cond c None (Some h)) its)

drops : (b : Bool) (w : Option (List ℕ)) → cond b None w ≡ unwrap_or (cond b (Some None) None) w
drops true w = refl
drops false w = refl

pub stack-kept : (t u : Tper) (o : Origin) (past : List Event) (com_id : ℕ) → AreNumberedOf t.live
    → u.store ≡ closed_if (lives_of com_id Locking t.live) Locking (closed_if (lives_of com_id Admin t.live) Admin t.store)
    → ((n : ℕ) → session_at u.live n ≡ unless_on_if (lives_of com_id Locking t.live) Locking (unless_on_if (lives_of com_id Admin t.live) Admin (session_at t.live n)))
    → u.live.next ≡ t.live.next → u.live.beside ≡ with_reset_stack com_id t.live.beside
    → ((other : ℕ) → response_at u.waiting other ≡ (if com_id == other then None else response_at t.waiting other))
    → Keeps t o past → Keeps u o (stack_reset (facts o past) com_id ∷ past)
stack-kept t u o past com_id numbered store points next here waits k =
    subst (λ (ends : Sp → Bool). Keeps u o (did (InSession (StackReset com_id ends) (Dropped com_id)) ∷ past))
    (fun_ext (λ sp. of-past past t.live com_id sp k.sessions numbered))
    (kept_after t u o past (did (InSession (StackReset com_id ends) (Dropped com_id))) store
    (record { next = next; at = λ n. points n ∙ ending-both (ends Admin) (ends Locking) ends refl refl (session_at t.live n) }) here
    (λ other. waits other ∙ drops (com_id == other) (response_at t.waiting other)) k)
  where
    ends : Sp → Bool
    ends sp = lives_of com_id sp t.live

pub told-kept : (t u : Tper) (o : Origin) (past : List Event) (com_id : ℕ) (rule : Option Rule) → u.store ≡ t.store → u.live ≡ record t.live { beside = with_told_stack com_id t.live.beside } → u.waiting ≡ t.waiting → Keeps t o past → Keeps u o (told_event com_id rule ∷ past)
told-kept t u o past com_id rule store live waits k =
    kept_after t u o past (told_event com_id rule) store
    (record { next = ap (λ (x : Live). x.next) live; at = λ n. ap (λ (x : Live). session_at x n) live }) (ap (λ (x : Live). x.beside) live)
    (λ other. ap (λ (w : List (Option (List ℕ))). response_at w other) waits) k

pub opening-kept : (t : Tper) (tables : Contents) (mbr : Bytes) → t.store ≡ new_store tables mbr → mbr.sectors ≡ table_sectors tables.config → ((place : ℕ) → byte_at mbr place ≡ 0) → ((n : ℕ) → session_at t.live n ≡ None) → t.live.next ≡ 0x1000 → t.live.beside ≡ new_beside → ((com_id : ℕ) → response_at t.waiting com_id ≡ None)
    → HasNoTries (origin_on tables) → HasKnownRows (origin_on tables) → Keeps t (origin_on tables) []
opening-kept t tables mbr store size zeros none next here waits tries known = record {
  store = subst (λ (s : Stored). KeepsStore s (origin_on tables) []) (sym store) (store_opening_law tables mbr tries known size zeros);
  sessions = sessions_opening_law t.live next none;
  beside = here;
  waiting = waits;
}
