-- A method takes effect, and a column is listed, exactly where entries say so.
use Rattle.std.proofs.Common.{◌≡◌, ℕ, ◌==◌, Bool, true, false, ◌&&◌, not, List, [], ◌∷◌, Option, Some, None, refl, sym, subst, ◌∙◌, ap, cond, ◌⊎◌, inl, inr, eq-eqb, arith, nat_lt, eqb-true}
use Rattle.std.specs.Prelude.{length, is_some, unwrap_or, map, slice_index, Ok}
use Rattle.std.proofs.lemmas.Bool.Decides.{nat_tests}
use Rattle.fis.specs.H2d.{h2d_at}
use Rattle.fis.specs.declared.h2d.RegH2d.{RegH2d}
use Rattle.sp_cells.specs.declared.names.Uid.{Uid}
use Rattle.sp_cells.specs.declared.names.Column.{Column}
use Rattle.sp_cells.specs.Names.{col}
use Rattle.sp_cells.specs.Flat.{LookUp}
use Rattle.ace_eval.specs.Truth.{has}
use Rattle.ace_eval.specs.Aces.{acl_at, ace_of}
use Rattle.audit.specs.declared.reason.AttemptFailure.{AttemptFailure}
use Rattle.audit.specs.declared.reason.AttemptFailure.TheVariants.{WrongPin, LockedOut, Disabled, Blocked, Unknown}
use Rattle.audit.specs.declared.reason.Why.{Why}
use Rattle.audit.specs.declared.reason.Why.TheVariants.{NoEntryHolds, NoAccessRow}
use Rattle.sessions.specs.Attempts.{attempt_failure as failure_of}
use Rattle.tcg_calls.specs.Asks.{uid_of}
use Rattle.sessions.specs.Deeds.{Begun}
use Rattle.sp_cells.specs.declared.names.Sp.{Sp}
use Rattle.trusted_cmds.specs.Commands.{is_queued}
use Rattle.compacket.specs.Frames.{Frame, reading as frame_in}
use Rattle.tcg_tokens.specs.Reading.{reading as message_in}
use Rattle.tcg_tokens.specs.Tree.{Tree}
use Rattle.trusted_cmds.specs.declared.command.Command.{Command}
use Rattle.trusted_cmds.specs.declared.command.Command.TheVariants.{Send}
use Rattle.tcg_calls.specs.declared.call_shapes.ask.Ask.{Ask}
use Rattle.tcg_calls.specs.declared.call_shapes.ask.Ask.TheVariants.{GetCells, GetBytes, SetCells, SetBytes, Authenticate, Activate, Revert, GenKey, RevertSp, Next, GetAcl, Other, Random}
use Rattle.std.specs.Option.{option_or}
use Rattle.methods.specs.Grants.{why_denied, unless_allowed, denial as denial_of, wanted, first_some}
use Rattle.methods.specs.Laws.{EachHasAce, IsGranted, takes_effect}
use Rattle.methods.proofs.GrantLaws.{grant_law as grants, effect_law as judges}
use Rattle.methods.specs.Judgement.{Standing, Judgement, Refuses, Gives, Makes, Attempts, Activates, Reverts, Erases, RevertsSp, denial, does, unless_denied, judged, Denies, Draws}
use Rattle.trusted_cmds.specs.BlockSid.{is_block_sid}
use Rattle.basics.specs.declared.profile.Profile.{Profile}
use Rattle.history.specs.Events.{Event, Nothing, did, WasReset, ignores}
use Rattle.history.specs.Items.{Items}
use Rattle.history.specs.Facts.{Facts, standing, session_named}
use Rattle.history.specs.Decisions.{admitted, fails_queue, refuses, aborted, while_failed, is_busy, resets, is_trusted, is_session_com_id, unqueued_of, known_of, commanded_of, asks_stack}
use Rattle.history.specs.Tcg.{answers, item_event, manager_event, to_session, in_session, framed, sent, send, tcg, blocks_sid, send_item, unsent, is_free_for, broken_of, sent_by, stack_sent, send_other}
use Rattle.methods.specs.Calls.{outcome_of, tried_in}
use Rattle.history.specs.History.{Act, event_by, event_in}
use Rattle.history.specs.MethodLaws.{ActEffectLaw, IsSent, CallLaw}
use Rattle.history.specs.Looked.{IsLookedAtBy}
use Rattle.sp_cells.specs.Resets.{programmatic}
use Rattle.audit.specs.declared.rules.rule.Rule.TheVariants.{NoCommand, Mixed, NoFrame}
use Rattle.basics.specs.Profiles.{has_opal}

none-some : {A : Type 0} {x : A} → None ≡ Some x → ⊥
none-some h = cc

clash : false ≡ true → ⊥
clash h = cc

same-why : {x y : Why} → Some x ≡ Some y → x ≡ y
same-why h = cc

-- a method is offered where it has an ACE
row-there : (row : Option (List Uid)) (ace : Uid) → has (unwrap_or row []) ace ≡ true → (r : List Uid) × (row ≡ Some r)
row-there None ace h = absurd (clash h)
row-there (Some r) ace h = (r, refl)

-- a call is denied exactly where it is not granted
pub denial-none : (s : Standing) (object method : Uid) (ask : Ask) → denial s object method ask ≡ None → IsGranted s object method ask
denial-none s object method ask h = (grants s object method ask).0 h

-- some ACE is wanted, and so the method is offered
first-row : (s : Standing) (object method : Uid) (ks : List (Option Column)) (k : Option Column) (rest : List (Option Column)) → ks ≡ k ∷ rest → EachHasAce s.profile s.rows s.sp object method s.held ks → (r : List Uid) × (acl_at s.profile s.sp object method ≡ Some r)
first-row s object method ks k rest is h =
    let e : EachHasAce s.profile s.rows s.sp object method s.held (k ∷ rest) = subst (EachHasAce s.profile s.rows s.sp object method s.held) is h in row-there (acl_at s.profile s.sp object method) e.0.ace e.0.in_row

not-empty : (p : ℕ × Tree) (ps : List (ℕ × Tree)) → (length (p ∷ ps) == 0) ≡ false
not-empty p ps = grind (arith, nat_tests)

pub granted-row : (s : Standing) (object method : Uid) (ask : Ask) → IsGranted s object method ask → (r : List Uid) × (acl_at s.profile s.sp object method ≡ Some r)
granted-row s object method (SetCells []) h = first-row s object method (None ∷ []) None [] refl h
granted-row s object method (SetCells (p ∷ ps)) h = first-row s object method (wanted (SetCells (p ∷ ps))) (Some (col p.0)) (map (λ q. Some (col q.0)) ps) (ap (λ b. cond b (None ∷ []) (map (λ q. Some (col q.0)) (p ∷ ps))) (not-empty p ps)) h
granted-row s object method (GetCells a b) h = first-row s object method (None ∷ []) None [] refl h
granted-row s object method (GetBytes a b) h = first-row s object method (None ∷ []) None [] refl h
granted-row s object method (SetBytes a b) h = first-row s object method (None ∷ []) None [] refl h
granted-row s object method (Authenticate a b) h = first-row s object method (None ∷ []) None [] refl h
granted-row s object method Activate h = first-row s object method (None ∷ []) None [] refl h
granted-row s object method Revert h = first-row s object method (None ∷ []) None [] refl h
granted-row s object method GenKey h = first-row s object method (None ∷ []) None [] refl h
granted-row s object method (RevertSp keep) h = first-row s object method (None ∷ []) None [] refl h
granted-row s object method (Next after count) h = first-row s object method (None ∷ []) None [] refl h
granted-row s object method (GetAcl about what) h = first-row s object method (None ∷ []) None [] refl h
granted-row s object method (Random count) h = first-row s object method (None ∷ []) None [] refl h
granted-row s object method Other h = first-row s object method (None ∷ []) None [] refl h

-- what is looked at
abbrev pub looked_event : (items : Items) (f : Facts) (h : RegH2d) (payload : List ℕ) (command : Command) → Option ℕ → Event
looked_event items f h payload command (Some tag) = admitted f h tag command (is_some (f.held tag))
looked_event items f h payload command None = unqueued_of items f payload command

known-looked : (items : Items) (f : Facts) (h : RegH2d) (payload : List ℕ) (command : Command) (tag : Option ℕ) → known_of items f h payload (Ok (command, tag)) ≡ looked_event items f h payload command tag
known-looked items f h payload command (Some tag) = refl
known-looked items f h payload command None = refl

pub looked_law : (items : Items) (f : Facts) (act : Act) (command : Command) (tag : Option ℕ) (c : IsLookedAtBy items f act command tag) → event_in items f act ≡ looked_event items f (h2d_at c.fis) c.payload command tag
looked_law items f act command tag c =
    let h = h2d_at c.fis in
    ap (event_in items f) c.accepts
    ∙ ap (λ b. cond b (commanded_of items f h c.payload) (refuses NoCommand)) (eq-eqb (slice_index c.fis 0) 0x27 c.kind)
    ∙ ap (λ b. cond (not b) (refuses NoCommand) (cond (is_some f.failure) (while_failed (items.reads f.config h)) (cond (is_busy f && not (is_queued h.command)) (fails_queue None aborted h None (Some Mixed)) (known_of items f h c.payload (items.reads f.config h))))) c.commands
    ∙ ap (λ x. cond (is_some x) (while_failed (items.reads f.config h)) (cond (is_busy f && not (is_queued h.command)) (fails_queue None aborted h None (Some Mixed)) (known_of items f h c.payload (items.reads f.config h)))) c.mended
    ∙ ap (λ b. cond b (fails_queue None aborted h None (Some Mixed)) (known_of items f h c.payload (items.reads f.config h))) c.unmixed
    ∙ ap (known_of items f h c.payload) c.reads
    ∙ known-looked items f h c.payload command tag

-- what is sent by security protocol 01h is no reset
no-reset : (rows : LookUp) (p c k : ℕ) (d x y : Bool) → (is_trusted p k && x && y) ≡ true → resets rows (Send p c k d) ≡ false
no-reset rows p c k d x y h = by (p == 1) refl h
  where
    by : (b : Bool) → (p == 1) ≡ b → ((b && nat_lt 0 k) && x && y) ≡ true → resets rows (Send p c k d) ≡ false
    by true is g = ap (λ n. resets rows (Send n c k d)) (eqb-true p 1 is)
    by false is g = cc

-- nor does it block SID
no-block : (profile : Profile) (p c k : ℕ) (x y : Bool) → (is_trusted p k && x && y) ≡ true → is_block_sid profile (Send p c k true) ≡ false
no-block profile p c k x y h = by (p == 1) refl h
  where
    by : (b : Bool) → (p == 1) ≡ b → ((b && nat_lt 0 k) && x && y) ≡ true → is_block_sid profile (Send p c k true) ≡ false
    by true is g = ap (λ n. is_block_sid profile (Send n c k true)) (eqb-true p 1 is)
    by false is g = cc

-- nor does it ask the stack of a ComID
no-stack : (profile : Profile) (p c k : ℕ) (x y : Bool) → (is_trusted p k && x && y) ≡ true → asks_stack profile p c k ≡ false
no-stack profile p c k x y h = by (p == 1) refl h
  where
    second-false : (a : Bool) → (a && false) ≡ false
    second-false true = refl
    second-false false = refl

    by : (b : Bool) → (p == 1) ≡ b → ((b && nat_lt 0 k) && x && y) ≡ true → asks_stack profile p c k ≡ false
    by true is g = ap (λ n. asks_stack profile n c k) (eqb-true p 1 is) ∙ second-false (has_opal profile)
    by false is g = cc

-- a frame that is taken
pub sent_law : (f : Facts) (act : Act) (com_id : ℕ) (frame : Frame) → IsSent f act com_id frame → event_by f act ≡ framed f com_id frame
sent_law f act com_id frame c =
    looked_law tcg f act (Send c.protocol com_id c.blocks c.dma) None c.looked
    ∙ ap (λ b. cond b (did (WasReset programmatic)) (send f c.protocol com_id c.blocks c.looked.payload)) (no-reset f.rows c.protocol com_id c.blocks c.dma (is_session_com_id com_id) (is_free_for f com_id c.blocks) c.taken)
    ∙ ap (λ b. cond b (blocks_sid f c.looked.payload) (send_other f c.protocol com_id c.blocks c.looked.payload)) (no-block f.config.profile c.protocol com_id c.blocks (is_session_com_id com_id) (is_free_for f com_id c.blocks) c.taken)
    ∙ ap (λ b. cond b (stack_sent f com_id c.looked.payload) (send_item f c.protocol com_id c.blocks c.looked.payload)) (no-stack f.config.profile c.protocol com_id c.blocks (is_session_com_id com_id) (is_free_for f com_id c.blocks) c.taken)
    ∙ ap (λ b. cond b (sent f com_id c.looked.payload) (refuses (unsent (is_some (f.waiting com_id)) c.protocol com_id c.blocks))) c.taken
    ∙ ap (sent_by f com_id (broken_of f.config.profile c.looked.payload)) c.framed
    ∙ ap (λ b. cond b (framed f com_id frame) (ignores NoFrame)) c.addressed

pub call_law : CallLaw
call_law f act session object method args c =
    sent_law f act c.com_id c.frame c.sent
    ∙ ap (λ b. cond b (manager_event f c.com_id c.frame.session (message_in c.frame.payload)) (to_session f c.com_id c.frame.session c.frame.payload (session_named f c.com_id c.frame.session))) c.no_manager
    ∙ ap (to_session f c.com_id c.frame.session c.frame.payload) c.named
    ∙ ap (item_event f c.com_id c.frame.session session) c.calls

-- the reason of an access denial is none of an attempt
abbrev of_access : Why → Bool
of_access (NoEntryHolds sp object method column need) = true
of_access (NoAccessRow sp object method) = true
of_access _ = false

unoffered-access : (look : LookUp) (sp : Sp) (object method : Uid) (k : Option Column) (row : Option (List Uid)) → of_access (why_denied look sp object method k row) ≡ true
unoffered-access look sp object method k None = refl
unoffered-access look sp object method k (Some row) = refl

column-access : (s : Standing) (object method : Uid) (k : Option Column) (x : Option Uid) (why : Why) → unless_allowed x (why_denied s.rows s.sp object method k (acl_at s.profile s.sp object method)) ≡ Some why → of_access why ≡ true
column-access s object method k None why h = ap of_access (sym (same-why h)) ∙ unoffered-access s.rows s.sp object method k (acl_at s.profile s.sp object method)
column-access s object method k (Some ace) why h = absurd (none-some h)

either-some : (x y : Option Why) (why : Why) → option_or x y ≡ Some why → (x ≡ Some why) ⊎ (y ≡ Some why)
either-some None y why h = inr h
either-some (Some w) y why h = inl h

wanted-access : (s : Standing) (object method : Uid) (ks : List (Option Column)) (why : Why) → first_some (map (denial_of s.profile s.rows s.sp object method s.held) ks) ≡ Some why → of_access why ≡ true
wanted-access s object method [] why h = absurd (none-some h)
wanted-access s object method (k ∷ ks) why h = elim (either-some (denial_of s.profile s.rows s.sp object method s.held k) (first_some (map (denial_of s.profile s.rows s.sp object method s.held) ks)) why h) [
  | inl g ↦ column-access s object method k (ace_of s.profile s.rows s.sp object method k s.held) why g
  | inr g ↦ wanted-access s object method ks why g
]

denial-access : (s : Standing) (object method : Uid) (ask : Ask) (why : Why) → denial s object method ask ≡ Some why → of_access why ≡ true
denial-access s object method ask why h = wanted-access s object method (wanted ask) why h

-- what an effect is denied of, if anything, is an attempt's
abbrev reason_of : Option Why → Bool
reason_of None = false
reason_of (Some why) = of_access why

tried-reason : (f : Facts) (sp : Sp) (authority : Uid) (x : Option AttemptFailure) → reason_of (tried_in f.rows sp authority x).denied ≡ false
tried-reason f sp authority None = refl
tried-reason f sp authority (Some LockedOut) = refl
tried-reason f sp authority (Some WrongPin) = refl
tried-reason f sp authority (Some Disabled) = refl
tried-reason f sp authority (Some Blocked) = refl
tried-reason f sp authority (Some Unknown) = refl

effect-reason : (f : Facts) (sp : Sp) (j : Judgement) → takes_effect j ≡ true → reason_of (outcome_of f.rows sp j).denied ≡ false
effect-reason f sp (Denies why) h = absurd (clash h)
effect-reason f sp (Refuses status rule) h = absurd (clash h)
effect-reason f sp (Gives results) h = refl
effect-reason f sp (Draws count results) h = refl
effect-reason f sp (Makes change) h = refl
effect-reason f sp (Attempts block authority pin) h = tried-reason f sp authority (failure_of block f.rows sp authority pin)
effect-reason f sp Activates h = refl
effect-reason f sp (Reverts r) h = refl
effect-reason f sp (Erases range) h = refl
effect-reason f sp (RevertsSp keep) h = refl

effect-back : (f : Facts) (session : Begun) (object method : Uid) (ask : Ask) (d : Option Why) → denial (standing f session) object method ask ≡ d → takes_effect (does (standing f session) object ask) ≡ true
    → (outcome_of f.rows session.sp (unless_denied d (does (standing f session) object ask))).denied ≡ (outcome_of f.rows session.sp (does (standing f session) object ask)).denied → IsGranted (standing f session) object method ask
effect-back f session object method ask None is valid same = denial-none (standing f session) object method ask is
effect-back f session object method ask (Some why) is valid same =
    absurd (clash (sym (effect-reason f session.sp (does (standing f session) object ask) valid) ∙ ap reason_of (sym same) ∙ denial-access (standing f session) object method ask why is))

pub effect_law : ActEffectLaw
effect_law f act session object method args c ask shaped valid =
    let s = standing f session in let o = uid_of object in let m = uid_of method in
    let answer : Judgement → Event = λ j. answers c.com_id c.frame.session (outcome_of f.rows session.sp j) in
    let here : event_by f act ≡ answer (judged s o m (Some ask)) = call_law f act session object method args c ∙ ap (λ x. answer (judged s o m x)) shaped in (
      (λ h. effect-back f session o m ask (denial s o m ask) refl valid (ap (λ (e : Event). e.denied) (sym here ∙ h))),
      (λ g. here ∙ ap answer ((judges s o m ask).granted g)),
    )
