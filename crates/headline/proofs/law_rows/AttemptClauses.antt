-- What each clause of the laws of attempts, methods, denials and audit lines of `history` says.
use Rattle.std.proofs.Common.{◌≡◌, ◌∙◌, ℕ, true, not, List, [], ◌∷◌, ◌++◌, Option, Some, None, ◌⊎◌, inl, inr, refl, ap}
use Rattle.sp_cells.specs.ColumnNames.{try_limit_column, tries_column}
use Rattle.sp_cells.specs.Names.{sid, c_pin_sid}
use Rattle.sp_cells.specs.Ranges.{number}
use Rattle.sp_cells.specs.declared.names.Sp.TheVariants.{Admin, Locking}
use Rattle.sp_cells.specs.declared.names.Uid.{Uid}
use Rattle.audit.specs.declared.reason.AttemptFailure.{AttemptFailure}
use Rattle.audit.specs.declared.reason.AttemptFailure.TheVariants.{WrongPin, LockedOut}
use Rattle.audit.specs.declared.reason.AuditLine.{AuditLine}
use Rattle.audit.specs.declared.reason.Why.{Why}
use Rattle.tcg_tokens.specs.Tree.{Trees}
use Rattle.tcg_calls.specs.Asks.{uid_of}
use Rattle.tcg_calls.specs.Named.{values_of}
use Rattle.tcg_calls.specs.declared.call_shapes.ask.Ask.{Ask}
use Rattle.shadow_mbr.specs.Erasure.{all_sectors}
use Rattle.sessions.specs.Attempts.{is_used_up}
use Rattle.sessions.specs.Deeds.{Attempt, Begun, Tried, Reverted}
use Rattle.sessions.specs.Live.{Live}
use Rattle.transactions.specs.Stored.{Stored}
use Rattle.methods.specs.Calls.{judged_with, outcome_of, outcome_in}
use Rattle.methods.specs.Judgement.{asked, does}
use Rattle.methods.specs.Laws.{IsAmong, IsGranted, takes_effect}
use Rattle.history.specs.Audit.{ActAuditLaw, ClientAct, audit_of_acts, event_of}
use Rattle.history.specs.DenialLaws.{DenialLaw, TransferDenied, MethodDenied, AttemptDenied, StartDenied, TrimDenied}
use Rattle.history.specs.Events.{Event, Response, InSession, Left, WasReset, did}
use Rattle.history.specs.Facts.{Facts, facts, standing}
use Rattle.history.specs.History.{Act, event_by, log}
use Rattle.history.specs.KeptCalls.{CallLaw as KeptCallLaw}
use Rattle.history.specs.KeptSessions.{KeepsSessions, id_of}
use Rattle.history.specs.KeptStore.{KeepsStore}
use Rattle.history.specs.MethodLaws.{CallLaw, ActEffectLaw, IsCall}
use Rattle.history.specs.Opening.{Origin}
use Rattle.history.specs.Readers.{session_on, beside, tries}
use Rattle.history.specs.Tcg.{answers, judgement_on}
use Rattle.history.specs.TriesLaw.{TriesLaw, LimitLaw}
use Rattle.headline.proofs.law_rows.Lists.{not_both}

-- Attempts of SID in the Admin SP: a wrong PIN, a right one, one of an authority that is locked out.
abbrev attempt : Option AttemptFailure → Event
attempt failure = did (InSession (Tried (record {
  sp = Admin;
  authority = sid;
  row = c_pin_sid;
  failure = failure;
  gained = [];
})) (Left 0x1000 []))

abbrev wrong : Event
wrong = attempt (Some WrongPin)

-- `tries`: two wrong ones are two; one that is locked out is none; a right one, a power cycle and a Revert make them 0, and a
-- hardware reset and a Revert of the other SP leave them.
two_wrong : TriesLaw → tries (wrong ∷ wrong ∷ []) Admin c_pin_sid ≡ 2
two_wrong law = law (wrong ∷ wrong ∷ []) Admin c_pin_sid

locked_out : TriesLaw → tries (attempt (Some LockedOut) ∷ wrong ∷ []) Admin c_pin_sid ≡ 1
locked_out law = law (attempt (Some LockedOut) ∷ wrong ∷ []) Admin c_pin_sid

of_other_row : TriesLaw → tries (wrong ∷ []) Locking c_pin_sid ≡ 0
of_other_row law = law (wrong ∷ []) Locking c_pin_sid

right_behind : TriesLaw → tries (wrong ∷ attempt None ∷ wrong ∷ []) Admin c_pin_sid ≡ 1
right_behind law = law (wrong ∷ attempt None ∷ wrong ∷ []) Admin c_pin_sid

power_behind : TriesLaw → tries (did (WasReset 0) ∷ wrong ∷ []) Admin c_pin_sid ≡ 0
power_behind law = law (did (WasReset 0) ∷ wrong ∷ []) Admin c_pin_sid

hardware_behind : TriesLaw → tries (did (WasReset 1) ∷ wrong ∷ []) Admin c_pin_sid ≡ 1
hardware_behind law = law (did (WasReset 1) ∷ wrong ∷ []) Admin c_pin_sid

revert_behind : TriesLaw → (response : Response)
    → tries (did (InSession (Reverted Admin all_sectors) response) ∷ wrong ∷ []) Admin c_pin_sid ≡ 0
revert_behind law response =
    law (did (InSession (Reverted Admin all_sectors) response) ∷ wrong ∷ []) Admin c_pin_sid

other_revert_behind : TriesLaw → (response : Response)
    → tries (did (InSession (Reverted Locking all_sectors) response) ∷ wrong ∷ []) Admin c_pin_sid ≡ 1
other_revert_behind law response =
    law (did (InSession (Reverted Locking all_sectors) response) ∷ wrong ∷ []) Admin c_pin_sid

-- `limit`: at five tries of five no wrong PIN is counted.
none_at_the_limit : LimitLaw → (f : Facts) (act : Act) (a : Attempt) (response : Response)
    → (event_by f act).deed ≡ InSession (Tried a) response → a.failure ≡ Some WrongPin
    → number f.rows a.sp a.row try_limit_column ≡ 5 → number f.rows a.sp a.row tries_column ≡ 5 → ⊥
none_at_the_limit law f act a response is failure limit count =
    not_both (law f act a response is failure)
    (ap (λ n. not (is_used_up n (number f.rows a.sp a.row tries_column))) limit
    ∙ ap (λ n. not (is_used_up 5 n)) count)

-- `called`: a call does and says what is judged of it.
called_says : CallLaw → (f : Facts) (act : Act) (session : Begun) (object method : List ℕ) (args : Trees)
    (c : IsCall f act session object method args)
    → (event_by f act).deed
    ≡ (answers c.com_id c.frame.session
    (outcome_of f.rows session.sp (judgement_on f session (uid_of object) (uid_of method) args))).deed
called_says law f act session object method args c =
    ap (λ e. e.deed) (law f act session object method args c)

-- `effect`: it does what its ask comes to where that is granted, and where it is not it does something else.
granted_does : ActEffectLaw → (f : Facts) (act : Act) (session : Begun) (object method : List ℕ)
    (args : Trees) (c : IsCall f act session object method args) (ask : Ask)
    → asked f.config.profile session.sp (uid_of object) (uid_of method) args ≡ Some ask
    → takes_effect (does (standing f session) (uid_of object) ask) ≡ true
    → IsGranted (standing f session) (uid_of object) (uid_of method) ask
    → event_by f act ≡ answers c.com_id c.frame.session
    (outcome_of f.rows session.sp (does (standing f session) (uid_of object) ask))
granted_does law f act session object method args c ask shaped effect has =
    (law f act session object method args c ask shaped effect).1 has

done_is_granted : ActEffectLaw → (f : Facts) (act : Act) (session : Begun) (object method : List ℕ)
    (args : Trees) (c : IsCall f act session object method args) (ask : Ask)
    → asked f.config.profile session.sp (uid_of object) (uid_of method) args ≡ Some ask
    → takes_effect (does (standing f session) (uid_of object) ask) ≡ true
    → event_by f act ≡ answers c.com_id c.frame.session
    (outcome_of f.rows session.sp (does (standing f session) (uid_of object) ask))
    → IsGranted (standing f session) (uid_of object) (uid_of method) ask
done_is_granted law f act session object method args c ask shaped effect does_so =
    (law f act session object method args c ask shaped effect).0 does_so

-- `kept`: by what is kept it comes to the same.
kept_says : KeptCallLaw → (o : Origin) (acts : List Act) (s : Stored) (l : Live) (session : Begun)
    (object method : Uid) (args : Trees) → KeepsStore s o (log o acts) → KeepsSessions l (log o acts)
    → l.beside ≡ beside (log o acts) → session_on (log o acts) session.sp ≡ Some session
    → (outcome_in s (id_of session) (judged_with s l (id_of session) object method (values_of args))).deed
    ≡ (outcome_of (facts o (log o acts)).rows session.sp
    (judgement_on (facts o (log o acts)) session object method args)).deed
kept_says law o acts s l session object method args stored live known lives =
    ap (λ out. out.deed) (law o acts s l session object method args stored live known lives)

-- `reasons`: each kind of denial has its reason, and a reason is of one of them.
transfer_has_reason : DenialLaw → (f : Facts) (act : Act) (why : Why) → TransferDenied f act why
    → (event_by f act).denied ≡ Some why
transfer_has_reason law f act why denied = (law f act why).1 (inl denied)

method_has_reason : DenialLaw → (f : Facts) (act : Act) (why : Why) → MethodDenied f act why
    → (event_by f act).denied ≡ Some why
method_has_reason law f act why denied = (law f act why).1 (inr (inl denied))

attempt_has_reason : DenialLaw → (f : Facts) (act : Act) (why : Why) → AttemptDenied f act why
    → (event_by f act).denied ≡ Some why
attempt_has_reason law f act why denied = (law f act why).1 (inr (inr (inl denied)))

start_has_reason : DenialLaw → (f : Facts) (act : Act) (why : Why) → StartDenied f act why
    → (event_by f act).denied ≡ Some why
start_has_reason law f act why denied = (law f act why).1 (inr (inr (inr (inl denied))))

trim_has_reason : DenialLaw → (f : Facts) (act : Act) (why : Why) → TrimDenied f act why
    → (event_by f act).denied ≡ Some why
trim_has_reason law f act why denied = (law f act why).1 (inr (inr (inr (inr denied))))

reason_is_of_one : DenialLaw → (f : Facts) (act : Act) (why : Why) → (event_by f act).denied ≡ Some why
    → TransferDenied f act why ⊎ MethodDenied f act why ⊎ AttemptDenied f act why ⊎ StartDenied f act why
    ⊎ TrimDenied f act why
reason_is_of_one law f act why is = (law f act why).0 is

-- `lines`: without acts there is no line; a line is of a denied act of the list, and each denied act has one.
no_act_no_line : ActAuditLaw → (o : Origin) (line : AuditLine) → IsAmong (audit_of_acts o []) line → ⊥
no_act_no_line law o line among =
    let its = (law o [] line).0 among in no_act its.one its.before its.later its.place
  where
    no_act : (one : ClientAct) (before later : List ClientAct) → [] ≡ later ++ one ∷ before → ⊥
    no_act one before [] e = cc
    no_act one before (x ∷ later) e = cc

denied_has_line : ActAuditLaw → (o : Origin) (client : ℕ) (act : Act) (why : Why)
    → (event_of o (client, act) []).denied ≡ Some why
    → IsAmong (audit_of_acts o ((client, act) ∷ [])) (record { step = 1; client = client; why = why })
denied_has_line law o client act why is =
    (law o ((client, act) ∷ []) (record { step = 1; client = client; why = why })).1 (record {
      later = [];
      one = (client, act);
      before = [];
      place = refl;
      step = refl;
      client = refl;
      denied = is;
    })
