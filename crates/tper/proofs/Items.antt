-- What an item comes to: answers that change nothing, calls of a session, StartSession; and that each can be carried.
use Rattle.history.specs.History.{log}
use Rattle.tcg_tokens.specs.Reading.{reading as message_in}
use Rattle.sp_cells.specs.Config.{Config}
use Rattle.std.proofs.Common.{◌≡◌, ◌==◌, ℕ, true, false, List, Option, None, Some, refl, sym, subst, ◌∙◌, ap, Bool, eqb-true, if◌then◌else◌}
use Rattle.std.specs.Prelude.{zero, suc, Result, Err, map, option_map, Ok}
use Rattle.sp_cells.specs.declared.names.Uid.{Uid}
use Rattle.sp_cells.specs.Names.{session_manager, start_session, properties}
use Rattle.tcg_tokens.specs.declared.error.TokenError.{TokenError}
use Rattle.tcg_tokens.specs.declared.error.TokenError.TheVariants.{OutOfMemory}
use Rattle.tcg_tokens.specs.declared.value.Call.{Call}
use Rattle.tcg_tokens.specs.Tree.{Tree, tree, trees}
use Rattle.tcg_tokens.specs.Message.{Message, message, end, end_session}
use Rattle.tcg_tokens.specs.Gives.{Fails}
use Rattle.audit.specs.declared.reason.Why.{Why}
use Rattle.tcg_calls.specs.Asks.{ask_of, uid_of}
use Rattle.tcg_calls.specs.Carried.{is_carried}
use Rattle.tcg_calls.specs.Named.{values_of}
use Rattle.tcg_calls.proofs.call_shapes.NamedLemmas.{values_trees}
use Rattle.transactions.specs.declared.change.SessionId.{SessionId}
use Rattle.transactions.specs.Stored.{Transaction, Stored, part, at_part, is_open, part_commit, part_close}
use Rattle.shadow_mbr.specs.declared.erasure.Erasure.{Erasure}
use Rattle.shadow_mbr.specs.Erasure.{no_sectors}
use Rattle.sessions.specs.Answers.{rows_in_force}
use Rattle.sessions.specs.Live.{Live, AreNumbered, session_at}
use Rattle.sessions.specs.Starts.{start_rule, start_reply, start_denied, start_stored, start_at, start_next}
use Rattle.methods.specs.declared.outcome.Outcome.{Outcome as Answered}
use Rattle.methods.specs.Judgement.{judged}
use Rattle.methods.specs.PlainGets.{columns_named, plain_get, IsPlainGet}
use Rattle.methods.specs.declared.plain.PlainGet.{PlainGet}
use Rattle.tcg_calls.specs.declared.call_shapes.ask.Ask.{Ask}
use Rattle.tcg_calls.specs.declared.call_shapes.ask.Ask.TheVariants.{GetCells}
use Rattle.methods.specs.Calls.{standing_in, judged_with, judged_call, outcome_of, outcome_in, Fulfils}
use Rattle.history.specs.Opening.{Origin}
use Rattle.history.specs.Events.{Event}
use Rattle.history.specs.Readers.{beside, is_of, open_on}
use Rattle.tcg_calls.specs.Statuses.{transaction_failure}
use Rattle.sessions.specs.Deeds.{Begun, Unchanged, Outcome, says, Ended, refuses as refuses_item}
use Rattle.history.specs.Facts.{Facts, facts, has_open}
use Rattle.history.specs.Tcg.{called_manager, to_manager, in_session, judgement_on, started, item_in, ends_session, ends_on, properties_told, properties_with}
use Rattle.history.specs.KeptStore.{KeepsStore}
use Rattle.history.specs.KeptSessions.{KeepsSessions, id_of}
use Rattle.sessions.specs.Made.{Meets, beside_after}
use Rattle.history.proofs.KeptCallsProofs.{kept_call_law}
use Rattle.history.proofs.KeptSessionsStart.{start_law}
use Rattle.tper.specs.Items.{AnswersAs, OfManager, OfSession}
use Rattle.tper.proofs.Carried.{call_carried}
use Rattle.audit.specs.declared.rules.rule.Rule.{Rule}
use Rattle.audit.specs.declared.rules.rule.Rule.TheVariants.{NoneOpen}
use Rattle.sessions.specs.declared.beside.HostLimits.{HostLimits}
use Rattle.sessions.specs.declared.beside.Beside.{Beside}
use Rattle.sessions.specs.Beside.{channel_of}
use Rattle.sessions.specs.Properties.{properties_message, host_told, told_deed, properties_deed}

-- an answer that is this message can be carried, as the message can
pub carried-as : (said : Message) (m : Message) → said ≡ m → is_carried m ≡ true → is_carried said ≡ true
carried-as said m h k = subst (λ (x : Message). is_carried x ≡ true) (sym h) k

-- ---- a call of a session

-- the call by the values of its arguments is the call that the session sends
same-call : (s : Stored) (l : Live) (session : SessionId) (call : Call) → judged_call s l session call ≡ judged_with s l session (uid_of call.object) (uid_of call.method) (values_of (trees call.args.items))
same-call s l session call =
    sym (ap (λ (args : List Tree). judged_with s l session (uid_of call.object) (uid_of call.method) args) (values_trees call.args.items))

pub call-met : (s t : Stored) (l m : Live) (session : SessionId) (call : Call) (said : Answered)
    → Fulfils (outcome_in s session (judged_call s l session call)) said s t l m
    → OfSession (λ f its. outcome_of f.rows its.sp (judgement_on f its (uid_of call.object) (uid_of call.method) (trees call.args.items))) session said s t l m
call-met s t l m session call said fulfils = λ o acts its ks kl block lives same.
    let here : Fulfils (outcome_in s (id_of its) (judged_call s l (id_of its) call)) said s t l m = subst (λ (id : SessionId). Fulfils (outcome_in s id (judged_call s l id call)) said s t l m) same fulfils in
    subst (λ (x : Outcome). AnswersAs x said s t l m)
    (ap (outcome_in s (id_of its)) (same-call s l (id_of its) call)
    ∙ kept_call_law o acts s l its (uid_of call.object) (uid_of call.method) (trees call.args.items) ks kl block lives)
    here.met

pub call-carried : (s t : Stored) (l m : Live) (session : SessionId) (call : Call) (said : Answered) → Fulfils (outcome_in s session (judged_call s l session call)) said s t l m → is_carried (message said.reply) ≡ true
call-carried s t l m session call said h =
    carried-as (message said.reply) _ h.met.answer
    (call_carried (rows_in_force s) session.sp (standing_in s l session) (uid_of call.object) (uid_of call.method) (ask_of s.config.profile session.sp (uid_of call.object) (uid_of call.method) (map tree call.args.items)))

-- ---- the session manager

is-start : (f : Facts) (com_id : ℕ) (object method : Uid) (args : List Tree) → object ≡ session_manager → method ≡ start_session → started f com_id args ≡ called_manager f com_id object method args
is-start f com_id object method args h k =
    ap (λ (u : Uid). called_manager f com_id u start_session args) (sym h) ∙ ap (λ (u : Uid). called_manager f com_id object u args) (sym k)

pub start-met : (s t : Stored) (l m : Live) (com_id : ℕ) (object method : Uid) (call : Call) (said : Message) (why : Option Why) (rule : Option Rule) (erasure : Erasure)
    → object ≡ session_manager → method ≡ start_session
    → said ≡ start_reply s l (map tree call.args.items)
    → why ≡ start_denied s l (map tree call.args.items)
    → rule ≡ start_rule s l (map tree call.args.items)
    → t ≡ start_stored s l (map tree call.args.items)
    → ((n : ℕ) → session_at m n ≡ start_at s l com_id (map tree call.args.items) n)
    → m.next ≡ start_next s l (map tree call.args.items)
    → AreNumbered l
    → m.beside ≡ l.beside
    → erasure ≡ no_sectors
    → (o : Origin) (past : List Event) → KeepsStore s o past → KeepsSessions l past → l.beside ≡ beside past
    → Meets (called_manager (facts o past) com_id object method (values_of (trees call.args.items))) said why rule erasure s t l m
start-met s t l m com_id object method call said why rule erasure is-object is-method answered reasons ruled stored points next numbered stays none o past ks kl block =
    let args = map tree call.args.items in
    let law = start_law o past s l m com_id args ks kl numbered block stays next points in
    let by-answer = subst (λ (x : Message). Meets (started (facts o past) com_id args) x (start_denied s l args) (start_rule s l args) no_sectors s (start_stored s l args) l m) (sym answered) law in
    let by-reason = subst (λ (x : Option Why). Meets (started (facts o past) com_id args) said x (start_rule s l args) no_sectors s (start_stored s l args) l m) (sym reasons) by-answer in
    let by-rule = subst (λ (x : Option Rule). Meets (started (facts o past) com_id args) said why x no_sectors s (start_stored s l args) l m) (sym ruled) by-reason in
    let by-store = subst (λ (x : Stored). Meets (started (facts o past) com_id args) said why rule no_sectors s x l m) (sym stored) by-rule in
    let by-call = subst (λ (x : Outcome). Meets x said why rule no_sectors s t l m) (is-start (facts o past) com_id object method args is-object is-method) by-store in
    let by-args = subst (λ (x : List Tree). Meets (called_manager (facts o past) com_id object method x) said why rule no_sectors s t l m) (sym (values_trees call.args.items)) by-call in
    subst (λ (x : Erasure). Meets (called_manager (facts o past) com_id object method (values_of (trees call.args.items))) said why rule x s t l m) (sym none) by-args

-- Properties
is-properties : (f : Facts) (com_id : ℕ) (object method : Uid) (args : List Tree) → object ≡ session_manager → method ≡ properties → properties_told f com_id args ≡ called_manager f com_id object method args
is-properties f com_id object method args h k =
    ap (λ (u : Uid). called_manager f com_id u properties args) (sym h) ∙ ap (λ (u : Uid). called_manager f com_id object u args) (sym k)

told-met : (s : Stored) (l : Live) (com_id : ℕ) (said : Message) (x : Option HostLimits) → Meets (says (told_deed com_id x) said) said None None no_sectors s s l (record l { beside = beside_after (told_deed com_id x) l.beside })
told-met s l com_id said None = record { answer = refl; denied = refl; rule = refl; erases = refl; store = refl; sessions = record { next = refl; at = λ n. refl }; beside = refl }
told-met s l com_id said (Some limits) = record { answer = refl; denied = refl; rule = refl; erases = refl; store = refl; sessions = record { next = refl; at = λ n. refl }; beside = refl }

pub properties-met : (s : Stored) (l m : Live) (com_id : ℕ) (object method : Uid) (call : Call) (said : Message) (why : Option Why) (rule : Option Rule) (erasure : Erasure)
    → object ≡ session_manager → method ≡ properties
    → said ≡ properties_message s.config.profile (channel_of l.beside com_id).limits (map tree call.args.items)
    → m ≡ record l { beside = beside_after (properties_deed s.config.profile com_id (channel_of l.beside com_id).limits (map tree call.args.items)) l.beside }
    → why ≡ None → rule ≡ None → erasure ≡ no_sectors
    → (o : Origin) (past : List Event) → KeepsStore s o past → KeepsSessions l past → l.beside ≡ beside past
    → Meets (called_manager (facts o past) com_id object method (values_of (trees call.args.items))) said why rule erasure s s l m
properties-met s l m com_id object method call said why rule erasure is-object is-method answered kept reasons ruled none o past ks kl here =
    let args = map tree call.args.items in
    let limits = (channel_of l.beside com_id).limits in
    let base = told-met s l com_id (properties_message s.config.profile limits args) (host_told s.config.profile limits args) in
    let by-answer = subst (λ (x : Message). Meets (properties_with s.config.profile com_id limits args) x None None no_sectors s s l (record l { beside = beside_after (properties_deed s.config.profile com_id limits args) l.beside })) (sym answered) base in
    let by-live = subst (λ (x : Live). Meets (properties_with s.config.profile com_id limits args) said None None no_sectors s s l x) (sym kept) by-answer in
    let by-facts = subst (λ (x : Outcome). Meets x said None None no_sectors s s l m)
    (ap (λ (c : Config). properties_with c.profile com_id limits args) ks.config ∙ ap (λ (b : Beside). properties_with o.tables.config.profile com_id (channel_of b com_id).limits args) here) by-live in
    let by-call = subst (λ (x : Outcome). Meets x said None None no_sectors s s l m) (is-properties (facts o past) com_id object method args is-object is-method) by-facts in
    let by-args = subst (λ (x : List Tree). Meets (called_manager (facts o past) com_id object method x) said None None no_sectors s s l m) (sym (values_trees call.args.items)) by-call in
    let by-reason = subst (λ (x : Option Why). Meets (called_manager (facts o past) com_id object method (values_of (trees call.args.items))) said x None no_sectors s s l m) (sym reasons) by-args in
    let by-rule = subst (λ (x : Option Rule). Meets (called_manager (facts o past) com_id object method (values_of (trees call.args.items))) said why x no_sectors s s l m) (sym ruled) by-reason in
    subst (λ (x : Erasure). Meets (called_manager (facts o past) com_id object method (values_of (trees call.args.items))) said why rule x s s l m) (sym none) by-rule

-- ---- what was read

-- a fault that is not want of memory is the reading's
pub fault-is : (e : TokenError) (read : Result Message TokenError) → (e ≡ OutOfMemory → ⊥) → Fails e read → read ≡ Err e
fault-is OutOfMemory read n h = absurd (n refl)
fault-is _ read n h = h

pub read-in : (read r : Result Message TokenError) (session : SessionId) (said : Answered) (s t : Stored) (l m : Live) → read ≡ r → OfSession (λ f its. in_session f its r) session said s t l m → OfSession (λ f its. in_session f its read) session said s t l m
read-in read r session said s t l m h g = subst (λ (x : Result Message TokenError). OfSession (λ f its. in_session f its x) session said s t l m) (sym h) g

-- what a payload has for a session, by what is kept and by the past
item-as : (tokens : List ℕ) (session : SessionId) (said : Answered) (s t : Stored) (l m : Live)
    → OfSession (λ f its. in_session f its (item_in s.config.profile tokens)) session said s t l m
    → OfSession (λ f its. in_session f its (item_in f.config.profile tokens)) session said s t l m
item-as tokens session said s t l m g = λ o acts its ks kl block lives same.
    subst (λ (config : Config). AnswersAs (in_session (facts o (log o acts)) its (item_in config.profile tokens)) said s t l m)
    ks.config (g o acts its ks kl block lives same)

pub ended : (tokens : List ℕ) (session : SessionId) (said : Answered) (s t : Stored) (l m : Live)
    → ends_session s.config.profile tokens ≡ true
    → OfSession (λ f its. says (Ended its.sp) end_session) session said s t l m
    → OfSession (λ f its. in_session f its (item_in f.config.profile tokens)) session said s t l m
ended tokens session said s t l m is g =
    item-as tokens session said s t l m
    (read-in (item_in s.config.profile tokens) (Ok end_session) session said s t l m
    (ap (λ (b : Bool). if b then Ok end_session else message_in tokens) is) g)

pub unended : (tokens : List ℕ) (session : SessionId) (said : Answered) (s t : Stored) (l m : Live)
    → ends_session s.config.profile tokens ≡ false
    → OfSession (λ f its. in_session f its (message_in tokens)) session said s t l m
    → OfSession (λ f its. in_session f its (item_in f.config.profile tokens)) session said s t l m
unended tokens session said s t l m is g =
    item-as tokens session said s t l m
    (read-in (item_in s.config.profile tokens) (message_in tokens) session said s t l m
    (ap (λ (b : Bool). if b then Ok end_session else message_in tokens) is) g)

pub read-by : (read r : Result Message TokenError) (com_id : ℕ) (said : Answered) (s t : Stored) (l m : Live) → read ≡ r → OfManager (λ f. to_manager f com_id r) said s t l m → OfManager (λ f. to_manager f com_id read) said s t l m
read-by read r com_id said s t l m h g = subst (λ (x : Result Message TokenError). OfManager (λ f. to_manager f com_id x) said s t l m) (sym h) g

-- ---- a Get of columns, as most are written

pub get-met : (s t : Stored) (l m : Live) (session : SessionId) (tokens : List ℕ) (get : PlainGet) (said : Answered)
    → IsPlainGet tokens get
    → Fulfils (outcome_in s session (judged (standing_in s l session) (uid_of get.object) (uid_of get.method) (Some (GetCells get.first get.last)))) said s t l m
    → OfSession (λ f its. in_session f its (message_in tokens)) session said s t l m
get-met s t l m session tokens get said is fulfils =
    let asked : Fulfils (outcome_in s session (judged_with s l session (uid_of get.object) (uid_of get.method) (values_of (columns_named get.first get.last)))) said s t l m =
    subst (λ (ask : Option Ask). Fulfils (outcome_in s session (judged (standing_in s l session) (uid_of get.object) (uid_of get.method) ask)) said s t l m) (sym (is.asks s.config.profile session.sp)) fulfils in
    read-in (message_in tokens) (Ok (plain_get get)) session said s t l m is.read
    (λ o acts its ks kl block lives same.
    let here : Fulfils (outcome_in s (id_of its) (judged_with s l (id_of its) (uid_of get.object) (uid_of get.method) (values_of (columns_named get.first get.last)))) said s t l m =
    subst (λ (id : SessionId). Fulfils (outcome_in s id (judged_with s l id (uid_of get.object) (uid_of get.method) (values_of (columns_named get.first get.last)))) said s t l m) same asked in
    subst (λ (x : Outcome). AnswersAs x said s t l m)
    (kept_call_law o acts s l its (uid_of get.object) (uid_of get.method) (columns_named get.first get.last) ks kl block lives)
    here.met)

pub get-carried : (s t : Stored) (l m : Live) (session : SessionId) (get : PlainGet) (said : Answered)
    → Fulfils (outcome_in s session (judged (standing_in s l session) (uid_of get.object) (uid_of get.method) (Some (GetCells get.first get.last)))) said s t l m
    → is_carried (message said.reply) ≡ true
get-carried s t l m session get said h =
    carried-as (message said.reply) _ h.met.answer
    (call_carried (rows_in_force s) session.sp (standing_in s l session) (uid_of get.object) (uid_of get.method) (Some (GetCells get.first get.last)))

-- an answer that changes nothing
pub unchanged : (x : Message) (said : Answered) (s : Stored) (l : Live) → message said.reply ≡ x → said.denied ≡ None → said.rule ≡ None → said.erases ≡ no_sectors → AnswersAs (says Unchanged x) said s s l l
unchanged x said s l h k r w = record { answer = h; denied = k; rule = r; erases = w; store = refl; sessions = record { next = refl; at = λ n. refl }; beside = refl }

-- an answer of a refusal by a rule, which changes nothing
pub ruled : (x : Message) (rule : Rule) (said : Answered) (s : Stored) (l : Live) → message said.reply ≡ x → said.denied ≡ None → said.rule ≡ Some rule → said.erases ≡ no_sectors → AnswersAs (refuses_item x rule) said s s l l
ruled x rule said s l h k r w = record { answer = h; denied = k; rule = r; erases = w; store = refl; sessions = record { next = refl; at = λ n. refl }; beside = refl }

-- ---- the end of a transaction

not-false : (b : Bool) → (b ≡ false → ⊥) → b ≡ true
not-false true h = refl
not-false false h = absurd (h refl)

pub unequal : false ≡ true → ⊥
unequal h = cc

-- what is kept of a transaction, by the past
open-same : (p : Option Transaction) (n : ℕ) → is_open p n ≡ is_of n (option_map (λ t. t.tsn) p)
open-same None n = refl
open-same (Some t) n = refl

has-open : (o : Origin) (past : List Event) (s : Stored) (its : Begun) (b : Bool) → KeepsStore s o past → is_open (part s its.sp).pending its.number ≡ b → has_open (facts o past) its ≡ b
has-open o past s its b ks is =
    ap (is_of its.number) (sym (ks.parts its.sp).transaction) ∙ sym (open-same (part s its.sp).pending its.number) ∙ is

owner-is : (p : Option Transaction) (n : ℕ) → (is_open p n ≡ false → ⊥) → (its : Transaction) × (p ≡ Some its) × (its.tsn ≡ n)
owner-is None n h = absurd (h refl)
owner-is (Some t) n h = (t, refl, eqb-true t.tsn n (not-false (t.tsn == n) h))

-- one that is open, which 0 commits
commits-here : (o : Origin) (past : List Event) (its : Begun) (number : ℕ) (said : Answered) (s t : Stored) (live : Live) → KeepsStore s o past → number ≡ 0
    → (is_open (part s its.sp).pending its.number ≡ false → ⊥) → t ≡ at_part its.sp (part_commit its.number) s
    → message said.reply ≡ end 0 → said.denied ≡ None → said.rule ≡ None → said.erases ≡ no_sectors
    → AnswersAs (ends_on its.sp number (has_open (facts o past) its)) said s t live live
commits-here o past its number said s t live ks zeroed shown made reply denied rule erases =
    let is : is_open (part s its.sp).pending its.number ≡ true = not-false _ shown in
    let own = owner-is (part s its.sp).pending its.number shown in
    subst (λ (n : ℕ). AnswersAs (ends_on its.sp n (has_open (facts o past) its)) said s t live live) (sym zeroed)
    (subst (λ (b : Bool). AnswersAs (ends_on its.sp 0 b) said s t live live) (sym (has-open o past s its true ks is))
    (record {
      answer = reply;
      denied = denied;
      rule = rule;
      erases = erases;
      store = (own.0, own.1, made ∙ ap (λ (n : ℕ). at_part its.sp (part_commit n) s) (sym own.2));
      sessions = record { next = refl; at = λ n. refl };
      beside = refl;
    }))

pub commits : (session : SessionId) (number : ℕ) (said : Answered) (s t : Stored) (live : Live) → number ≡ 0
    → (is_open (part s session.sp).pending session.tsn ≡ false → ⊥) → t ≡ at_part session.sp (part_commit session.tsn) s
    → message said.reply ≡ end 0 → said.denied ≡ None → said.rule ≡ None → said.erases ≡ no_sectors
    → OfSession (λ f its. ends_on its.sp number (has_open f its)) session said s t live live
commits session number said s t live zeroed shown made reply denied rule erases = λ o acts its ks kl block lives same.
    commits-here o (log o acts) its number said s t live ks zeroed
    (subst (λ (x : SessionId). is_open (part s x.sp).pending x.tsn ≡ false → ⊥) same shown)
    (subst (λ (x : SessionId). t ≡ at_part x.sp (part_commit x.tsn) s) same made)
    reply denied rule erases

-- and any other number aborts
aborts-here : (o : Origin) (past : List Event) (its : Begun) (number : ℕ) (said : Answered) (s t : Stored) (live : Live) → KeepsStore s o past → (number ≡ 0 → ⊥)
    → (is_open (part s its.sp).pending its.number ≡ false → ⊥) → t ≡ at_part its.sp part_close s
    → message said.reply ≡ end 1 → said.denied ≡ None → said.rule ≡ None → said.erases ≡ no_sectors
    → AnswersAs (ends_on its.sp number (has_open (facts o past) its)) said s t live live
aborts-here o past its zero said s t live ks some shown made reply denied rule erases = absurd (some refl)
aborts-here o past its (suc n) said s t live ks some shown made reply denied rule erases =
    subst (λ (b : Bool). AnswersAs (ends_on its.sp (suc n) b) said s t live live) (sym (has-open o past s its true ks (not-false _ shown)))
    (record {
      answer = reply;
      denied = denied;
      rule = rule;
      erases = erases;
      store = made;
      sessions = record { next = refl; at = λ n. refl };
      beside = refl;
    })

pub aborts : (session : SessionId) (number : ℕ) (said : Answered) (s t : Stored) (live : Live) → (number ≡ 0 → ⊥)
    → (is_open (part s session.sp).pending session.tsn ≡ false → ⊥) → t ≡ at_part session.sp part_close s
    → message said.reply ≡ end 1 → said.denied ≡ None → said.rule ≡ None → said.erases ≡ no_sectors
    → OfSession (λ f its. ends_on its.sp number (has_open f its)) session said s t live live
aborts session number said s t live some shown made reply denied rule erases = λ o acts its ks kl block lives same.
    aborts-here o (log o acts) its number said s t live ks some
    (subst (λ (x : SessionId). is_open (part s x.sp).pending x.tsn ≡ false → ⊥) same shown)
    (subst (λ (x : SessionId). t ≡ at_part x.sp part_close s) same made)
    reply denied rule erases

-- and none that is open
pub ends-none : (session : SessionId) (number : ℕ) (said : Answered) (s t : Stored) (live : Live)
    → is_open (part s session.sp).pending session.tsn ≡ false → t ≡ s
    → message said.reply ≡ end transaction_failure → said.denied ≡ None → said.rule ≡ Some NoneOpen → said.erases ≡ no_sectors
    → OfSession (λ f its. ends_on its.sp number (has_open f its)) session said s t live live
ends-none session number said s t live shut stays reply denied rule erases = λ o acts its ks kl block lives same.
    let here : is_open (part s its.sp).pending its.number ≡ false = subst (λ (x : SessionId). is_open (part s x.sp).pending x.tsn ≡ false) same shut in
    subst (λ (b : Bool). AnswersAs (ends_on its.sp number b) said s t live live) (sym (has-open o (log o acts) s its false ks here))
    (subst (λ (x : Stored). AnswersAs (ends_on its.sp number false) said s x live live) (sym stays)
    (ruled (end transaction_failure) NoneOpen said s live reply denied rule erases))
