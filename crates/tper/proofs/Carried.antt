-- Each answer can be carried by a response: that to a call, that to a StartSession, and that to Properties.
use Rattle.std.proofs.Common.{◌≡◌, ℕ, ◌+◌, ◌^◌, ◌<◌, ◌≤◌, Bool, true, false, not, ltb, List, [], ◌∷◌, ◌++◌, length, Option, None, Some, refl, subst, cond, arith, inl, inr, ◌&&◌}
use Rattle.std.specs.Prelude.{◌==◌, ◌-◌, ◌||◌, ◌&&◌, suc, min, max, codes, nat_le, nat_lt, Result, Ok, Err}
use Rattle.std.specs.Int.{w64, to_be_bytes}
use Rattle.std.proofs.Math.Nat.{min-le_left, min-le_right, max-le}
use Rattle.std.proofs.lemmas.Bool.{ltb-true, leb-true, le-leb, lt-ltb}
use Rattle.std.proofs.lemmas.Bool.Decides.{nat_tests}
use Rattle.std.proofs.lemmas.List.{length-append}
use Rattle.tcg_tokens.specs.Tree.{Tree, number, bytes, list, trees_of}
use Rattle.tcg_tokens.specs.Message.{begin, end}
use Rattle.tcg_tokens.specs.Length.{len_of}
use Rattle.tcg_tokens.specs.Spelling.{header, significant, number_spelling, bytes_spelling, spelling_of, spellings_of, status_spelling, item_spelling_of}
use Rattle.tcg_tokens.specs.Writable.{fits_number}
use Rattle.tcg_tokens.proofs.Writings.{length_significant}
use Rattle.tcg_tokens.proofs.Tokens.{bool_cases}
use Rattle.sp_cells.specs.declared.names.Uid.{Uid}
use Rattle.sp_cells.specs.declared.names.Sp.{Sp}
use Rattle.sp_cells.specs.Flat.{LookUp}
use Rattle.ace_eval.specs.Aces.{acl_at}
use Rattle.sp_tables.specs.RowNames.{rows_of_table}
use Rattle.methods.specs.Tables.{rows_asked, uids_tree}
use Rattle.sp_cells.specs.Names.{session_manager, sync_session, properties, table_of}
use Rattle.audit.specs.declared.reason.AttemptFailure.{AttemptFailure}
use Rattle.audit.specs.declared.reason.AttemptFailure.TheVariants.{WrongPin, LockedOut, Disabled, Blocked, Unknown}
use Rattle.audit.specs.declared.reason.Why.{Why}
use Rattle.transactions.specs.Stored.{Stored}
use Rattle.tcg_calls.specs.Carried.{is_carried}
use Rattle.tcg_calls.specs.CellValues.{number_in}
use Rattle.tcg_calls.specs.Limits.{most_response}
use Rattle.tcg_calls.specs.Statuses.{success, not_authorized, sp_busy, no_sessions_available, invalid_parameter, transaction_failure, response_overflow, authority_locked_out, fail}
use Rattle.tcg_calls.specs.declared.call_shapes.ask.Ask.{Ask}
use Rattle.tcg_calls.specs.declared.call_shapes.ask.Ask.TheVariants.{GetCells, GetBytes, SetCells, SetBytes, Authenticate, Activate, Revert, GenKey, RevertSp, Next, GetAcl, Random, Other}
use Rattle.sessions.specs.declared.opening.Opening.{Opening}
use Rattle.sessions.specs.declared.opening.StartVerdict.TheVariants.{Refused, Attempted}
use Rattle.sessions.specs.Answers.{rows_in_force}
use Rattle.sessions.specs.Attempts.{attempt_failure}
use Rattle.sessions.specs.Live.{Live, lives_on}
use Rattle.basics.specs.declared.profile.Profile.{Profile}
use Rattle.basics.specs.declared.profile.Profile.TheVariants.{Base, Field, Opal}
use Rattle.sessions.specs.Properties.{property, sized_properties, properties_list, is_property, takes_properties, told_values, first_value, limit_told, limits_told, told_by, host_told, properties_call, properties_answer, properties_message}
use Rattle.sessions.specs.declared.beside.HostLimits.{HostLimits}
use Rattle.sessions.specs.Beside.{IsSmall}
use Rattle.std.specs.List.{list_all}
use Rattle.sessions.specs.Starts.{sp_named, is_in_use, is_full, is_host, opening_verdict_on, verdict, opening_of, host_among, host_of, sync_message, reply_to, start_reply}
use Rattle.methods.specs.Said.{reply_of, attempt_reply}
use Rattle.sessions.specs.Deeds.{Setting}
use Rattle.sp_cells.specs.ByteTables.{bytes_of_table, table_begin}
use Rattle.methods.specs.Kinds.{kind_of, byte_table_of}
use Rattle.methods.specs.Effects.{ask_at, last_row, sp_of_row}
use Rattle.sp_cells.specs.Numbers.{key_number}
use Rattle.methods.specs.Erasures.{is_wholly_locked}
use Rattle.methods.specs.Judgement.{Standing, Judgement, Refuses, Gives, Draws, fits, draws, Activates, Reverts, RevertsSp, erases, reverts_sp, denial, gives, listing, bytes_between, bytes_given, to_set, makes, unless_open, does_ask, does, unless_denied, judged, rows_told, acl_told}
use Rattle.methods.specs.Calls.{outcome_of}
use Rattle.audit.specs.declared.rules.rule.Rule.TheVariants.{NotInUse, SpBusy, NoNumber, OutsideTable, TooLong, GlobalLocked, ManyRandomBytes}
use Rattle.audit.specs.declared.rules.rule.Rule.{Rule}

-- ---- the answers without results, and those of one number

bare_success : is_carried (reply_of [] success) ≡ true
unfolding number_spelling
bare_success = refl

bare_not_authorized : is_carried (reply_of [] not_authorized) ≡ true
unfolding number_spelling
bare_not_authorized = refl

bare_invalid : is_carried (reply_of [] invalid_parameter) ≡ true
unfolding number_spelling
bare_invalid = refl

bare_overflow : is_carried (reply_of [] response_overflow) ≡ true
unfolding number_spelling
bare_overflow = refl

bare_locked_out : is_carried (reply_of [] authority_locked_out) ≡ true
unfolding number_spelling
bare_locked_out = refl

pub bare_fail : is_carried (reply_of [] fail) ≡ true
unfolding number_spelling
bare_fail = refl

zero_success : is_carried (reply_of (number 0 ∷ []) success) ≡ true
unfolding number_spelling
zero_success = refl

one_success : is_carried (reply_of (number 1 ∷ []) success) ≡ true
unfolding number_spelling
one_success = refl

-- ---- a call

-- what a judgement is answered
abbrev Told : LookUp → Sp → Judgement → Type 0
Told rows sp j = is_carried (outcome_of rows sp j).said ≡ true

fitting : (rows : LookUp) (sp : Sp) (results : List Tree) (b short : Bool) → is_carried (reply_of results success) ≡ b → Told rows sp (cond (b && short) (Gives results) (Refuses response_overflow TooLong))
fitting rows sp results true true h = h
fitting rows sp results true false h = bare_overflow
fitting rows sp results false short h = bare_overflow

given : (rows : LookUp) (sp : Sp) (room : ℕ) (results : List Tree) → Told rows sp (gives room results)
given rows sp room results = fitting rows sp results (is_carried (reply_of results success)) (nat_le (len_of (reply_of results success)) room) refl

drawing : (rows : LookUp) (sp : Sp) (count : ℕ) (results : List Tree) (b short : Bool) → is_carried (reply_of results success) ≡ b → Told rows sp (cond (b && short) (Draws count results) (Refuses response_overflow TooLong))
drawing rows sp count results true true h = h
drawing rows sp count results true false h = bare_overflow
drawing rows sp count results false short h = bare_overflow

drawn_carried : (rows : LookUp) (sp : Sp) (room : ℕ) (random : ℕ → List ℕ) (count : ℕ) → Told rows sp (draws room random count)
drawn_carried rows sp room random count = by_count (nat_lt 32 count)
  where
    results : List Tree
    results = bytes (random count) ∷ []

    by_count : (b : Bool) → Told rows sp (cond b (Refuses invalid_parameter ManyRandomBytes) (cond (fits room results) (Draws count results) (Refuses response_overflow TooLong)))
    by_count true = bare_invalid
    by_count false = drawing rows sp count results (is_carried (reply_of results success)) (nat_le (len_of (reply_of results success)) room) refl

rows_carried : (rows : LookUp) (sp : Sp) (room : ℕ) (past_end too_long : Bool) (results : List Tree) → Told rows sp (cond past_end (Refuses invalid_parameter OutsideTable) (cond too_long (Refuses response_overflow TooLong) (gives room results)))
rows_carried rows sp room true too_long results = bare_invalid
rows_carried rows sp room false true results = bare_overflow
rows_carried rows sp room false false results = given rows sp room results

bytes_carried : (rows : LookUp) (sp : Sp) (room : ℕ) (byte : ℕ → ℕ) (size first : ℕ) (to : Option ℕ) → Told rows sp (bytes_given room byte size first to)
bytes_carried rows sp room byte size first to =
    let last : ℕ = last_row size to in
    rows_carried rows sp room ((size == 0) || (nat_le size last || nat_lt last first)) (nat_lt room (last + 1 - first)) (bytes_between byte first last)

set_carried : (rows : LookUp) (sp : Sp) (o : Result Setting Rule) → Told rows sp (makes o)
set_carried rows sp (Err rule) = bare_invalid
set_carried rows sp (Ok st) = bare_success

attempt_carried : (o : Option AttemptFailure) → is_carried (attempt_reply o) ≡ true
attempt_carried None = one_success
attempt_carried (Some LockedOut) = bare_locked_out
attempt_carried (Some WrongPin) = zero_success
attempt_carried (Some Disabled) = zero_success
attempt_carried (Some Blocked) = zero_success
attempt_carried (Some Unknown) = zero_success

inside_carried : (rows : LookUp) (sp : Sp) (b : Bool) (j : Judgement) → Told rows sp j → Told rows sp (unless_open b j)
inside_carried rows sp true j h = bare_fail
inside_carried rows sp false j h = h

erases_carried : (rows : LookUp) (sp : Sp) (o : Option ℕ) → Told rows sp (erases o)
erases_carried rows sp None = bare_fail
erases_carried rows sp (Some range) = bare_success

revert_carried : (rows : LookUp) (sp : Sp) (b keep : Bool) → Told rows sp (cond b (Refuses fail GlobalLocked) (RevertsSp keep))
revert_carried rows sp true keep = bare_fail
revert_carried rows sp false keep = bare_success

told_carried : (rows : LookUp) (sp : Sp) (room : ℕ) (o : Option (List Uid)) → Told rows sp (rows_told room o)
told_carried rows sp room None = bare_invalid
told_carried rows sp room (Some names) = given rows sp room (uids_tree names ∷ [])

acl_carried : (rows : LookUp) (sp : Sp) (room : ℕ) (o : Option (List Uid)) → Told rows sp (acl_told room o)
acl_carried rows sp room None = bare_invalid
acl_carried rows sp room (Some acl) = given rows sp room (uids_tree acl ∷ [])

ask_carried : (rows : LookUp) (sp : Sp) (its : Standing) (object : Uid) (ask : Ask) → Told rows sp (does_ask its object ask)
ask_carried rows sp its object (GetCells first last) = given rows sp its.room (listing its object first last)
ask_carried rows sp its object (GetBytes first last) = bytes_carried rows sp its.room (λ row. its.byte (table_begin its.sizes (byte_table_of (kind_of its.sp object)) + row)) (bytes_of_table its.sizes (byte_table_of (kind_of its.sp object))) first last
ask_carried rows sp its object (SetCells ps) = set_carried rows sp (to_set its object (SetCells ps))
ask_carried rows sp its object (SetBytes at octets) = set_carried rows sp (to_set its object (SetBytes at octets))
ask_carried rows sp its object (Authenticate authority proof) = attempt_carried (attempt_failure its.block rows sp authority proof)
ask_carried rows sp its object Activate = inside_carried rows sp its.is_open Activates bare_success
ask_carried rows sp its object Revert = inside_carried rows sp its.is_open (Reverts (sp_of_row object)) bare_success
ask_carried rows sp its object GenKey = inside_carried rows sp its.is_open (erases (key_number object)) (erases_carried rows sp (key_number object))
ask_carried rows sp its object (RevertSp keep) = inside_carried rows sp its.is_open (reverts_sp its.rows keep) (revert_carried rows sp (keep && is_wholly_locked its.rows) keep)
ask_carried rows sp its object (Next after count) = told_carried rows sp its.room (rows_asked after count (rows_of_table its.sp (table_of object)))
ask_carried rows sp its object (GetAcl about what) = acl_carried rows sp its.room (acl_at its.profile its.sp about what)
ask_carried rows sp its object (Random count) = drawn_carried rows sp its.room its.random count
ask_carried rows sp its object Other = bare_fail

unless_carried : (rows : LookUp) (sp : Sp) (denied : Option Why) (j : Judgement) → Told rows sp j → Told rows sp (unless_denied denied j)
unless_carried rows sp None j h = h
unless_carried rows sp (Some why) j h = bare_not_authorized

pub call_carried : (rows : LookUp) (sp : Sp) (its : Standing) (object method : Uid) (ask : Option Ask) → is_carried (outcome_of rows sp (judged its object method ask)).said ≡ true
call_carried rows sp its object method None = bare_invalid
call_carried rows sp its object method (Some ask) = unless_carried rows sp (denial its object method ask) (does its object ask) (ask_carried rows sp its object (ask_at its.sp object ask))

-- ---- an answer of the session manager

-- a header is one byte, two or four
length_header : (is_bytes : Bool) (len : ℕ) → length (header is_bytes len) ≤ 4
length_header is_bytes len =
    elim (bool_cases (ltb len 16)) [
      | inl w ↦ rw w (omega arith)
      | inr w1 ↦
          elim (bool_cases (ltb len 2048)) [
            | inl w ↦ rw (w1, w) (omega arith)
            | inr w ↦ rw (w1, w) (omega arith)
          ]
    ]

-- a number is spelled by a header and at most eight bytes
length_number : (n : ℕ) → length (number_spelling n) ≤ 12
unfolding number_spelling
length_number n =
    elim (bool_cases (ltb n 64)) [
      | inl w ↦ rw w (omega arith)
      | inr w ↦
          let content : List ℕ = significant (to_be_bytes w64 n) in
          rw (w, length-append) (omega (arith, length_header false (length content), length_significant (to_be_bytes w64 n)))
    ]

-- the two names of the call, and the lengths of its parts
manager_bytes : length (bytes_spelling (to_be_bytes w64 session_manager.0)) ≡ 9
unfolding bytes_spelling
manager_bytes = refl

sync_bytes : length (bytes_spelling (to_be_bytes w64 sync_session.0)) ≡ 9
unfolding bytes_spelling
sync_bytes = refl

length_parts : (object method host tsn status : List ℕ) → length (object ++ (method ++ (240 ∷ (((host ++ (tsn ++ [])) ++ 241 ∷ []) ++ (249 ∷ status))))) ≡ length object + length method + length host + length tsn + length status + 3
length_parts object method host tsn status =
    let a : length (object ++ (method ++ (240 ∷ (((host ++ (tsn ++ [])) ++ 241 ∷ []) ++ (249 ∷ status))))) ≡ length object + (length method + suc ((length host + (length tsn + 0)) + 1 + suc (length status))) =
    simp length-append in
    omega (arith, a)

length_status : (a b c : List ℕ) → length (240 ∷ ((a ++ (b ++ (c ++ []))) ++ 241 ∷ [])) ≡ length a + length b + length c + 2
length_status a b c =
    let e : length (240 ∷ ((a ++ (b ++ (c ++ []))) ++ 241 ∷ [])) ≡ suc ((length a + (length b + (length c + 0))) + 1) = simp length-append in
    omega (arith, e)

length_sync : (host tsn status : ℕ) → length (item_spelling_of (sync_message host tsn status)) ≤ 100
length_sync host tsn status =
    let parts = length_parts (bytes_spelling (to_be_bytes w64 session_manager.0)) (bytes_spelling (to_be_bytes w64 sync_session.0)) (number_spelling host) (number_spelling tsn) (status_spelling (status ∷ 0 ∷ 0 ∷ [])) in
    let states = length_status (number_spelling status) (number_spelling 0) (number_spelling 0) in
    omega (arith, parts, states, manager_bytes, sync_bytes, length_number host, length_number tsn, length_number status, length_number 0)

-- a SyncSession with numbers of 32 bits can be carried
sync_carried : (host tsn status : ℕ) → host < 2 ^ 32 → tsn < 2 ^ 32 → status < 2 ^ 32 → is_carried (sync_message host tsn status) ≡ true
sync_carried host tsn status h t k =
    let fits_host : fits_number host ≡ true = lt-ltb _ _ (omega arith) in
    let fits_tsn : fits_number tsn ≡ true = lt-ltb _ _ (omega arith) in
    let fits_status : fits_number status ≡ true = lt-ltb _ _ (omega arith) in
    let is_short : nat_le (len_of (sync_message host tsn status)) most_response ≡ true =
    le-leb _ _ (omega (arith, length_sync host tsn status, min-le_left (length (item_spelling_of (sync_message host tsn status))) (2 ^ 64 - 1))) in
    rw (fits_host, fits_tsn, fits_status) is_short

-- ---- a StartSession

host_bound : (o : Option ℕ) → host_among o < 2 ^ 32
host_bound None = omega arith
host_bound (Some n) =
    elim (bool_cases (is_host n)) [
      | inl w ↦ rw w (ltb-true _ _ w)
      | inr w ↦ rw w (omega arith)
    ]

host_of_bound : (args : List Tree) → host_of args < 2 ^ 32
host_of_bound [] = omega arith
host_of_bound (t ∷ ts) = host_bound (number_in t)

attempt_answered : (host next : ℕ) (sp : Sp) (o : Option AttemptFailure) → host < 2 ^ 32 → next < 2 ^ 32 → is_carried (reply_to host next (Attempted sp o)) ≡ true
attempt_answered host next sp None h k = sync_carried host next success h k (omega arith)
attempt_answered host next sp (Some LockedOut) h k = sync_carried host 0 authority_locked_out h (omega arith) (omega arith)
attempt_answered host next sp (Some WrongPin) h k = sync_carried host 0 not_authorized h (omega arith) (omega arith)
attempt_answered host next sp (Some Disabled) h k = sync_carried host 0 not_authorized h (omega arith) (omega arith)
attempt_answered host next sp (Some Blocked) h k = sync_carried host 0 not_authorized h (omega arith) (omega arith)
attempt_answered host next sp (Some Unknown) h k = sync_carried host 0 not_authorized h (omega arith) (omega arith)

-- after the tests in their order: the SP is in use, no session lives on it, and a number is left
tests_answered : (used busy full : Bool) (host next : ℕ) (sp : Sp) (o : Option AttemptFailure) → host < 2 ^ 32 → (full ≡ false → next < 2 ^ 32) → is_carried (reply_to host next (cond used (Refused invalid_parameter NotInUse) (cond busy (Refused sp_busy SpBusy) (cond full (Refused no_sessions_available NoNumber) (Attempted sp o))))) ≡ true
tests_answered true busy full host next sp o h k = sync_carried host 0 invalid_parameter h (omega arith) (omega arith)
tests_answered false true full host next sp o h k = sync_carried host 0 sp_busy h (omega arith) (omega arith)
tests_answered false false true host next sp o h k = sync_carried host 0 no_sessions_available h (omega arith) (omega arith)
tests_answered false false false host next sp o h k = attempt_answered host next sp o h (k refl)

number_left : (l : Live) → is_full l ≡ false → l.next < 2 ^ 32
number_left l e = let f : nat_lt 0xffffffff l.next ≡ false = e in grind (arith, nat_tests)

named_answered : (look : LookUp) (l : Live) (host : ℕ) (o : Opening) (sp : Option Sp) → host < 2 ^ 32 → is_carried (reply_to host l.next (opening_verdict_on look l o sp)) ≡ true
named_answered look l host o None h = sync_carried host 0 invalid_parameter h (omega arith) (omega arith)
named_answered look l host o (Some sp) h =
    tests_answered (not (is_in_use look sp)) (lives_on sp l) (is_full l) host l.next sp (attempt_failure l.beside.block look sp o.authority o.proof) h (number_left l)

opening_answered : (look : LookUp) (l : Live) (host : ℕ) (o : Option Opening) → host < 2 ^ 32 → is_carried (reply_to host l.next (verdict look l o)) ≡ true
opening_answered look l host None h = sync_carried host 0 invalid_parameter h (omega arith) (omega arith)
opening_answered look l host (Some o) h = named_answered look l host o (sp_named o.spid) h

pub start_carried : (s : Stored) (l : Live) (args : List Tree) → is_carried (start_reply s l args) ≡ true
start_carried s l args = opening_answered (rows_in_force s) l (host_of args) (opening_of s.config.profile args) (host_of_bound args)

-- ---- Properties

bare_properties : (profile : Profile) (b : Bool) → is_carried (cond b (properties_call (list (trees_of (properties_list profile)) ∷ []) success) (properties_call [] invalid_parameter)) ≡ true
unfolding number_spelling bytes_spelling
bare_properties Base true = refl
bare_properties Field true = refl
bare_properties Opal true = refl
bare_properties profile false = refl

-- with what the host takes: no property is long
length_bytes : (b : List ℕ) → length (bytes_spelling b) ≤ length b + 4
unfolding bytes_spelling
length_bytes b =
    let e : length (header true (length b) ++ b) ≡ length (header true (length b)) + length b = simp length-append in
    omega (arith, e, length_header true (length b))

named_shape : (a b : List ℕ) → length (242 ∷ (a ++ (b ++ 243 ∷ []))) ≡ length a + length b + 2
named_shape a b =
    let e : length (242 ∷ (a ++ (b ++ 243 ∷ []))) ≡ suc (length a + (length b + 1)) = simp length-append in
    omega (arith, e)

length_property : (name : List ℕ) (value : ℕ) → length (spelling_of (property name value)) ≤ length name + 18
length_property name value =
    omega (arith, named_shape (bytes_spelling name) (number_spelling value), length_bytes name, length_number value)

six_shape : (a b c d e f : List ℕ) → length (a ++ (b ++ (c ++ (d ++ (e ++ (f ++ [])))))) ≡ length a + length b + length c + length d + length e + length f
six_shape a b c d e f =
    let x : length (a ++ (b ++ (c ++ (d ++ (e ++ (f ++ [])))))) ≡ length a + (length b + (length c + (length d + (length e + (length f + 0))))) = simp length-append in
    omega (arith, x)

length_sized : (limits : HostLimits) → length (spellings_of (trees_of (sized_properties limits))) ≤ 204
length_sized limits =
    let shape = six_shape (spelling_of (property (codes "MaxMethods") 1)) (spelling_of (property (codes "MaxSubpackets") 1)) (spelling_of (property (codes "MaxPacketSize") limits.packet)) (spelling_of (property (codes "MaxPackets") 1)) (spelling_of (property (codes "MaxComPacketSize") limits.com_packet)) (spelling_of (property (codes "MaxIndTokenSize") limits.token)) in
    omega (arith, shape, length_property (codes "MaxMethods") 1, length_property (codes "MaxSubpackets") 1, length_property (codes "MaxPacketSize") limits.packet, length_property (codes "MaxPackets") 1, length_property (codes "MaxComPacketSize") limits.com_packet, length_property (codes "MaxIndTokenSize") limits.token)

length_listed : (profile : Profile) → nat_le (length (spellings_of (trees_of (properties_list profile)))) 1000 ≡ true
unfolding number_spelling bytes_spelling
length_listed Base = refl
length_listed Field = refl
length_listed Opal = refl

properties_bytes : length (bytes_spelling (to_be_bytes w64 properties.0)) ≡ 9
unfolding bytes_spelling
properties_bytes = refl

zero_number : length (number_spelling 0) ≡ 1
unfolding number_spelling
zero_number = refl

told_shape : (o m p n z s : List ℕ) → length (248 ∷ (o ++ (m ++ ((240 ∷ (((240 ∷ (p ++ 241 ∷ [])) ++ ((242 ∷ (n ++ ((240 ∷ (z ++ 241 ∷ [])) ++ 243 ∷ []))) ++ [])) ++ 241 ∷ [])) ++ (249 ∷ s))))) ≡ length o + length m + length p + length n + length z + length s + 10
told_shape o m p n z s =
    let e : length (248 ∷ (o ++ (m ++ ((240 ∷ (((240 ∷ (p ++ 241 ∷ [])) ++ ((242 ∷ (n ++ ((240 ∷ (z ++ 241 ∷ [])) ++ 243 ∷ []))) ++ [])) ++ 241 ∷ [])) ++ (249 ∷ s)))))
    ≡ suc (length o + (length m + (suc ((suc (length p + 1) + (suc (length n + (suc (length z + 1) + 1)) + 0)) + 1) + suc (length s)))) = simp length-append in
    omega (arith, e)

length_told : (profile : Profile) (limits : HostLimits) → length (item_spelling_of (properties_call (properties_answer profile (Some limits)) success)) ≤ 1300
length_told profile limits =
    let shape = told_shape (bytes_spelling (to_be_bytes w64 session_manager.0)) (bytes_spelling (to_be_bytes w64 properties.0)) (spellings_of (trees_of (properties_list profile))) (number_spelling 0) (spellings_of (trees_of (sized_properties limits))) (status_spelling (success ∷ 0 ∷ 0 ∷ [])) in
    let states = length_status (number_spelling success) (number_spelling 0) (number_spelling 0) in
    let listed : length (spellings_of (trees_of (properties_list profile))) ≤ 1000 = leb-true _ _ (length_listed profile) in
    omega (arith, shape, states, listed, length_sized limits, manager_bytes, properties_bytes, zero_number)

limits_short : (profile : Profile) (limits : HostLimits) → nat_le (len_of (properties_call (properties_answer profile (Some limits)) success)) most_response ≡ true
limits_short profile limits =
    le-leb _ _ (omega (arith, length_told profile limits, min-le_left (length (item_spelling_of (properties_call (properties_answer profile (Some limits)) success))) (2 ^ 64 - 1)))

limits_carried : (profile : Profile) (limits : HostLimits) → IsSmall limits → is_carried (properties_call (properties_answer profile (Some limits)) success) ≡ true
limits_carried profile limits small = by_profile profile
  where
    fits_com_packet : fits_number limits.com_packet ≡ true
    fits_com_packet = lt-ltb _ _ small.com_packet_small

    fits_packet : fits_number limits.packet ≡ true
    fits_packet = lt-ltb _ _ small.packet_small

    fits_token : fits_number limits.token ≡ true
    fits_token = lt-ltb _ _ small.token_small

    by_profile : (p : Profile) → is_carried (properties_call (properties_answer p (Some limits)) success) ≡ true
    by_profile Base = rw (fits_com_packet, fits_packet, fits_token) (limits_short Base limits)
    by_profile Field = rw (fits_com_packet, fits_packet, fits_token) (limits_short Field limits)
    by_profile Opal = rw (fits_com_packet, fits_packet, fits_token) (limits_short Opal limits)

limit_small : (before least most : ℕ) (x : Option ℕ) → before < 2 ^ 64 → least < 2 ^ 64 → most < 2 ^ 64 → limit_told before least most x < 2 ^ 64
limit_small before least most None h g k = h
limit_small before least most (Some value) h g k =
    let below : min value most ≤ 2 ^ 64 - 1 = omega (arith, min-le_right value most) in
    let least_below : least ≤ 2 ^ 64 - 1 = omega arith in
    let both : max least (min value most) ≤ 2 ^ 64 - 1 = max-le least_below below in
    omega (arith, both)

told_small : (before : HostLimits) (values : List Tree) (b : Bool) (limits : HostLimits) → IsSmall before → cond b (Some (limits_told before values)) None ≡ Some limits → IsSmall limits
told_small before values false limits small h = cc
told_small before values true limits small h = subst IsSmall (same h) (record {
  com_packet_small = limit_small before.com_packet 2048 65536 (first_value (codes "MaxComPacketSize") values) small.com_packet_small (omega arith) (omega arith);
  packet_small = limit_small before.packet 2028 65516 (first_value (codes "MaxPacketSize") values) small.packet_small (omega arith) (omega arith);
  token_small = limit_small before.token 1992 65480 (first_value (codes "MaxIndTokenSize") values) small.token_small (omega arith) (omega arith);
})
  where
    same : {x y : HostLimits} → Some x ≡ Some y → x ≡ y
    same g = cc

host_small : (profile : Profile) (before limits : HostLimits) (x : Option (List Tree)) → IsSmall before → told_by profile before x ≡ Some limits → IsSmall limits
host_small Base before limits None small h = cc
host_small Base before limits (Some values) small h = cc
host_small Field before limits None small h = cc
host_small Field before limits (Some values) small h = cc
host_small Opal before limits None small h = cc
host_small Opal before limits (Some values) small h = told_small before values (list_all is_property values) limits small h

answer_carried : (profile : Profile) (before : HostLimits) (args : List Tree) → IsSmall before → (b : Bool) (x : Option HostLimits) → host_told profile before args ≡ x → is_carried (cond b (properties_call (properties_answer profile x) success) (properties_call [] invalid_parameter)) ≡ true
answer_carried profile before args small b None is = bare_properties profile b
answer_carried profile before args small false (Some limits) is = bare_properties profile false
answer_carried profile before args small true (Some limits) is = limits_carried profile limits (host_small profile before limits (told_values args) small is)

pub properties_carried : (profile : Profile) (before : HostLimits) (args : List Tree) → IsSmall before → is_carried (properties_message profile before args) ≡ true
properties_carried profile before args small = answer_carried profile before args small (takes_properties profile args) (host_told profile before args) refl

-- ---- the other items

pub begin_carried : is_carried (begin 0) ≡ true
unfolding number_spelling
begin_carried = refl

pub begin_refused_carried : is_carried (begin transaction_failure) ≡ true
unfolding number_spelling
begin_refused_carried = refl

pub end_carried : is_carried (end 0) ≡ true
unfolding number_spelling
end_carried = refl

pub abort_carried : is_carried (end 1) ≡ true
unfolding number_spelling
abort_carried = refl

pub end_refused_carried : is_carried (end transaction_failure) ≡ true
unfolding number_spelling
end_refused_carried = refl
