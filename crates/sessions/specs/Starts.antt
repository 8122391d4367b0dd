-- StartSession and its answer (Core 2.01, sections 5.2.3.1 and 5.2.3.2; the order of refusals is this drive's own).
use Rattle.std.specs.Prelude.{◌==◌, ◌+◌, ◌^◌, nat_lt, ℕ, Bool, true, false, ◌&&◌, not, List, [], ◌∷◌, Option, None, Some, is_some, if◌then◌else◌}
use Rattle.std.specs.Int.{w64, to_be_bytes}
use Rattle.basics.specs.declared.profile.Profile.{Profile}
use Rattle.basics.specs.declared.profile.Profile.TheVariants.{Base, Field, Opal}
use Rattle.tcg_tokens.specs.Tree.{Tree, number, trees_of}
use Rattle.tcg_tokens.specs.Message.{Message, call}
use Rattle.sp_cells.specs.declared.names.Sp.{Sp}
use Rattle.sp_cells.specs.declared.names.Sp.TheVariants.{Admin, Locking}
use Rattle.sp_cells.specs.declared.names.Uid.{Uid}
use Rattle.sp_cells.specs.Names.{anybody, admin_sp, locking_sp, session_manager, sync_session}
use Rattle.sp_cells.specs.ColumnNames.{life_cycle_state_column}
use Rattle.sp_cells.specs.Limits.{manufactured}
use Rattle.sp_cells.specs.Flat.{LookUp}
use Rattle.sp_cells.specs.Ranges.{number as number_at}
use Rattle.audit.specs.declared.reason.AttemptFailure.{AttemptFailure}
use Rattle.audit.specs.declared.reason.AttemptFailure.TheVariants.{WrongPin, LockedOut, Disabled, Blocked, Unknown}
use Rattle.audit.specs.declared.reason.Why.{Why}
use Rattle.audit.specs.declared.reason.Why.TheVariants.{AttemptFailed}
use Rattle.audit.specs.declared.rules.rule.Rule.{Rule}
use Rattle.audit.specs.declared.rules.rule.Rule.TheVariants.{Shape, UnknownSp, NotInUse, SpBusy, NoNumber}
use Rattle.tcg_calls.specs.Parameters.{host_challenge_parameter, host_signing_authority_parameter}
use Rattle.tcg_calls.specs.Named.{options, value_of, bytes_or_empty}
use Rattle.tcg_calls.specs.Asks.{uid_in}
use Rattle.tcg_calls.specs.CellValues.{number_in}
use Rattle.tcg_calls.specs.Statuses.{success, not_authorized, sp_busy, no_sessions_available, invalid_parameter, authority_locked_out}
use Rattle.sessions.specs.declared.opening.Opening.{Opening}
use Rattle.sessions.specs.declared.opening.StartVerdict.{StartVerdict}
use Rattle.sessions.specs.declared.opening.StartVerdict.TheVariants.{Refused, Attempted}
use Rattle.sessions.specs.Attempts.{attempt_failure}
use Rattle.sessions.specs.Live.{Live, Holder, lives_on, session_at}
use Rattle.sessions.specs.Gains.{first_held}
use Rattle.sessions.specs.Answers.{rows_in_force, after_attempt}
use Rattle.transactions.specs.Stored.{Stored}

-- the authority that signs: Anybody where none is named, and then there is no challenge
abbrev pub signing : Bool → Option Tree → Option Uid
signing challenged None = if challenged then None else Some anybody
signing challenged (Some t) = uid_in t

abbrev pub opening_by : ℕ → Uid → Option Uid → Option (List ℕ) → Option Opening
opening_by host spid None proof = None
opening_by host spid (Some authority) None = None
opening_by host spid (Some authority) (Some proof) =
    Some (record { host = host; spid = spid; authority = authority; proof = proof })

abbrev pub opening_named : ℕ → Uid → Option (List (ℕ × Tree)) → Option Opening
opening_named host spid None = None
opening_named host spid (Some ps) =
    opening_by host spid (signing (is_some (value_of host_challenge_parameter ps))
    (value_of host_signing_authority_parameter ps))
    (bytes_or_empty (value_of host_challenge_parameter ps))

-- the number that a host gives its session: 32 bits
abbrev pub is_host : ℕ → Bool
is_host n = nat_lt n (2 ^ 32)

abbrev pub opening_from : Option ℕ → Option Uid → Option ℕ → Option (List (ℕ × Tree))
    → Option Opening
opening_from (Some host) (Some spid) (Some writes) named =
    if is_host host && (writes == 1) then opening_named host spid named else None
opening_from _ _ _ named = None

-- the number that names SessionTimeout, the milliseconds after which a host asks for the session to end where nothing is sent
-- (Core 2.01, section 5.2.3.1); it has 32 bits, and changes nothing (this drive)
abbrev pub session_timeout_parameter : ℕ
session_timeout_parameter = 5

abbrev pub is_timeout : Option ℕ → Bool
is_timeout None = false
is_timeout (Some n) = nat_lt n (2 ^ 32)

abbrev pub is_timeout_if_any : Option Tree → Bool
is_timeout_if_any None = true
is_timeout_if_any (Some t) = is_timeout (number_in t)

-- what is assigned, where SessionTimeout is a number of 32 bits or absent
abbrev pub timed : Option (List (ℕ × Tree)) → Option (List (ℕ × Tree))
timed None = None
timed (Some ps) = if is_timeout_if_any (value_of session_timeout_parameter ps) then Some ps
    else None

-- the optional parameters that a StartSession has under a profile
abbrev pub start_parameters : List ℕ
start_parameters = host_challenge_parameter ∷ host_signing_authority_parameter ∷ []

abbrev pub opal_start_parameters : List ℕ
opal_start_parameters = host_challenge_parameter ∷ host_signing_authority_parameter
    ∷ session_timeout_parameter ∷ []

abbrev pub start_options : Profile → List Tree → Option (List (ℕ × Tree))
start_options Base rest = options start_parameters rest
start_options Field rest = options start_parameters rest
start_options Opal rest = timed (options opal_start_parameters rest)

-- what a StartSession asks: the host's number, the SP, Write, and at most each of its optional parameters
abbrev pub opening_of : Profile → List Tree → Option Opening
opening_of profile [] = None
opening_of profile (h ∷ []) = None
opening_of profile (h ∷ p ∷ []) = None
opening_of profile (h ∷ p ∷ w ∷ rest) =
    opening_from (number_in h) (uid_in p) (number_in w) (start_options profile rest)

-- the SP that a name names
abbrev pub sp_named : Uid → Option Sp
sp_named u = if u.0 == admin_sp.0 then Some Admin else if u.0 == locking_sp.0 then Some Locking
    else None

abbrev pub row_of_sp : Sp → Uid
row_of_sp Admin = admin_sp
row_of_sp Locking = locking_sp

-- the SP is in use, by the rows in force
abbrev pub is_in_use : LookUp → Sp → Bool
is_in_use look sp = number_at look Admin (row_of_sp sp) life_cycle_state_column == manufactured

-- no number is left for another session
abbrev pub is_full : Live → Bool
is_full l = nat_lt 0xffffffff l.next

abbrev pub opening_verdict_on : LookUp → Live → Opening → Option Sp → StartVerdict
opening_verdict_on look l o None = Refused invalid_parameter UnknownSp
opening_verdict_on look l o (Some sp) =
    if not (is_in_use look sp) then Refused invalid_parameter NotInUse else
    if lives_on sp l then Refused sp_busy SpBusy else
    if is_full l then Refused no_sessions_available NoNumber else
    Attempted sp (attempt_failure l.beside.block look sp o.authority o.proof)

-- what comes of a StartSession: a refusal, or an attempt on its authority
abbrev pub verdict : LookUp → Live → Option Opening → StartVerdict
verdict look l None = Refused invalid_parameter Shape
verdict look l (Some o) = opening_verdict_on look l o (sp_named o.spid)

-- the number that a host gave, or 0 where it gave none of 32 bits
abbrev pub host_among : Option ℕ → ℕ
host_among None = 0
host_among (Some n) = if is_host n then n else 0

abbrev pub host_of : List Tree → ℕ
host_of [] = 0
host_of (t ∷ ts) = host_among (number_in t)

-- SyncSession of the session manager
abbrev pub sync_message : ℕ → ℕ → ℕ → Message
sync_message host tsn status =
    call (to_be_bytes w64 session_manager.0) (to_be_bytes w64 sync_session.0)
    (trees_of (number host ∷ number tsn ∷ [])) (status ∷ 0 ∷ 0 ∷ [])

-- the status of an attempt that fails so
abbrev pub attempt_status : AttemptFailure → ℕ
attempt_status LockedOut = authority_locked_out
attempt_status WrongPin = not_authorized
attempt_status Disabled = not_authorized
attempt_status Blocked = not_authorized
attempt_status Unknown = not_authorized

-- the answer, why it was denied, which rule refused it, and what is left
abbrev pub reply_to : ℕ → ℕ → StartVerdict → Message
reply_to host tsn (Refused status rule) = sync_message host 0 status
reply_to host tsn (Attempted sp (Some f)) = sync_message host 0 (attempt_status f)
reply_to host tsn (Attempted sp None) = sync_message host tsn success

abbrev pub denied_by : Uid → StartVerdict → Option Why
denied_by authority (Refused status rule) = None
denied_by authority (Attempted sp (Some f)) = Some (AttemptFailed sp authority f)
denied_by authority (Attempted sp None) = None

-- which rule refused it
abbrev pub rule_of : StartVerdict → Option Rule
rule_of (Refused status rule) = Some rule
rule_of (Attempted sp f) = None

abbrev pub stored_by : Uid → StartVerdict → Stored → Stored
stored_by authority (Refused status rule) s = s
stored_by authority (Attempted sp f) s = after_attempt sp authority f s

-- the session that begins has the next number, and holds what its authority brings
abbrev pub begun_by : LookUp → ℕ → Opening → StartVerdict → Bool → Option Holder → Option Holder
begun_by look com_id o (Refused status rule) is_next before = before
begun_by look com_id o (Attempted sp (Some f)) is_next before = before
begun_by look com_id o (Attempted sp None) is_next before =
    if is_next then Some (record {
      sp = sp;
      com_id = com_id;
      host = o.host;
      held =
          first_held look sp o.authority;
    }) else before

abbrev pub next_by : StartVerdict → ℕ → ℕ
next_by (Refused status rule) next = next
next_by (Attempted sp (Some f)) next = next
next_by (Attempted sp None) next = next + 1

-- the same of what was asked; a call without its shape is refused
abbrev pub denied_with : Option Opening → StartVerdict → Option Why
denied_with None v = None
denied_with (Some o) v = denied_by o.authority v

abbrev pub stored_with : Option Opening → StartVerdict → Stored → Stored
stored_with None v s = s
stored_with (Some o) v s = stored_by o.authority v s

abbrev pub begun_with : LookUp → ℕ → Option Opening → StartVerdict → Bool → Option Holder
    → Option Holder
begun_with look com_id None v is_next before = before
begun_with look com_id (Some o) v is_next before = begun_by look com_id o v is_next before

-- what comes of one that has its shape, by the rows in force
abbrev pub opening_verdict : Stored → Live → Opening → StartVerdict
opening_verdict s l o = verdict (rows_in_force s) l (Some o)

-- what a StartSession with these arguments comes to, by the rows in force and the sessions that live
abbrev pub start_verdict : Stored → Live → List Tree → StartVerdict
start_verdict s l args = verdict (rows_in_force s) l (opening_of s.config.profile args)

-- its answer, why it was denied, which rule refused it, the store and the session of each number after it, and the next number
abbrev pub start_reply : Stored → Live → List Tree → Message
start_reply s l args = reply_to (host_of args) l.next (start_verdict s l args)

abbrev pub start_denied : Stored → Live → List Tree → Option Why
start_denied s l args = denied_with (opening_of s.config.profile args) (start_verdict s l args)

abbrev pub start_rule : Stored → Live → List Tree → Option Rule
start_rule s l args = rule_of (start_verdict s l args)

abbrev pub start_stored : Stored → Live → List Tree → Stored
start_stored s l args = stored_with (opening_of s.config.profile args) (start_verdict s l args) s

abbrev pub start_at : Stored → Live → ℕ → List Tree → ℕ → Option Holder
start_at s l com_id args n = begun_with (rows_in_force s) com_id (opening_of s.config.profile args)
    (start_verdict s l args) (l.next == n) (session_at l n)

abbrev pub start_next : Stored → Live → List Tree → ℕ
start_next s l args = next_by (start_verdict s l args) l.next
