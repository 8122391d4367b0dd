-- What is told behind a rule of what was sent: who holds the SP, what ended the session, which argument is at fault. The
-- texts are this project's:
--   because act 3: StartSession of session 4096 on LockingSP by client 7, line 4
--   lifted by: the end of session 4096, or a reset
--   because act 5: a power cycle, which ended session 4096 on LockingSP, line 6
--   because act 5: end of session 4096 on LockingSP by client 7 in session 4096, line 6
--   because session 4096 on LockingSP lives with another number of its host, or on another ComID
--   because Write of StartSession is not 1: each session of this drive reads and writes
--   lifted by: Random of at most 32 bytes
--   lifted by: the ComID, two bytes of zeros, and 00000002h
--   lifted by: a StartSession
use Rattle.std.specs.Prelude.{◌≡◌, ℕ, ◌==◌, Bool, true, false, ◌&&◌, List, [], ◌∷◌, ◌++◌, Option, None, Some, is_some, codes, decimal, if◌then◌else◌}
use Rattle.compacket.specs.Frames.{reading as frame_in}
use Rattle.sp_cells.specs.declared.names.Sp.{Sp}
use Rattle.sp_cells.specs.declared.names.Sp.TheVariants.{Admin, Locking}
use Rattle.sp_cells.specs.Names.{session_manager, start_session}
use Rattle.audit.specs.declared.rules.rule.Rule.{Rule}
use Rattle.audit.specs.declared.rules.rule.Rule.TheVariants as rules
use Rattle.tcg_tokens.specs.Tree.{Tree}
use Rattle.tcg_calls.specs.Asks.{uid_in}
use Rattle.tcg_calls.specs.CellValues.{number_in}
use Rattle.basics.specs.declared.profile.Profile.{Profile}
use Rattle.sessions.specs.Starts.{is_host, opening_of}
use Rattle.reasons.specs.declared.explained.onset.Counted.{Counted}
use Rattle.reasons.specs.declared.explained.onset.Source.{Source}
use Rattle.reasons.specs.declared.explained.onset.Cause.{Cause}
use Rattle.reasons.specs.declared.explained.onset.Cause.TheVariants.{SetIn, CommittedIn, ResetBy, NoCause}
use Rattle.reasons.specs.declared.explained.onset.Onset.{Onset}
use Rattle.reasons.specs.declared.explained.onset.Onset.TheVariants.{AtOpening, AtAct}
use Rattle.reasons.specs.declared.explained.lives.SpLife.{SpLife}
use Rattle.reasons.specs.declared.details.StartFault.{StartFault}
use Rattle.reasons.specs.declared.details.StartFault.TheVariants as faults
use Rattle.reasons.specs.Called.{called_object}
use Rattle.reasons.specs.Remedies.{sp_object}
use Rattle.reasons.specs.Reasons.{worded_number, counted_words, reset_kind_text, client_text}
use Rattle.reasons.specs.Rulings.{because_text}
use Rattle.reasons.specs.Sent.{SentCall, call_sent, session_of_frame, sp_wanted}
use Rattle.reasons.specs.Asked.{Seen, is_last, asked_text}
use Rattle.reasons.specs.Untaken.{untaken_text}
use Rattle.reasons.specs.Arguments.{arguments_text}

-- `session 4096 on LockingSP`
abbrev pub session_words : Sp → ℕ → List ℕ
session_words sp number =
    worded_number (codes "session ") number ++ codes " on " ++ called_object (sp_object sp)

-- what an act did, with its number and its line, as a line with its line feed
abbrev pub act_line : Counted → ℕ → Source → List ℕ → List ℕ
act_line counted number source words =
    because_text (worded_number (counted_words counted) number ++ codes ": " ++ words
    ++ worded_number (codes ", line ") source.line)

-- who holds an SP: the session that lives there, since the act that began it
abbrev pub started_words : Sp → ℕ → Source → List ℕ
started_words sp session source =
    codes "StartSession of " ++ session_words sp session
    ++ worded_number (codes " by client ") source.client

abbrev pub freed_line : ℕ → List ℕ
freed_line session =
    worded_number (codes "lifted by: the end of session ") session ++ codes ", or a reset"
    ++ 10 ∷ []

abbrev pub busy_since : Counted → Sp → ℕ → Onset → List ℕ
busy_since counted sp session AtOpening = []
busy_since counted sp session (AtAct number source cause) =
    act_line counted number source (started_words sp session source) ++ freed_line session

abbrev pub busy_if : Counted → Sp → Option Onset → Option ℕ → List ℕ
busy_if counted sp None last = []
busy_if counted sp (Some onset) None = []
busy_if counted sp (Some onset) (Some session) = busy_since counted sp session onset

abbrev pub busy_text : Counted → (Sp → SpLife) → Option Sp → List ℕ
busy_text counted lives None = []
busy_text counted lives (Some sp) = busy_if counted sp (lives sp).busy (lives sp).last

-- what ended a session
abbrev pub ended_words : Sp → ℕ → Source → Cause → List ℕ
ended_words sp session source (SetIn its) =
    codes "end of " ++ session_words sp session ++ client_text source its
ended_words sp session source (CommittedIn its) =
    codes "end of " ++ session_words sp session ++ client_text source its
ended_words sp session source (ResetBy kind) =
    reset_kind_text kind ++ codes ", which ended " ++ session_words sp session
ended_words sp session source NoCause = codes "end of " ++ session_words sp session

abbrev pub ended_since : Counted → Sp → ℕ → Onset → List ℕ
ended_since counted sp session AtOpening = []
ended_since counted sp session (AtAct number source cause) =
    act_line counted number source (ended_words sp session source cause)

abbrev pub elsewhere_line : Sp → ℕ → List ℕ
elsewhere_line sp session =
    because_text (session_words sp session
    ++ codes " lives with another number of its host, or on another ComID")

abbrev pub ended_if : Counted → Sp → ℕ → Option Onset → List ℕ
ended_if counted sp session None = elsewhere_line sp session
ended_if counted sp session (Some onset) = ended_since counted sp session onset

-- where the number that is named is that of the last session of an SP
abbrev pub lost_on : Counted → (Sp → SpLife) → ℕ → Sp → List ℕ
lost_on counted lives session sp =
    if is_last session (lives sp).last then ended_if counted sp session (lives sp).free else []

abbrev pub lost_text : Counted → (Sp → SpLife) → ℕ → List ℕ
lost_text counted lives session =
    lost_on counted lives session Admin ++ lost_on counted lives session Locking

-- which of its required arguments a StartSession lacks, or has not in their shape (Core 2.01, section 5.2.3.1)
abbrev pub writes_fault : Option ℕ → Option StartFault
writes_fault None = Some faults.Write
writes_fault (Some writes) = if writes == 1 then None else Some faults.Write

abbrev pub sp_fault : Tree → Tree → Option StartFault
sp_fault spid writes =
    if is_some (uid_in spid) then writes_fault (number_in writes) else Some faults.Spid

abbrev pub is_host_number : Option ℕ → Bool
is_host_number None = false
is_host_number (Some host) = is_host host

abbrev pub start_fault : List Tree → Option StartFault
start_fault [] = Some faults.TooFew
start_fault (host ∷ []) = Some faults.TooFew
start_fault (host ∷ spid ∷ []) = Some faults.TooFew
start_fault (host ∷ spid ∷ writes ∷ rest) =
    if is_host_number (number_in host) then sp_fault spid writes else Some faults.HostSession

abbrev pub start_words : StartFault → List ℕ
start_words faults.TooFew = codes "StartSession wants HostSessionID, SPID and Write"
start_words faults.HostSession = codes "HostSessionID of StartSession is no number of 32 bits"
start_words faults.Spid = codes "SPID of StartSession is no name of eight bytes"
start_words faults.Write =
    codes "Write of StartSession is not 1: each session of this drive reads and writes"

abbrev pub start_line : Option StartFault → List ℕ
start_line None = []
start_line (Some fault) = because_text (start_words fault)

abbrev pub is_start_call : SentCall → Bool
is_start_call c = c.object.0 == session_manager.0 && c.method.0 == start_session.0

abbrev pub shape_text : Option SentCall → List ℕ
shape_text None = []
shape_text (Some c) = if is_start_call c then start_line (start_fault c.args) else []

-- what is taken in the place of what was not: fewer random bytes (Opal SSC 2.01, section 4.2.6), the reset of a stack (Core
-- 2.01, section 3.3.4.7.5), and what begins a session again
abbrev pub lifted_text : List ℕ → List ℕ
lifted_text words = codes "lifted by: " ++ words ++ 10 ∷ []

abbrev pub few_bytes_words : List ℕ
few_bytes_words = codes "Random of at most 32 bytes"

abbrev pub stack_reset_words : List ℕ
stack_reset_words = codes "the ComID, two bytes of zeros, and 00000002h"

abbrev pub anew_words : List ℕ
anew_words = codes "a StartSession"

-- behind the line of a rule; nothing where more is not known
abbrev pub detail_text : Counted → Seen → (Sp → SpLife) → List ℕ → Rule → List ℕ
detail_text counted seen lives payload rules.SpBusy =
    busy_text counted lives (sp_wanted (call_sent payload))
detail_text counted seen lives payload rules.NoSession =
    lost_text counted lives (session_of_frame (frame_in payload))
detail_text counted seen lives payload rules.Shape =
    shape_text (call_sent payload) ++ arguments_text seen.profile lives payload
detail_text counted seen lives payload rules.WrongValue =
    asked_text seen lives payload rules.WrongValue ++ untaken_text seen.profile lives payload
detail_text counted seen lives payload rules.OutsideTable =
    asked_text seen lives payload rules.OutsideTable
detail_text counted seen lives payload rules.TooLong = asked_text seen lives payload rules.TooLong
detail_text counted seen lives payload (rules.NotSet fault) =
    asked_text seen lives payload (rules.NotSet fault)
detail_text counted seen lives payload rules.ManyRandomBytes = lifted_text few_bytes_words
detail_text counted seen lives payload rules.NoStackReset = lifted_text stack_reset_words
detail_text counted seen lives payload rules.NoSubpacket = lifted_text anew_words
detail_text counted seen lives payload _ = []

abbrev pub details_text : Counted → Seen → (Sp → SpLife) → List ℕ → Option Rule → List ℕ
details_text counted seen lives payload None = []
details_text counted seen lives payload (Some rule) = detail_text counted seen lives payload rule

-- What is told of a StartSession is so: with such an argument it asks for nothing.
abbrev pub StartFaultLaw : Type 0
StartFaultLaw =
    (profile : Profile) (args : List Tree) (fault : StartFault) → start_fault args ≡ Some fault
    → opening_of profile args ≡ None
