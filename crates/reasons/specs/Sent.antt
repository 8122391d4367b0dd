-- What a payload carries: a call, and the session that its frame names.
use Rattle.std.specs.Prelude.{ℕ, ◌==◌, List, [], ◌∷◌, Option, None, Some, Result, Ok, Err, if◌then◌else◌}
use Rattle.compacket.specs.Frames.{Frame, reading as frame_in}
use Rattle.compacket.specs.declared.error.FrameError.{FrameError}
use Rattle.sp_cells.specs.declared.names.Sp.{Sp}
use Rattle.sp_cells.specs.declared.names.Uid.{Uid}
use Rattle.tcg_tokens.specs.Message.{Message, call, reply, end_session, begin, end}
use Rattle.tcg_tokens.specs.Reading.{reading as message_in}
use Rattle.tcg_tokens.specs.Tree.{Tree, tree, trees}
use Rattle.tcg_tokens.specs.declared.error.TokenError.{TokenError}
use Rattle.tcg_tokens.specs.declared.value.Call.{Call}
use Rattle.tcg_calls.specs.Asks.{uid_of}
use Rattle.tcg_calls.specs.Asks.{uid_in}
use Rattle.tcg_calls.specs.Named.{values_of}
use Rattle.sessions.specs.Starts.{sp_named}

-- a call, by what it is
pub record SentCall : Type 0 where
  pub object : Uid
  pub method : Uid
  pub args : List Tree

abbrev pub call_seen : Call → SentCall
call_seen c = record {
  object = uid_of c.object;
  method = uid_of c.method;
  args = values_of (trees c.args.items);
}

-- the call that a message is
abbrev pub call_of_message : Message → Option SentCall
call_of_message (call object method args status) =
    Some (record { object = uid_of object; method = uid_of method; args = values_of args })
call_of_message (reply results status) = None
call_of_message end_session = None
call_of_message (begin n) = None
call_of_message (end n) = None

abbrev pub call_of_reading : Result Message TokenError → Option SentCall
call_of_reading (Ok message) = call_of_message message
call_of_reading (Err fault) = None

-- the call of a frame
abbrev pub call_of_frame : Result Frame FrameError → Option SentCall
call_of_frame (Ok frame) = call_of_reading (message_in frame.payload)
call_of_frame (Err fault) = None

abbrev pub call_sent : List ℕ → Option SentCall
call_sent payload = call_of_frame (frame_in payload)

-- the number of the session that a frame names; 0 where there is none
abbrev pub session_of_frame : Result Frame FrameError → ℕ
session_of_frame (Ok frame) = frame.session.tsn
session_of_frame (Err fault) = 0

-- the SP that a StartSession names (Core 2.01, section 5.2.3.1, SPID)
abbrev pub sp_at : Option Uid → Option Sp
sp_at None = None
sp_at (Some spid) = sp_named spid

abbrev pub sp_of_args : List Tree → Option Sp
sp_of_args [] = None
sp_of_args (host ∷ []) = None
sp_of_args (host ∷ spid ∷ rest) = sp_at (uid_in spid)

abbrev pub sp_wanted : Option SentCall → Option Sp
sp_wanted None = None
sp_wanted (Some c) = sp_of_args c.args
