-- What a session sees and holds, by its number and its SP: by what is kept, and by the past.
use Rattle.std.specs.Prelude.{◌≡◌, ℕ, List, Option, None, Some, is_some, option_map, if◌then◌else◌}
use Rattle.basics.specs.declared.profile.Profile.{Profile}
use Rattle.sp_cells.specs.declared.names.Uid.{Uid}
use Rattle.sp_cells.specs.Flat.{LookUp}
use Rattle.ace_eval.specs.Truth.{has}
use Rattle.transactions.specs.declared.change.SessionId.{SessionId}
use Rattle.transactions.specs.Sights.{Sight, sight_of, committed_sight}
use Rattle.sessions.specs.Beside.{channel_of, room_of}
use Rattle.sessions.specs.Deeds.{Begun}
use Rattle.methods.specs.Effects.{live_holder}
use Rattle.history.specs.Opening.{Origin}
use Rattle.history.specs.Events.{Event}
use Rattle.history.specs.Readers.{session_on, authorities, in_force, view, beside}
use Rattle.history.specs.KeptSessions.{if_number}
use Rattle.tper.specs.Tper.{Tper}

-- The session of a number on an SP, if it lives there.
abbrev pub living_session : List Event → SessionId → Option Begun
living_session past id = if_number id.tsn (session_on past id.sp)

-- The rows by which its calls are judged: with what its open transaction makes of them (Core 2.01, section 3.3.9). Where it
-- does not live they are those in force.
abbrev pub rows_of_session : Origin → List Event → Option Begun → LookUp
rows_of_session o past None = in_force o past
rows_of_session o past (Some session) = view o past session.number

-- What it holds, if it lives.
abbrev pub held_of_session : List Event → Option Begun → Option (List Uid)
held_of_session past session = option_map (authorities past) session

-- How many bytes of tokens a response to it has room for, where it lives.
abbrev pub com_id_of_session : Option Begun → ℕ
com_id_of_session None = 0
com_id_of_session (Some session) = session.com_id

abbrev pub room_of_session : Profile → List Event → Option Begun → ℕ
room_of_session profile past session =
    room_of profile (channel_of (beside past) (com_id_of_session session)).limits

-- The same rows by what is kept.
abbrev pub sight_kept : Tper → SessionId → Sight
sight_kept t id =
    if is_some (live_holder t.live id) then sight_of t.store id else committed_sight t.store

-- The same authorities are held, in whatever order.
abbrev pub HoldsAlike : Option (List Uid) → Option (List Uid) → Type 0
HoldsAlike None None = Unit {0}
HoldsAlike (Some held) (Some other) = (a : Uid) → has held a ≡ has other a
HoldsAlike None (Some other) = ⊥
HoldsAlike (Some held) None = ⊥
