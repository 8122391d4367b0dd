-- What comes of an item, by what is kept, is what comes of it by the past: its answer, and what it
-- makes of the store and of the sessions.
use Rattle.std.specs.Prelude.{◌≡◌, ℕ, List, Some}
use Rattle.sp_cells.specs.declared.names.Uid.{Uid}
use Rattle.tcg_tokens.specs.Tree.{Tree, Trees}
use Rattle.tcg_calls.specs.Named.{values_of}
use Rattle.transactions.specs.Stored.{Stored}
use Rattle.shadow_mbr.specs.Erasure.{no_sectors}
use Rattle.sessions.specs.Live.{Live, session_at, AreNumbered}
use Rattle.sessions.specs.Starts.{start_reply, start_denied, start_rule, start_stored, start_at, start_next}
use Rattle.methods.specs.Calls.{judged_with, outcome_of, outcome_in}
use Rattle.history.specs.Opening.{Origin}
use Rattle.sessions.specs.Deeds.{Begun}
use Rattle.history.specs.Events.{Event}
use Rattle.history.specs.Readers.{session_on, beside}
use Rattle.history.specs.Facts.{facts}
use Rattle.history.specs.Tcg.{judgement_on, started}
use Rattle.history.specs.History.{Act, log}
use Rattle.history.specs.KeptStore.{KeepsStore}
use Rattle.sessions.specs.Made.{Meets}
use Rattle.history.specs.KeptSessions.{KeepsSessions, id_of}

-- A method that a live session calls.
abbrev pub CallLaw : Type 0
CallLaw =
    (o : Origin) (acts : List Act) (s : Stored) (l : Live) (session : Begun) (object method : Uid)
    (args : Trees) → KeepsStore s o (log o acts) → KeepsSessions l (log o acts)
    → l.beside ≡ beside (log o acts)
    → session_on (log o acts) session.sp ≡ Some session
    → outcome_in s (id_of session) (judged_with s l (id_of session) object method (values_of args))
    ≡ outcome_of (facts o (log o acts)).rows session.sp
    (judgement_on (facts o (log o acts)) session object method args)

-- A StartSession.
abbrev pub StartLaw : Type 0
StartLaw =
    (o : Origin) (past : List Event) (s : Stored) (l m : Live) (com_id : ℕ) (args : List Tree)
    → KeepsStore s o past → KeepsSessions l past → AreNumbered l
    → l.beside ≡ beside past → m.beside ≡ l.beside
    → m.next ≡ start_next s l args
    → ((n : ℕ) → session_at m n ≡ start_at s l com_id args n)
    → Meets (started (facts o past) com_id args)
    (start_reply s l args) (start_denied s l args) (start_rule s l args) no_sectors
    s (start_stored s l args) l m
