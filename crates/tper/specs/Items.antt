-- What comes of an item, whatever past is kept.
use Rattle.std.specs.Prelude.{◌≡◌, List, Some}
use Rattle.tcg_tokens.specs.Message.{message}
use Rattle.transactions.specs.declared.change.SessionId.{SessionId}
use Rattle.transactions.specs.Stored.{Stored}
use Rattle.sessions.specs.Live.{Live}
use Rattle.methods.specs.declared.outcome.Outcome.{Outcome as Answered}
use Rattle.history.specs.Opening.{Origin}
use Rattle.sessions.specs.Deeds.{Begun, Outcome}
use Rattle.history.specs.Events.{Event}
use Rattle.history.specs.Readers.{session_on, beside}
use Rattle.history.specs.Facts.{Facts, facts}
use Rattle.history.specs.History.{Act, log}
use Rattle.history.specs.KeptStore.{KeepsStore}
use Rattle.history.specs.KeptSessions.{KeepsSessions, id_of}
use Rattle.sessions.specs.Made.{Meets}

-- The answer, and what was made of the store and of the sessions, is what an outcome says.
abbrev pub AnswersAs : Outcome → Answered → Stored → Stored → Live → Live → Type 0
AnswersAs out said s t l m = Meets out (message said.reply) said.denied said.rule said.erases s t l m

-- What an outcome of the session manager comes to.
abbrev pub OfManager : (Facts → Outcome) → Answered → Stored → Stored → Live → Live → Type 0
OfManager outcome said s t l m =
    (o : Origin) (past : List Event) → KeepsStore s o past → KeepsSessions l past
    → l.beside ≡ beside past
    → AnswersAs (outcome (facts o past)) said s t l m

-- What an outcome in a live session comes to.
abbrev pub OfSession : (Facts → Begun → Outcome) → SessionId → Answered → Stored → Stored → Live
    → Live → Type 0
OfSession outcome session said s t l m =
    (o : Origin) (acts : List Act) (its : Begun)
    → KeepsStore s o (log o acts) → KeepsSessions l (log o acts)
    → l.beside ≡ beside (log o acts)
    → session_on (log o acts) its.sp ≡ Some its → session ≡ id_of its
    → AnswersAs (outcome (facts o (log o acts)) its) said s t l m
