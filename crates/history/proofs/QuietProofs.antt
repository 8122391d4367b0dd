-- The items of this drive are quiet.
use Rattle.std.proofs.Common.{◌≡◌, ℕ, ◌==◌, Bool, true, false, ◌&&◌, ◌||◌, not, List, Option, Some, None, refl, cond}
use Rattle.std.specs.Prelude.{is_some, Result, Ok, Err}
use Rattle.compacket.specs.declared.session.Session.{Session}
use Rattle.compacket.specs.declared.error.FrameError.{FrameError}
use Rattle.compacket.specs.Frames.{Frame, reading as frame_in}
use Rattle.tcg_tokens.specs.Reading.{reading as message_in}
use Rattle.sessions.specs.Deeds.{Begun}
use Rattle.trusted_cmds.specs.declared.command.Command.TheVariants.{Send}
use Rattle.trusted_cmds.specs.BlockSid.{is_block_sid, block_asked, is_blocked}
use Rattle.device_data.specs.Discovery.{has_owner}
use Rattle.history.specs.Answers.{is_holding}
use Rattle.history.specs.Events.{Deed, Nothing, InSession, OfQueue, Wrote, Trimmed, Took, BlockedSid, Chose, PowerSet, WasReset, Event, did, ignores}
use Rattle.history.specs.Facts.{Facts, session_named}
use Rattle.history.specs.Decisions.{refuses, is_trusted, is_session_com_id, asks_stack}
use Rattle.history.specs.Tcg.{answers, to_manager, in_session, item_in, breaks_off, broken_off, is_discarded, manager_event, is_manager, to_session, framed, sent, tcg, blocks_sid, send_item, unsent, is_sent, unframed, unframed_in, broken_of, sent_by, stack_reset, stack_kept, stack_sent, send_other}
use Rattle.history.specs.Quiet.{is_quiet, IsQuiet}
use Rattle.audit.specs.declared.rules.rule.Rule.TheVariants.{SidKept, NoFrame, Discarded, BrokenOff}
use Rattle.compacket.specs.declared.session.Named.{Named}
use Rattle.device_data.specs.StackReset.{is_stack_reset}

either : (b : Bool) (x y : Event) → is_quiet x.deed ≡ true → is_quiet y.deed ≡ true → is_quiet (cond b x y).deed ≡ true
either true x y h g = h
either false x y h g = g

to_session-quiet : (f : Facts) (com_id : ℕ) (named : Session) (payload : List ℕ) (x : Option Begun) → is_quiet (to_session f com_id named payload x).deed ≡ true
to_session-quiet f com_id named payload None = refl
to_session-quiet f com_id named payload (Some s) = either (breaks_off f.config.profile (item_in f.config.profile payload)) (broken_off BrokenOff s.sp) (answers com_id named (in_session f s (item_in f.config.profile payload))) refl refl

unframed-quiet : (f : Facts) (com_id : ℕ) (broken : Option Named) → is_quiet (unframed f com_id broken).deed ≡ true
unframed-quiet f com_id None = refl
unframed-quiet f com_id (Some named) = either (named.com_id == com_id) (unframed_in (session_named f com_id named.session)) (ignores NoFrame) (by_session (session_named f com_id named.session)) refl
  where
    by_session : (x : Option Begun) → is_quiet (unframed_in x).deed ≡ true
    by_session None = refl
    by_session (Some s) = refl

sent-quiet : (f : Facts) (com_id : ℕ) (broken : Option Named) (r : Result Frame FrameError) → is_quiet (sent_by f com_id broken r).deed ≡ true
sent-quiet f com_id broken (Err e) = unframed-quiet f com_id broken
sent-quiet f com_id broken (Ok frame) =
    either (frame.com_id == com_id) (framed f com_id frame) (ignores NoFrame)
    (either (is_manager frame.session) (manager_event f com_id frame.session (message_in frame.payload)) (to_session f com_id frame.session frame.payload (session_named f com_id frame.session)) (either (is_discarded f.config.profile (message_in frame.payload)) (ignores Discarded) (answers com_id frame.session (to_manager f com_id (message_in frame.payload))) refl refl) (to_session-quiet f com_id frame.session frame.payload (session_named f com_id frame.session)))
    refl

pub tcg_quiet : IsQuiet tcg
tcg_quiet f protocol com_id blocks payload =
    either (is_block_sid f.config.profile (Send protocol com_id blocks true)) (blocks_sid f payload) (send_other f protocol com_id blocks payload)
    (either (has_owner f.rows || is_blocked f.beside.block) (refuses SidKept) (did (BlockedSid (block_asked payload))) refl refl)
    (either (asks_stack f.config.profile protocol com_id blocks) (stack_sent f com_id payload) (send_item f protocol com_id blocks payload)
    (either (is_stack_reset com_id payload) (stack_reset f com_id) (stack_kept com_id) refl refl)
    (either (is_sent f protocol com_id blocks) (sent f com_id payload) (refuses (unsent (is_some (f.waiting com_id)) protocol com_id blocks)) (sent-quiet f com_id (broken_of f.config.profile payload) (frame_in payload)) refl))

-- a quiet deed holds nothing, and is no write
pub quiet-none : (d : Deed) → is_quiet d ≡ true → is_holding d ≡ false
quiet-none Nothing h = refl
quiet-none (InSession deed response) h = refl
quiet-none (OfQueue deed) h = cc
quiet-none (Wrote lba bytes) h = refl
quiet-none (Trimmed extents) h = refl
quiet-none (Took com_id) h = refl
quiet-none (BlockedSid block) h = refl
quiet-none (Chose feature) h = refl
quiet-none (PowerSet in_standby) h = refl
quiet-none (WasReset kind) h = refl
