-- A method takes effect exactly where it is granted to the session's authorities in its view.
use Rattle.std.specs.Prelude.{◌≡◌, ℕ, ◌==◌, ◌↔◌, ◌&&◌, Bool, true, false, not, is_some, List, Option, Some, None, Ok}
use Rattle.compacket.specs.Frames.{Frame, reading as frame_in}
use Rattle.tcg_tokens.specs.Message.{call}
use Rattle.tcg_tokens.specs.Tree.{Trees}
use Rattle.trusted_cmds.specs.declared.command.Command.{Command}
use Rattle.trusted_cmds.specs.declared.command.Command.TheVariants.{Send}
use Rattle.tcg_calls.specs.Asks.{uid_of}
use Rattle.sessions.specs.Deeds.{Begun}
use Rattle.tcg_calls.specs.declared.call_shapes.ask.Ask.{Ask}
use Rattle.methods.specs.Laws.{IsGranted, takes_effect}
use Rattle.methods.specs.Judgement.{asked, does}
use Rattle.history.specs.Facts.{Facts, session_named, standing}
use Rattle.history.specs.Decisions.{is_trusted, is_session_com_id}
use Rattle.history.specs.Looked.{IsLookedAtBy}
use Rattle.history.specs.Tcg.{is_sent, answers, is_manager, judgement_on, tcg, item_in}
use Rattle.methods.specs.Calls.{outcome_of}
use Rattle.history.specs.History.{Act, event_by}

-- An accepted FIS whose command this drive looks at.
abbrev pub IsLookedAt : Facts → Act → Command → Option ℕ → Type 0
IsLookedAt = IsLookedAtBy tcg

-- An act sends a frame on its ComID, on which no response waits, and which it fits: it is taken.
pub record IsSent (f : Facts) (act : Act) (com_id : ℕ) (frame : Frame) : Type 0 where
  pub protocol : ℕ
  pub blocks : ℕ
  pub dma : Bool
  pub looked : IsLookedAt f act (Send protocol com_id blocks dma) None
  pub taken : is_sent f protocol com_id blocks ≡ true
  pub framed : frame_in looked.payload ≡ Ok frame
  pub addressed : (frame.com_id == com_id) ≡ true

-- And it has a call to a live session.
pub record IsCall (f : Facts) (act : Act) (session : Begun) (object method : List ℕ)
    (args : Trees) : Type 0 where
  pub com_id : ℕ
  pub frame : Frame
  pub sent : IsSent f act com_id frame
  pub no_manager : is_manager frame.session ≡ false
  pub named : session_named f com_id frame.session ≡ Some session
  pub status : List ℕ
  pub calls : item_in f.config.profile frame.payload ≡ Ok (call object method args status)

-- What is judged of it decides what it does and how it is answered.
abbrev pub CallLaw : Type 0
CallLaw =
    (f : Facts) (act : Act) (session : Begun) (object method : List ℕ) (args : Trees)
    (c : IsCall f act session object method args)
    → event_by f act
    ≡ answers c.com_id c.frame.session
    (outcome_of f.rows session.sp (judgement_on f session (uid_of object) (uid_of method) args))

-- And so, act by act: of a call of the right shape with valid values, the act does and answers what
-- its ask comes to exactly where it is granted.
abbrev pub ActEffectLaw : Type 0
ActEffectLaw =
    (f : Facts) (act : Act) (session : Begun) (object method : List ℕ) (args : Trees)
    (c : IsCall f act session object method args) (ask : Ask)
    → asked f.config.profile session.sp (uid_of object) (uid_of method) args ≡ Some ask
    → takes_effect (does (standing f session) (uid_of object) ask) ≡ true
    → (event_by f act
    ≡ answers c.com_id c.frame.session
    (outcome_of f.rows session.sp (does (standing f session) (uid_of object) ask)))
    ↔ IsGranted (standing f session) (uid_of object) (uid_of method) ask
