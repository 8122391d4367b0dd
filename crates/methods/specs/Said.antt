-- What a call is answered (Core 2.01, section 3.3.7.1).
use Rattle.std.specs.Prelude.{ℕ, List, [], ◌∷◌, Option, None, Some}
use Rattle.tcg_tokens.specs.Tree.{Tree, number, trees_of}
use Rattle.tcg_tokens.specs.Message.{Message, reply}
use Rattle.sp_cells.specs.declared.names.Uid.{Uid}
use Rattle.sp_cells.specs.declared.names.Sp.{Sp}
use Rattle.audit.specs.declared.reason.AttemptFailure.{AttemptFailure}
use Rattle.audit.specs.declared.reason.AttemptFailure.TheVariants.{WrongPin, LockedOut, Disabled, Blocked, Unknown}
use Rattle.audit.specs.declared.reason.Why.{Why}
use Rattle.audit.specs.declared.reason.Why.TheVariants.{AttemptFailed}
use Rattle.tcg_calls.specs.Statuses.{success, authority_locked_out}

abbrev pub reply_of : List Tree → ℕ → Message
reply_of results status = reply (trees_of results) (status ∷ 0 ∷ 0 ∷ [])

abbrev pub refusal_of : ℕ → Message
refusal_of status = reply_of [] status

abbrev pub done : Message
done = reply_of [] success

-- the answer to an attempt that fails so, or is right; and what denied it
abbrev pub attempt_reply : Option AttemptFailure → Message
attempt_reply None = reply_of (number 1 ∷ []) success
attempt_reply (Some LockedOut) = refusal_of authority_locked_out
attempt_reply (Some WrongPin) = reply_of (number 0 ∷ []) success
attempt_reply (Some Disabled) = reply_of (number 0 ∷ []) success
attempt_reply (Some Blocked) = reply_of (number 0 ∷ []) success
attempt_reply (Some Unknown) = reply_of (number 0 ∷ []) success

abbrev pub attempt_denied : Sp → Uid → Option AttemptFailure → Option Why
attempt_denied sp authority None = None
attempt_denied sp authority (Some failure) = Some (AttemptFailed sp authority failure)
