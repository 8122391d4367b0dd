-- What an attempt to authenticate is answered, and what it leaves (Core 2.01, section 5.3.4.1).
use Rattle.std.specs.Prelude.{◌+◌, ◌-◌, ◌^◌, min, ℕ, List, Option, None, Some, option_map}
use Rattle.sp_cells.specs.declared.names.Sp.{Sp}
use Rattle.sp_cells.specs.declared.names.Uid.{Uid}
use Rattle.sp_cells.specs.ColumnNames.{tries_column}
use Rattle.sp_cells.specs.Flat.{LookUp}
use Rattle.sp_cells.specs.Ranges.{number}
use Rattle.audit.specs.declared.reason.AttemptFailure.{AttemptFailure}
use Rattle.audit.specs.declared.reason.AttemptFailure.TheVariants.{WrongPin, LockedOut, Disabled, Blocked, Unknown}
use Rattle.audit.specs.declared.reason.Why.TheVariants.{AttemptFailed}
use Rattle.trusted_cmds.specs.declared.block.SidBlock.{SidBlock}
use Rattle.transactions.specs.Stored.{Stored, at_part, part_tries}
use Rattle.transactions.specs.Sights.{look_up, committed_sight}
use Rattle.sessions.specs.declared.answers.AuthAnswer.{AuthAnswer}
use Rattle.sessions.specs.declared.answers.AuthAnswer.TheVariants as answers
use Rattle.sessions.specs.Attempts.{credential, attempt_failure}
use Rattle.sessions.specs.Live.{Holder, gaining}

-- the rows in force
abbrev pub rows_in_force : Stored → LookUp
rows_in_force s = look_up (committed_sight s)

-- how an attempt fails by the rows in force; None where it is right
abbrev pub attempt : SidBlock → Stored → Sp → Uid → List ℕ → Option AttemptFailure
attempt block s sp authority proof = attempt_failure block (rows_in_force s) sp authority proof

-- one more; the largest number of 64 bits stays
abbrev pub up : ℕ → ℕ
up n = min (n + 1) (2 ^ 64 - 1)

abbrev pub answer_to : Sp → Uid → Option AttemptFailure → AuthAnswer
answer_to sp authority None = answers.Right
answer_to sp authority (Some LockedOut) = answers.LockedOut
answer_to sp authority (Some WrongPin) = answers.Wrong (AttemptFailed sp authority WrongPin)
answer_to sp authority (Some Disabled) = answers.Wrong (AttemptFailed sp authority Disabled)
answer_to sp authority (Some Blocked) = answers.Wrong (AttemptFailed sp authority Blocked)
answer_to sp authority (Some Unknown) = answers.Wrong (AttemptFailed sp authority Unknown)

-- the Tries of the authority's PIN row
abbrev pub stored_tries : Sp → Uid → ℕ → Stored → Stored
stored_tries sp authority n s = at_part sp (part_tries (credential
    (rows_in_force s) sp authority) n) s

-- a wrong PIN counts one more, a right one starts anew; an authority with no C_PIN row counts nothing
abbrev pub after_attempt : Sp → Uid → Option AttemptFailure → Stored → Stored
after_attempt sp authority None s = stored_tries sp authority 0 s
after_attempt sp authority (Some WrongPin) s =
    stored_tries sp authority
    (up (number (rows_in_force s) sp (credential (rows_in_force s) sp authority) tries_column)) s
after_attempt sp authority (Some LockedOut) s = s
after_attempt sp authority (Some Disabled) s = s
after_attempt sp authority (Some Blocked) s = s
after_attempt sp authority (Some Unknown) s = s

-- a session gains what was proved
abbrev pub gaining_if : LookUp → Uid → Option AttemptFailure → Option Holder → Option Holder
gaining_if look authority None o = option_map (gaining look authority) o
gaining_if look authority (Some f) o = o
