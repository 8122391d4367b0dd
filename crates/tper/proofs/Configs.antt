-- What is sent leaves what the drive was made with: its sectors, its shadow's, and its MSID.
use Rattle.std.proofs.Common.{◌≡◌, Bool, true, false, List, Option, Some, None, refl, ◌∙◌, ap}
use Rattle.tcg_tokens.specs.Tree.{Tree}
use Rattle.sp_cells.specs.declared.names.Uid.{Uid}
use Rattle.sp_cells.specs.declared.names.Sp.{Sp}
use Rattle.sp_cells.specs.declared.names.Sp.TheVariants.{Admin, Locking}
use Rattle.audit.specs.declared.reason.AttemptFailure.{AttemptFailure}
use Rattle.audit.specs.declared.reason.AttemptFailure.TheVariants.{WrongPin, LockedOut, Disabled, Blocked, Unknown}
use Rattle.transactions.specs.Stored.{Stored, Part, at_part, reverted}
use Rattle.sessions.specs.declared.opening.Opening.{Opening}
use Rattle.sessions.specs.declared.opening.StartVerdict.{StartVerdict}
use Rattle.sessions.specs.declared.opening.StartVerdict.TheVariants.{Refused, Attempted}
use Rattle.sessions.specs.Answers.{after_attempt}
use Rattle.sessions.specs.Deeds.{SessionDeed, Unchanged, Started, Tried, Changed, Sets, Restores, Resets, Began, Committed, Aborted, Ended, Activated, Reverted, Erased, Drew, HostTold, StackReset, StackTold}
use Rattle.sessions.specs.Live.{Live}
use Rattle.sessions.specs.Made.{StoresAttempt, StoresAs, closed_if, closed_where}
use Rattle.sessions.specs.Starts.{opening_of, stored_by, stored_with, start_verdict, start_stored}

-- The store has what the other was made with.
abbrev Same : Stored → Stored → Type 0
Same t s = t.config ≡ s.config

pub part_config : (sp : Sp) (f : Part → Part) (s : Stored) → (at_part sp f s).config ≡ s.config
part_config Admin f s = refl
part_config Locking f s = refl

-- ---- a StartSession

attempted : (sp : Sp) (authority : Uid) (o : Option AttemptFailure) (s : Stored)
    → Same (after_attempt sp authority o s) s
attempted sp authority None s = part_config sp _ s
attempted sp authority (Some WrongPin) s = part_config sp _ s
attempted sp authority (Some LockedOut) s = refl
attempted sp authority (Some Disabled) s = refl
attempted sp authority (Some Blocked) s = refl
attempted sp authority (Some Unknown) s = refl

by-verdict : (authority : Uid) (v : StartVerdict) (s : Stored) → Same (stored_by authority v s) s
by-verdict authority (Refused status rule) s = refl
by-verdict authority (Attempted sp f) s = attempted sp authority f s

with-verdict : (o : Option Opening) (v : StartVerdict) (s : Stored) → Same (stored_with o v s) s
with-verdict None v s = refl
with-verdict (Some o) v s = by-verdict o.authority v s

pub start_config : (s : Stored) (l : Live) (args : List Tree)
    → (start_stored s l args).config ≡ s.config
start_config s l args = with-verdict (opening_of s.config.profile args) (start_verdict s l args) s

-- ---- what a deed makes of a store

same-as : (f : Stored) (s t : Stored) → t ≡ f → Same f s → Same t s
same-as f s t is same = ap (λ (x : Stored). x.config) is ∙ same

counted : (sp : Sp) (row : Uid) (o : Option AttemptFailure) (s t : Stored)
    → StoresAttempt sp row o s t → Same t s
counted sp row None s t is = same-as _ s t is (part_config sp _ s)
counted sp row (Some WrongPin) s t is = same-as _ s t is (part_config sp _ s)
counted sp row (Some LockedOut) s t is = same-as s s t is refl
counted sp row (Some Disabled) s t is = same-as s s t is refl
counted sp row (Some Blocked) s t is = same-as s s t is refl
counted sp row (Some Unknown) s t is = same-as s s t is refl

reverts : (sp : Sp) (s : Stored) → Same (reverted sp s) s
reverts Admin s = refl
reverts Locking s = refl

-- where a transaction is closed
closes : (b : Bool) (sp : Sp) (s : Stored) → Same (closed_if b sp s) s
closes true sp s = part_config sp _ s
closes false sp s = refl

pub stores-config : (deed : SessionDeed) (s t : Stored) → StoresAs deed s t → t.config ≡ s.config
stores-config Unchanged s t is = same-as s s t is refl
stores-config (Started session row) s t is = same-as _ s t is (part_config session.sp _ s)
stores-config (Tried attempt) s t is = counted attempt.sp attempt.row attempt.failure s t is
stores-config (Changed sp (Sets set)) s t is = same-as _ s t is.1 (part_config sp _ s)
stores-config (Changed sp Restores) s t is = absurd is
stores-config (Changed sp (Resets kind)) s t is = absurd is
stores-config (Began sp number) s t is = same-as _ s t is.1 (part_config sp _ s)
stores-config (Committed sp) s t is = same-as _ s t is.2 (part_config sp _ s)
stores-config (Aborted sp) s t is = same-as _ s t is (part_config sp _ s)
stores-config (Ended sp) s t is = same-as _ s t is (part_config sp _ s)
stores-config (Activated pin) s t is = same-as _ s t is refl
stores-config (Reverted sp erasure) s t is = same-as _ s t is (reverts sp s)
stores-config (Erased erasure) s t is = same-as s s t is refl
stores-config (Drew count) s t is = same-as s s t is refl
stores-config (HostTold com_id limits) s t is = same-as s s t is refl
stores-config (StackReset com_id ends) s t is = same-as (closed_where ends s) s t is (closes (ends Locking) Locking (closed_if (ends Admin) Admin s) ∙ closes (ends Admin) Admin s)
stores-config (StackTold com_id) s t is = same-as s s t is refl
