-- The texts of the audit log, which are this drive's own. S is the number of the step, C the client; L+N the first
-- sector and the number of sectors of a transfer, R a range; SP `Admin` or `Locking`; OBJ, AUTH and U are UIDs; K is
-- a column, or `-` where none is named; U,U are the ACEs of which one would have to hold, or `none`:
--   S C deny read L+N range R ReadLocked
--   S C deny write L+N range R WriteLocked
--   S C deny read L+N shadow MBR
--   S C deny write L+N shadow MBR
--   S C deny method SP OBJ METHOD col K need U,U
--   S C deny method SP OBJ METHOD no row
--   S C deny auth SP AUTH pin
--   S C deny auth SP AUTH locked
--   S C deny auth SP AUTH disabled
--   S C deny auth SP AUTH blocked
--   S C deny auth SP AUTH unknown
use Rattle.std.specs.Prelude.{ℕ, List, ◌++◌, Option, None, Some, codes, decimal}
use Rattle.sp_cells.specs.declared.names.Sp.{Sp}
use Rattle.sp_cells.specs.declared.names.Uid.{Uid}
use Rattle.sp_cells.specs.declared.names.Column.{Column}
use Rattle.audit.specs.Names.{sp_text, uid_text, method_text, uids_text}
use Rattle.audit.specs.declared.reason.AttemptFailure.{AttemptFailure}
use Rattle.audit.specs.declared.reason.AttemptFailure.TheVariants.{WrongPin, LockedOut, Disabled, Blocked, Unknown}
use Rattle.audit.specs.declared.reason.Why.{Why}
use Rattle.audit.specs.declared.reason.Why.TheVariants.{ReadLocked, WriteLocked, ReadShadow, WriteShadow, NoEntryHolds, NoAccessRow, AttemptFailed}
use Rattle.audit.specs.declared.reason.AuditLine.{AuditLine}

-- `read L+N`, `write L+N`
abbrev pub transfer_text : List ℕ → ℕ → ℕ → List ℕ
transfer_text verb lba count = verb ++ codes " " ++ decimal lba ++ codes "+" ++ decimal count

-- ` range R ReadLocked`, ` range R WriteLocked`
abbrev pub lock_text : ℕ → List ℕ → List ℕ
lock_text range flag = codes " range " ++ decimal range ++ codes " " ++ flag

-- `read L+N shadow MBR`, `write L+N shadow MBR`
abbrev pub shadow_text : List ℕ → ℕ → ℕ → List ℕ
shadow_text verb lba count = transfer_text verb lba count ++ codes " shadow MBR"

-- `method SP OBJ METHOD`
abbrev pub call_text : Sp → Uid → Uid → List ℕ
call_text sp object method =
    codes "method " ++ sp_text sp ++ codes " " ++ uid_text object ++ codes " " ++ method_text method

-- K
abbrev pub column_text : Option Column → List ℕ
column_text None = codes "-"
column_text (Some column) = decimal column.0

-- ` col K need U,U`
abbrev pub need_text : Option Column → List Uid → List ℕ
need_text column need = codes " col " ++ column_text column ++ codes " need " ++ uids_text need

-- how an attempt to authenticate failed
abbrev pub failure_text : AttemptFailure → List ℕ
failure_text WrongPin = codes "pin"
failure_text LockedOut = codes "locked"
failure_text Disabled = codes "disabled"
failure_text Blocked = codes "blocked"
failure_text Unknown = codes "unknown"

-- `auth SP AUTH pin`, and likewise for the other failures
abbrev pub attempt_text : Sp → Uid → AttemptFailure → List ℕ
attempt_text sp authority failure =
    codes "auth " ++ sp_text sp ++ codes " " ++ uid_text authority ++ codes " "
    ++ failure_text failure

-- what stands after `deny`
abbrev pub why_text : Why → List ℕ
why_text (ReadLocked lba count range) =
    transfer_text (codes "read") lba count ++ lock_text range (codes "ReadLocked")
why_text (WriteLocked lba count range) =
    transfer_text (codes "write") lba count ++ lock_text range (codes "WriteLocked")
why_text (ReadShadow lba count) = shadow_text (codes "read") lba count
why_text (WriteShadow lba count) = shadow_text (codes "write") lba count
why_text (NoEntryHolds sp object method column need) =
    call_text sp object method ++ need_text column need.items
why_text (NoAccessRow sp object method) = call_text sp object method ++ codes " no row"
why_text (AttemptFailed sp authority failure) = attempt_text sp authority failure

abbrev pub line_text : AuditLine → List ℕ
line_text line = decimal line.step ++ codes " " ++ decimal line.client ++ codes " deny "
    ++ why_text line.why
