-- Each rule in words. They are this drive's own; the rules stand in the standards that `Rule` names.
use Rattle.std.specs.Prelude.{ℕ, List, codes}
use Rattle.sp_cells.specs.declared.error.SetError.{SetError}
use Rattle.sp_cells.specs.declared.error.SetError.TheVariants as faults
use Rattle.trusted_cmds.specs.declared.command.CommandError.{CommandError}
use Rattle.trusted_cmds.specs.declared.command.CommandError.TheVariants as errors
use Rattle.audit.specs.declared.rules.rule.Rule.{Rule}
use Rattle.audit.specs.declared.rules.rule.Rule.TheVariants as rules

abbrev pub fault_words : SetError → List ℕ
fault_words faults.NoCell = codes "the object has no such column, or it can't be set"
fault_words faults.WrongType = codes "a column does not take its value"
fault_words faults.Overlap = codes "the range would meet another range"
fault_words faults.Beyond = codes "the range would end beyond the drive, or the global range would have bounds"
fault_words faults.Expr = codes "an expression that is no tree, or that names no authority of the SP"
fault_words faults.OutOfMemory = codes "no memory"

abbrev pub command_words : CommandError → List ℕ
command_words errors.Unknown = codes "the drive does not know the command"
command_words errors.NotCommand = codes "the FIS carries no command"
command_words errors.LogPage = codes "the drive has no such log page"
command_words errors.Device = codes "bit 6 of Device is clear"

abbrev pub rule_words : Rule → List ℕ
rule_words rules.NoCommand = codes "the FIS carries no command"
rule_words (rules.Unreadable fault) = command_words fault
rule_words rules.QueueFailed = codes "the queue has failed, and log page 10h was not read yet"
rule_words rules.Mixed = codes "queued commands are held, and this one is not queued"
rule_words rules.TagHeld = codes "the tag is held by a queued command"
rule_words rules.BeyondDrive = codes "the transfer would end behind the last sector"
rule_words rules.Protocol = codes "not security protocol 01h with one block at least"
rule_words rules.ComId = codes "the drive has no such ComID"
rule_words rules.ResponseWaits = codes "a response waits on the ComID"
rule_words rules.LongTransfer = codes "the transfer is longer than a ComPacket may be"
rule_words rules.SidKept = codes "SID has a PIN of its own, or is blocked already"
rule_words rules.NoFrame = codes "no frame of this ComID was sent"
rule_words rules.NoSession = codes "no such session lives on this ComID"
rule_words rules.NoItem = codes "the payload is no item that can stand here"
rule_words rules.NoMethod = codes "the object has no such method"
rule_words rules.Shape = codes "the arguments have not the shape of the method"
rule_words rules.UnknownSp = codes "no such SP"
rule_words rules.NotInUse = codes "the SP is not in use: it was not activated"
rule_words rules.SpBusy = codes "another session lives on the SP"
rule_words rules.NoNumber = codes "no number is left for a session"
rule_words rules.OutsideTable = codes "rows that are not within the table"
rule_words rules.TooLong = codes "the response would be longer than a response may be"
rule_words rules.WrongValue = codes "a value that its column does not take, or bytes behind the table's end"
rule_words (rules.NotSet fault) = fault_words fault
rule_words rules.BrokenOff = codes "the payload is no item: it ended the session"
rule_words rules.Discarded = codes "no call of Properties or StartSession: it was discarded"
rule_words rules.NoSubpacket = codes "the subpacket is no part of its packet: it ended the session"
rule_words rules.NoStackReset = codes "no reset of the stack of this ComID: nothing was done"
rule_words rules.ManyRandomBytes = codes "Random gives at most 32 bytes"
rule_words rules.NoSuchRow = codes "the table has no such row"
rule_words rules.NoAccessLine = codes "the access list has no line for that object and that method"
rule_words rules.InTransaction = codes "the session has a transaction open"
rule_words rules.NoKey = codes "the object is no key of a range"
rule_words rules.GlobalLocked = codes "the global range would be kept, and is locked both ways"
rule_words rules.AlreadyOpen = codes "a transaction is open on the SP"
rule_words rules.NoneOpen = codes "the session has no transaction open"
