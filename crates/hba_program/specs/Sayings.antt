-- What a host is told of works and of denials.
use Rattle.std.specs.Prelude.{ℕ, List, ◌∷◌, [], ◌++◌, Option, Some, None}
use Rattle.hex.specs.Hex.{encode_lower}
use Rattle.audit.specs.declared.reason.AuditLine.{AuditLine}
use Rattle.audit.specs.declared.reason.Why.{Why}
use Rattle.script_lines.specs.Texts.{audit_text}
use Rattle.hba.specs.declared.work.Work.{Work}
use Rattle.hba.specs.declared.work.Work.TheVariants as works
use Rattle.hba.specs.declared.work.Done.{Done}
use Rattle.hba.specs.declared.work.Done.TheVariants as dones
use Rattle.hba.specs.declared.work.MemoryFault.{MemoryFault}
use Rattle.hba.specs.declared.work.MemoryFault.TheVariants as faults
use Rattle.hba_program.specs.Replies.{reply_line}
use Rattle.hba_program.specs.declared.hba_tool.session.Told.{Told}
use Rattle.hba_program.specs.declared.hba_lines.reply.MemoryPart.{MemoryPart}
use Rattle.hba_program.specs.declared.hba_lines.reply.MemoryPart.TheVariants as parts
use Rattle.hba_program.specs.declared.hba_lines.reply.Reply.{Reply}
use Rattle.hba_program.specs.declared.hba_lines.reply.Reply.TheVariants as says

-- the part of the memory that a work could not have
abbrev pub part_by : MemoryFault → MemoryPart
part_by faults.List = parts.List
part_by faults.Table = parts.Table
part_by faults.Data = parts.Data
part_by faults.Fis = parts.Fis

-- the tag of a work; the signature has none
abbrev pub work_tag : Work → ℕ
work_tag works.Signature = 0
work_tag (works.Fetch tag) = tag
work_tag (works.Complete tag) = tag

-- the last line of a fetch
abbrev pub fetch_reply : ℕ → Done → Reply
fetch_reply tag dones.Posted = says.Fetch tag
fetch_reply tag dones.Served = says.Fetch tag
fetch_reply tag dones.Control = says.Control tag
fetch_reply tag (dones.Fault fault) = says.Fault tag (part_by fault)

-- the last line of a completion
abbrev pub complete_reply : ℕ → Done → Reply
complete_reply tag dones.Posted = says.Complete tag
complete_reply tag dones.Served = says.Complete tag
complete_reply tag dones.Control = says.Complete tag
complete_reply tag (dones.Fault fault) = says.Fault tag (part_by fault)

-- the last line of a work
abbrev pub work_reply : Work → Done → Reply
work_reply works.Signature done = says.Signature
work_reply (works.Fetch tag) done = fetch_reply tag done
work_reply (works.Complete tag) done = complete_reply tag done

-- what denied a command, and what is told of it: lines, each with its line feed
pub record DeniedCommand : Type 0 where
  pub line : AuditLine
  pub reasons : List ℕ

-- the audit lines of denials, and behind each what is told of it
abbrev pub denials_text : List DeniedCommand → List ℕ
denials_text [] = []
denials_text (denial ∷ denials) =
    (audit_text denial.line ++ 10 ∷ denial.reasons) ++ denials_text denials

-- the bytes of a sector
abbrev pub sector_line : List ℕ → List ℕ
sector_line bytes = encode_lower bytes ++ 10 ∷ []

-- what is kept of a work's denial, with the number of its act, its tag and what was told of it
abbrev pub kept_denial : ℕ → ℕ → Option Why → List ℕ → List DeniedCommand
kept_denial step tag None reasons = []
kept_denial step tag (Some why) reasons =
    record { line = record { step = step; client = tag; why = why }; reasons = reasons } ∷ []

-- what is said of a work: its last line, and behind it what is told of its command
abbrev pub work_text : Option Told → List ℕ
work_text None = reply_line says.Idle
work_text (Some told) = reply_line told.reply ++ told.reasons.items
