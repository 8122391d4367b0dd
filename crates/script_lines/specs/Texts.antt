-- The lines that a script prints.
use Rattle.std.specs.Prelude.{◌≡◌, ℕ, Option, Some, None, ◌+◌, ◌*◌, ◌/◌, suc, zero, List, [], ◌∷◌, ◌++◌, take, drop, slice_range, length, codes, decimal}
use Rattle.hex.specs.Hex.{encode_lower}
use Rattle.trusted_cmds.specs.Commands.{sector_size}
use Rattle.shadow_mbr.specs.Stored.{head_size}
use Rattle.audit.specs.AuditText.{line_text}
use Rattle.std.specs.List.{flat_map}
use Rattle.audit.specs.declared.reason.AuditLine.{AuditLine}
use Rattle.audit.specs.declared.reason.Why.{Why}
use Rattle.script_lines.specs.declared.report.Report.{Report}

-- a blank and the first four bytes of each of so many sectors, from one on
abbrev pub first_bytes : ℕ → ℕ → List ℕ → List ℕ
first_bytes zero sector bytes = []
first_bytes (suc sectors) sector bytes =
    32 ∷ (encode_lower (slice_range bytes (sector_size * sector) (sector_size * sector + 4))
    ++ first_bytes sectors (suc sector) bytes)

abbrev pub sectors_text : List ℕ → List ℕ
sectors_text bytes = first_bytes (length bytes / sector_size) 0 bytes

abbrev pub data_text : List ℕ → List ℕ
data_text bytes = codes "ok" ++ sectors_text bytes

-- a blank and each of so many heads of sectors
unfoldable pub each_head : ℕ → List ℕ → List ℕ
each_head zero heads = []
each_head (suc n) heads =
    32 ∷ (encode_lower (take head_size heads) ++ each_head n (drop head_size heads))

abbrev pub heads_text : List ℕ → List ℕ
heads_text heads = each_head (length heads / head_size) heads

-- what was done, and gave the sectors of these heads
abbrev pub given_text : List ℕ → List ℕ
given_text heads = codes "ok" ++ heads_text heads

-- what was done, and gave no data
abbrev pub done_text : List ℕ
done_text = codes "ok"

-- bytes that were received
abbrev pub hex_text : List ℕ → List ℕ
hex_text bytes = codes "data " ++ encode_lower bytes

abbrev pub command_failure_text : ℕ → ℕ → List ℕ
command_failure_text status error =
    codes "fail " ++ encode_lower (status ∷ []) ++ codes " " ++ encode_lower (error ∷ [])

abbrev pub audit_text : AuditLine → List ℕ
audit_text line = codes "audit " ++ line_text line

-- a step that was refused, by the number of the reason
abbrev pub refused_text : ℕ → List ℕ
refused_text number = codes "refused " ++ decimal number

-- a command that a reset stopped
abbrev pub reset_text : List ℕ
reset_text = codes "reset"

-- lines as they are printed, each with its line feed
abbrev pub printed : List (List ℕ) → List ℕ
printed lines = flat_map (λ line. line ++ 10 ∷ []) lines

-- the last of these lines, or the one before them where there are none
abbrev pub last_of : List ℕ → List (List ℕ) → List ℕ
last_of before [] = before
last_of before (line ∷ lines) = last_of line lines

-- these lines are printed behind what was printed before
pub record Prints (old new : Report) (lines : List (List ℕ)) : Type 0 where
  pub pending : new.pending.items ≡ old.pending.items ++ printed lines
  pub last : new.last.items ≡ last_of old.last.items lines

-- the audit line of a denial
abbrev pub denial_lines : ℕ → ℕ → Option Why → List (List ℕ)
denial_lines step client None = []
denial_lines step client (Some why) =
    audit_text (record { step = step; client = client; why = why }) ∷ []

-- what a command that failed prints
abbrev pub refusal_lines : ℕ → ℕ → ℕ → ℕ → Option Why → List (List ℕ)
refusal_lines step client status error denied =
    command_failure_text status error ∷ denial_lines step client denied
