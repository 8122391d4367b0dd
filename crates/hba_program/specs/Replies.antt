-- What a controller answers.
use Rattle.std.specs.Prelude.{ℕ, true, false, List, [], ◌∷◌, ◌++◌, codes}
use Rattle.std.specs.Fmt.{digits}
use Rattle.hba_program.specs.Digits.{word_text}
use Rattle.hba_program.specs.declared.hba_lines.reply.MemoryPart.{MemoryPart}
use Rattle.hba_program.specs.declared.hba_lines.reply.MemoryPart.TheVariants as parts
use Rattle.hba_program.specs.declared.hba_lines.reply.Reply.{Reply}
use Rattle.hba_program.specs.declared.hba_lines.reply.Reply.TheVariants as says

-- what of the memory failed
abbrev pub part_name : MemoryPart → List ℕ
part_name parts.List = codes "list"
part_name parts.Table = codes "table"
part_name parts.Data = codes "data"
part_name parts.Fis = codes "fis"

-- a number in hex, without zeros in front
abbrev pub hex_digits : ℕ → List ℕ
hex_digits number = digits 16 false number

abbrev pub fault_text : ℕ → MemoryPart → List ℕ
fault_text tag part = codes "fault " ++ hex_digits tag ++ codes " " ++ part_name part

-- the line of a reply
abbrev pub reply_text : Reply → List ℕ
reply_text (says.Word word) = word_text word
reply_text says.Done = codes "ok"
reply_text (says.Line false) = codes "0"
reply_text (says.Line true) = codes "1"
reply_text says.Signature = codes "did signature"
reply_text (says.Fetch tag) = codes "did fetch " ++ hex_digits tag
reply_text (says.Control tag) = codes "did control " ++ hex_digits tag
reply_text (says.Complete tag) = codes "did complete " ++ hex_digits tag
reply_text (says.Fault tag part) = fault_text tag part
reply_text says.Idle = codes "idle"
reply_text (says.Ran count) = codes "idle " ++ hex_digits count
reply_text (says.Denials count) = hex_digits count
reply_text says.NoSector = codes "none"

-- with its line feed
abbrev pub reply_line : Reply → List ℕ
reply_line reply = reply_text reply ++ 10 ∷ []

-- the line that tells a fault
abbrev pub error_line : List ℕ → List ℕ
error_line text = codes "error " ++ text ++ 10 ∷ []
