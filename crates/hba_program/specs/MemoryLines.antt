-- Lines that ask the host for its memory, and what the host answers.
use Rattle.std.specs.Prelude.{ℕ, List, [], ◌∷◌, ◌++◌, codes, Result, Ok, Err, if◌then◌else◌}
use Rattle.std.specs.Str.{bytes_eq}
use Rattle.hex.specs.Hex.{encode_lower, decode_sized}
use Rattle.hex.specs.declared.error.FromHexError.{FromHexError}
use Rattle.hba_program.specs.Replies.{hex_digits}
use Rattle.hba_program.specs.declared.hba_lines.memory_line.Answer.{Answer}
use Rattle.hba_program.specs.declared.hba_lines.memory_line.Answer.TheVariants.{Given, Refused, Wrong}

-- the line that asks for so many bytes at an address
abbrev pub read_question : ℕ → ℕ → List ℕ
read_question at len = codes "m " ++ hex_digits at ++ codes " " ++ hex_digits len ++ 10 ∷ []

-- the line that gives the host bytes for an address
abbrev pub write_question : ℕ → List ℕ → List ℕ
write_question at bytes = codes "p " ++ hex_digits at ++ codes " " ++ encode_lower bytes ++ 10 ∷ []

abbrev pub by_decoding : Result (List ℕ) FromHexError → Answer
by_decoding (Ok bytes) = Given
by_decoding (Err error) = Wrong

-- what a line answers that was asked for so many bytes
abbrev pub answer_to_read : List ℕ → ℕ → Answer
answer_to_read line len =
    if bytes_eq line (codes "none") then Refused else by_decoding (decode_sized line len)

-- what a line answers that was given bytes
abbrev pub answer_to_write : List ℕ → Answer
answer_to_write line =
    if bytes_eq line (codes "ok") then Given
    else if bytes_eq line (codes "none") then Refused else Wrong
