-- A host behind a pipe: what it has still to say, and what it answers where it is questioned for its
-- memory.
use Rattle.std.specs.Prelude.{ℕ, suc, zero, ◌+◌, ◌-◌, ◌/◌, min, Bool, true, false, List, [], ◌∷◌, ◌++◌, length, take, drop, Option, Some, None, option_map, Result, Ok, Err, codes, if◌then◌else◌}
use Rattle.std.specs.Io.BufRead.{strip_last, take_through, drop_through}
use Rattle.hex.specs.Hex.{decode_sized}
use Rattle.hex.specs.declared.error.FromHexError.{FromHexError}
use Rattle.hba_program.specs.Replies.{error_line}
use Rattle.hba_program.specs.MemoryLines.{read_question, write_question, answer_to_read, answer_to_write}
use Rattle.hba_program.specs.declared.hba_lines.memory_line.Answer.{Answer}
use Rattle.hba_program.specs.declared.hba_lines.memory_line.Answer.TheVariants.{Given, Refused, Wrong}

-- What the host has still to say; whether that ended where memory was questioned for; whether the host
-- was told of a line that is none.
pub record Pipe : Type 0 where
  pub left : List ℕ
  pub is_cut_off : Bool
  pub has_complained : Bool

-- What came of something: a value, what the host was told, and the pipe behind it.
pub record Came (A : Type 0) : Type 0 where
  pub value : A
  pub told : List ℕ
  pub pipe : Pipe

abbrev pub came : {A : Type 0} → A → List ℕ → Pipe → Came A
came value told pipe = record { value = value; told = told; pipe = pipe }

-- the first line, without its line feed
abbrev pub first_line : List ℕ → List ℕ
first_line text = strip_last 10 (take_through 10 text)

-- an answer: what it gives, or none, of which the host is told where it is no answer
abbrev pub weighed : {A : Type 0} → A → List ℕ → List ℕ → Answer → A → Pipe → Came A
weighed none told wanted Given value pipe = came value told pipe
weighed none told wanted Refused value pipe = came none told pipe
weighed none told wanted Wrong value pipe =
    came none (told ++ error_line wanted) (record pipe { has_complained = true })

-- the first line of what is left is the answer; where nothing is left, the pipe is cut off
abbrev pub heard : {A : Type 0} → A → List ℕ → List ℕ → (List ℕ → Answer) → (List ℕ → A) → Pipe
    → List ℕ → Came A
heard none told wanted answer value pipe [] = came none told (record pipe { is_cut_off = true })
heard none told wanted answer value pipe (byte ∷ text) =
    weighed none told wanted (answer (first_line (byte ∷ text))) (value (first_line (byte ∷ text)))
    (record pipe { left = drop_through 10 (byte ∷ text) })

-- the host is told a line and answers it, unless the pipe is cut off
abbrev pub questioned : {A : Type 0} → A → List ℕ → List ℕ → (List ℕ → Answer) → (List ℕ → A) → Pipe
    → Came A
questioned none told wanted answer value pipe =
    if pipe.is_cut_off then came none [] pipe
    else heard none told wanted answer value pipe pipe.left

-- what the host is told of an answer that is none
abbrev pub read_wanted : List ℕ
read_wanted = codes "an answer to m is none, or two hex digits for each byte"

abbrev pub write_wanted : List ℕ
write_wanted = codes "an answer to p is ok or none"

abbrev pub decoded_bytes : Result (List ℕ) FromHexError → Option (List ℕ)
decoded_bytes (Ok bytes) = Some bytes
decoded_bytes (Err error) = None

-- so many bytes are questioned for by one line
abbrev pub piece_read : ℕ → ℕ → Pipe → Came (Option (List ℕ))
piece_read at n pipe =
    questioned None (read_question at n) read_wanted (λ line. answer_to_read line n)
    (λ line. decoded_bytes (decode_sized line n)) pipe

-- bytes are given by one line
abbrev pub piece_written : ℕ → List ℕ → Pipe → Came Bool
piece_written at bytes pipe =
    questioned false (write_question at bytes) write_wanted answer_to_write (λ line. true) pipe

-- how many bytes move at most by a line
abbrev pub most_moved : ℕ
most_moved = 65536

-- how many lines move so many bytes
abbrev pub pieces : ℕ → ℕ
pieces n = (n + (most_moved - 1)) / most_moved

-- bytes that were read, and those behind them
abbrev pub and_behind : List ℕ → List ℕ → Came (Option (List ℕ)) → Came (Option (List ℕ))
and_behind bytes told rest =
    came (option_map (λ more. bytes ++ more) rest.value) (told ++ rest.told) rest.pipe

abbrev pub read_on : Came (Option (List ℕ)) → (Pipe → Came (Option (List ℕ)))
    → Option (List ℕ) → Came (Option (List ℕ))
read_on first rest None = first
read_on first rest (Some bytes) = and_behind bytes first.told (rest first.pipe)

-- so many pieces are read, one behind the other, until one is refused
abbrev pub pieces_read : ℕ → ℕ → ℕ → Pipe → Came (Option (List ℕ))
pieces_read zero at n pipe = came (Some []) [] pipe
pieces_read (suc k) at n pipe =
    let first = piece_read at (min n most_moved) pipe in
    read_on first (pieces_read k (at + min n most_moved) (n - min n most_moved)) first.value

-- so many bytes are read
abbrev pub whole_read : ℕ → ℕ → Pipe → Came (Option (List ℕ))
whole_read at n pipe = pieces_read (pieces n) at n pipe

abbrev pub write_on : Came Bool → (Pipe → Came Bool) → Bool → Came Bool
write_on first rest false = first
write_on first rest true =
    came (rest first.pipe).value (first.told ++ (rest first.pipe).told) (rest first.pipe).pipe

-- so many pieces are written, one behind the other, until one is refused
abbrev pub pieces_written : ℕ → ℕ → List ℕ → Pipe → Came Bool
pieces_written zero at bytes pipe = came true [] pipe
pieces_written (suc k) at bytes pipe =
    let size = min (length bytes) most_moved in
    let first = piece_written at (take size bytes) pipe in
    write_on first (pieces_written k (at + size) (drop size bytes)) first.value

-- bytes are written
abbrev pub whole_written : ℕ → List ℕ → Pipe → Came Bool
whole_written at bytes pipe = pieces_written (pieces (length bytes)) at bytes pipe
