-- What a line says. Words stand between runs of blanks; the first one says which line it is. N is how many sectors, and 0 stands
-- for 65,536 of them. HEX is hex text.
--   range N START LENGTH RE WE RL WL     the cells of a range
--   read C T L N                         a queued read of client C under tag T, from sector L, N sectors
--   write C T L N HH                     a queued write, whose bytes are all HH
--   dread C L N                          an unqueued read of client C, from sector L, N sectors
--   dwrite C L N HH                      an unqueued write, whose bytes are all HH
--   call C ID TSN HSN HEX                client C sends the tokens HEX to the ComID ID, in the session of these numbers
--   send C ID HEX                        client C sends the ComPacket HEX to the ComID ID
--   recv C ID BLOCKS                     client C receives so many blocks from the ComID ID
--   secin C P S BLOCKS                   client C receives so many blocks by the security protocol P, with S as SP Specific
--   secout C P S HEX                     client C sends the bytes HEX by it, with zeros behind them to the end of a block
--   identify C                           client C asks what the drive says that it is
--   log C                                client C reads the log page of the last queued error
--   reset C K                            client C turns the power off and on, where K is 0, or resets the hardware, where it is 1
--   tper C                               client C sends one block of zeros as the command that resets the drive
--   expect TEXT                          the last printed line is TEXT, byte for byte
use Rattle.std.specs.Prelude.{ℕ, ◌==◌, ◌<◌, ◌≤◌, ⊤, length, drop, if◌then◌else◌, List, Result, Ok, Err}
use Rattle.script_lines.specs.Words.{nth_word, after_words, first_word, after_word}
use Rattle.script_lines.specs.Verbs.{verb_of}
use Rattle.script_lines.specs.Fields.{◌>>=◌, or_fault, number_of_field, byte_of_field, hex_in, most_call_bytes, most_send_bytes}
use Rattle.script_lines.specs.Groups.{transfer_in, dma_transfer_in, range_in, session_in, reset_in}
use Rattle.script_lines.specs.declared.fault.LineFault.{LineFault}
use Rattle.script_lines.specs.declared.fault.LineFault.TheVariants.{UnknownWord, Extra}
use Rattle.script_lines.specs.declared.field.Field.TheVariants as fields
use Rattle.script_lines.specs.declared.verb.Verb.{Verb}
use Rattle.script_lines.specs.declared.verb.Verb.TheVariants as verbs
use Rattle.script_lines.specs.declared.line.Line.{Line}
use Rattle.script_lines.specs.declared.line.Line.TheVariants as lines

-- the line, where no word is left
abbrev pub ended : List ℕ → Line → Result Line LineFault
ended rest line = if length (first_word rest) == 0 then Ok line else Err Extra

-- what the words behind the verb say
abbrev pub range_line : List ℕ → Result Line LineFault
range_line rest = range_in rest >>= λ row. ended (after_words 7 rest) (lines.Range row)

abbrev pub read_line : List ℕ → Result Line LineFault
read_line rest = transfer_in rest >>= λ transfer. ended (after_words 4 rest) (lines.Read transfer)

abbrev pub write_line : List ℕ → Result Line LineFault
write_line rest = do
  transfer ← transfer_in rest
  byte ← byte_of_field fields.Byte (nth_word 4 rest)
  ended (after_words 5 rest) (lines.Write transfer byte)

abbrev pub read_dma_line : List ℕ → Result Line LineFault
read_dma_line rest =
    dma_transfer_in rest >>= λ transfer. ended (after_words 3 rest) (lines.ReadDma transfer)

abbrev pub write_dma_line : List ℕ → Result Line LineFault
write_dma_line rest = do
  transfer ← dma_transfer_in rest
  byte ← byte_of_field fields.DmaByte (nth_word 3 rest)
  ended (after_words 4 rest) (lines.WriteDma transfer byte)

abbrev pub call_line : List ℕ → Result Line LineFault
call_line rest = do
  client ← number_of_field fields.Client (nth_word 0 rest)
  com_id ← number_of_field fields.ComId (nth_word 1 rest)
  session ← session_in (after_words 2 rest)
  tokens ← hex_in fields.Tokens (nth_word 4 rest)
  ended (after_words 5 rest) (lines.Call client com_id session tokens)

abbrev pub send_line : List ℕ → Result Line LineFault
send_line rest = do
  client ← number_of_field fields.Client (nth_word 0 rest)
  com_id ← number_of_field fields.ComId (nth_word 1 rest)
  packet ← hex_in fields.ComPacket (nth_word 2 rest)
  ended (after_words 3 rest) (lines.Send client com_id packet)

abbrev pub receive_line : List ℕ → Result Line LineFault
receive_line rest = do
  client ← number_of_field fields.Client (nth_word 0 rest)
  com_id ← number_of_field fields.ComId (nth_word 1 rest)
  blocks ← number_of_field fields.Blocks (nth_word 2 rest)
  ended (after_words 3 rest) (lines.Receive client com_id blocks)

abbrev pub security_in_line : List ℕ → Result Line LineFault
security_in_line rest = do
  client ← number_of_field fields.Client (nth_word 0 rest)
  protocol ← number_of_field fields.Protocol (nth_word 1 rest)
  sp_specific ← number_of_field fields.SpSpecific (nth_word 2 rest)
  blocks ← number_of_field fields.SecurityBlocks (nth_word 3 rest)
  ended (after_words 4 rest) (lines.SecurityIn client protocol sp_specific blocks)

abbrev pub security_out_line : List ℕ → Result Line LineFault
security_out_line rest = do
  client ← number_of_field fields.Client (nth_word 0 rest)
  protocol ← number_of_field fields.Protocol (nth_word 1 rest)
  sp_specific ← number_of_field fields.SpSpecific (nth_word 2 rest)
  payload ← hex_in fields.SecurityBytes (nth_word 3 rest)
  ended (after_words 4 rest) (lines.SecurityOut client protocol sp_specific payload)

abbrev pub identify_line : List ℕ → Result Line LineFault
identify_line rest = do
  client ← number_of_field fields.Client (nth_word 0 rest)
  ended (after_words 1 rest) (lines.Identify client)

abbrev pub log_line : List ℕ → Result Line LineFault
log_line rest = number_of_field fields.Client (nth_word 0 rest) >>= λ client. ended
    (after_words 1 rest)
    (lines.Log client)

abbrev pub reset_line : List ℕ → Result Line LineFault
reset_line rest = do
  client ← number_of_field fields.Client (nth_word 0 rest)
  kind ← reset_in (nth_word 1 rest)
  ended (after_words 2 rest) (lines.Reset client kind)

abbrev pub tper_reset_line : List ℕ → Result Line LineFault
tper_reset_line rest =
    number_of_field fields.Client (nth_word 0 rest) >>= λ client. ended (after_words 1 rest)
    (lines.TperReset client)

abbrev pub verb_line : Verb → List ℕ → Result Line LineFault
verb_line verbs.Range rest = range_line rest
verb_line verbs.Read rest = read_line rest
verb_line verbs.Write rest = write_line rest
verb_line verbs.ReadDma rest = read_dma_line rest
verb_line verbs.WriteDma rest = write_dma_line rest
verb_line verbs.Call rest = call_line rest
verb_line verbs.Send rest = send_line rest
verb_line verbs.Receive rest = receive_line rest
verb_line verbs.SecurityIn rest = security_in_line rest
verb_line verbs.SecurityOut rest = security_out_line rest
verb_line verbs.Identify rest = identify_line rest
verb_line verbs.Log rest = log_line rest
verb_line verbs.Reset rest = reset_line rest
verb_line verbs.TperReset rest = tper_reset_line rest
verb_line verbs.Expect rest = Ok lines.Expect

-- what a line says, or what is wrong with it
abbrev pub line_said : List ℕ → Result Line LineFault
line_said text = or_fault UnknownWord (verb_of (first_word text)) >>= λ verb. verb_line verb
    (after_word text)

-- the bytes of a line, of which there is one at least, are not too many
abbrev pub HasBytesWithinLimits : Line → Type 0
HasBytesWithinLimits (lines.Call client com_id session tokens) =
    (0 < length tokens) × (length tokens ≤ most_call_bytes)
HasBytesWithinLimits (lines.Send client com_id packet) = (0 < length packet) ×
    (length packet ≤ most_send_bytes)
HasBytesWithinLimits (lines.SecurityOut client protocol sp_specific payload) =
    (0 < length payload) × (length payload ≤ most_send_bytes)
HasBytesWithinLimits _ = ⊤

-- the text that an `expect` line asks for: all that stands behind the word and one blank
abbrev pub expected_text : List ℕ → List ℕ
expected_text text = drop 1 (after_word text)
