-- What a line of a port script says. T is the tag of a slot.
--   port                                 the first line: the others are those of a port script
--   range N START LENGTH RE WE RL WL     the cells of a range
--   put C T read L N                     client C puts a queued read in slot T: from sector L, N sectors
--   put C T write L N HH                 a queued write, whose bytes are all HH
--   put C T dread L N                    an unqueued read
--   put C T dwrite L N HH                an unqueued write, whose bytes are all HH
--   put C T call ID TSN HSN HEX          the tokens HEX for the ComID ID, in the session of these numbers
--   put C T send ID HEX                  the ComPacket HEX for the ComID ID
--   put C T recv ID BLOCKS               so many blocks from the ComID ID
--   put C T secin P S BLOCKS             so many blocks by the security protocol P, with S as SP Specific
--   put C T secout P S HEX               the bytes HEX by it, with zeros behind them to the end of a block
--   put C T identify                     what the drive says that it is
--   issue T, accept T, complete T        the port issues it; the drive takes it; the drive ends it
--   recover                              the port recovers from a failed command
--   reset C K                            client C resets the port and the drive: the power where K is 0, the hardware where it is 1
--   take C T                             client C takes the answer
--   expect TEXT                          the last printed line is TEXT, byte for byte
use Rattle.std.specs.Prelude.{ℕ, Bool, ◌==◌, ◌&&◌, ◌<◌, ◌≤◌, ⊤, codes, length, if◌then◌else◌, List, [], ◌∷◌, Option, Some, None, Result, Ok, Err}
use Rattle.std.specs.Str.{bytes_eq}
use Rattle.script_lines.specs.Words.{nth_word, after_words, first_word, after_word}
use Rattle.script_lines.specs.Verbs.{verb_of}
use Rattle.script_lines.specs.Fields.{◌>>=◌, or_fault, number_of_field, byte_of_field, hex_in, most_call_bytes, most_send_bytes}
use Rattle.script_lines.specs.Groups.{range_in, reset_in}
use Rattle.script_lines.specs.declared.fault.LineFault.{LineFault}
use Rattle.script_lines.specs.declared.fault.LineFault.TheVariants.{UnknownStep, UnknownRequest, Extra}
use Rattle.script_lines.specs.declared.field.Field.TheVariants as fields
use Rattle.script_lines.specs.declared.verb.Verb.{Verb}
use Rattle.script_lines.specs.declared.verb.Verb.TheVariants as verbs
use Rattle.script_lines.specs.declared.verb.PortVerb.{PortVerb}
use Rattle.script_lines.specs.declared.verb.PortVerb.TheVariants as steps
use Rattle.script_lines.specs.declared.port_line.PutRequest.{PutRequest}
use Rattle.script_lines.specs.declared.port_line.PutRequest.TheVariants as requests
use Rattle.script_lines.specs.declared.port_line.PortLine.{PortLine}
use Rattle.script_lines.specs.declared.port_line.PortLine.TheVariants as lines

-- no word is left
abbrev pub none_left : List ℕ → Result (Unit {0}) LineFault
none_left rest = if length (first_word rest) == 0 then Ok tt else Err Extra

abbrev pub slot_in : List ℕ → Result ℕ LineFault
slot_in rest = number_of_field fields.Slot (nth_word 0 rest)

-- where a transfer begins, and its count
abbrev pub transfer_words : List ℕ → Result (ℕ × ℕ) LineFault
transfer_words rest = do
  lba ← number_of_field fields.PutAddress (nth_word 0 rest)
  count ← number_of_field fields.PutCount (nth_word 1 rest)
  Ok (lba, count)

-- what the words behind `put C T` and the name of a request say
abbrev pub read_words : List ℕ → Result PutRequest LineFault
read_words rest = do
  at ← transfer_words rest
  _ ← none_left (after_words 2 rest)
  Ok (requests.Read at.0 at.1)

abbrev pub write_words : List ℕ → Result PutRequest LineFault
write_words rest = do
  at ← transfer_words rest
  byte ← byte_of_field fields.PutByte (nth_word 2 rest)
  _ ← none_left (after_words 3 rest)
  Ok (requests.Write at.0 at.1 byte)

abbrev pub read_dma_words : List ℕ → Result PutRequest LineFault
read_dma_words rest = do
  at ← transfer_words rest
  _ ← none_left (after_words 2 rest)
  Ok (requests.ReadDma at.0 at.1)

abbrev pub write_dma_words : List ℕ → Result PutRequest LineFault
write_dma_words rest = do
  at ← transfer_words rest
  byte ← byte_of_field fields.PutByte (nth_word 2 rest)
  _ ← none_left (after_words 3 rest)
  Ok (requests.WriteDma at.0 at.1 byte)

abbrev pub call_words : List ℕ → Result PutRequest LineFault
call_words rest = do
  com_id ← number_of_field fields.PutComId (nth_word 0 rest)
  tsn ← number_of_field fields.PutTperSession (nth_word 1 rest)
  hsn ← number_of_field fields.PutHostSession (nth_word 2 rest)
  tokens ← hex_in fields.PutTokens (nth_word 3 rest)
  _ ← none_left (after_words 4 rest)
  Ok (requests.Call com_id (record { tsn = tsn; hsn = hsn }) tokens)

abbrev pub send_words : List ℕ → Result PutRequest LineFault
send_words rest = do
  com_id ← number_of_field fields.PutComId (nth_word 0 rest)
  packet ← hex_in fields.PutComPacket (nth_word 1 rest)
  _ ← none_left (after_words 2 rest)
  Ok (requests.Send com_id packet)

abbrev pub receive_words : List ℕ → Result PutRequest LineFault
receive_words rest = do
  com_id ← number_of_field fields.PutComId (nth_word 0 rest)
  blocks ← number_of_field fields.PutBlocks (nth_word 1 rest)
  _ ← none_left (after_words 2 rest)
  Ok (requests.Receive com_id blocks)

abbrev pub security_in_words : List ℕ → Result PutRequest LineFault
security_in_words rest = do
  protocol ← number_of_field fields.PutProtocol (nth_word 0 rest)
  sp_specific ← number_of_field fields.PutSpSpecific (nth_word 1 rest)
  blocks ← number_of_field fields.PutSecurityBlocks (nth_word 2 rest)
  _ ← none_left (after_words 3 rest)
  Ok (requests.SecurityIn protocol sp_specific blocks)

abbrev pub security_out_words : List ℕ → Result PutRequest LineFault
security_out_words rest = do
  protocol ← number_of_field fields.PutProtocol (nth_word 0 rest)
  sp_specific ← number_of_field fields.PutSpSpecific (nth_word 1 rest)
  payload ← hex_in fields.PutSecurityBytes (nth_word 2 rest)
  _ ← none_left (after_words 3 rest)
  Ok (requests.SecurityOut protocol sp_specific payload)

abbrev pub identify_words : List ℕ → Result PutRequest LineFault
identify_words rest = do
  _ ← none_left rest
  Ok requests.Identify

-- no other word names a request
abbrev pub request_words : Verb → List ℕ → Result PutRequest LineFault
request_words verbs.Read rest = read_words rest
request_words verbs.Write rest = write_words rest
request_words verbs.ReadDma rest = read_dma_words rest
request_words verbs.WriteDma rest = write_dma_words rest
request_words verbs.Call rest = call_words rest
request_words verbs.Send rest = send_words rest
request_words verbs.Receive rest = receive_words rest
request_words verbs.SecurityIn rest = security_in_words rest
request_words verbs.SecurityOut rest = security_out_words rest
request_words verbs.Identify rest = identify_words rest
request_words verbs.TperReset rest = Err UnknownRequest
request_words verbs.Range rest = Err UnknownRequest
request_words verbs.Log rest = Err UnknownRequest
request_words verbs.Reset rest = Err UnknownRequest
request_words verbs.Expect rest = Err UnknownRequest

-- what the words behind a verb say
abbrev pub range_words : List ℕ → Result PortLine LineFault
range_words rest = do
  row ← range_in rest
  _ ← none_left (after_words 7 rest)
  Ok (lines.Range row)

abbrev pub put_words : List ℕ → Result PortLine LineFault
put_words rest = do
  client ← number_of_field fields.Client (nth_word 0 rest)
  tag ← number_of_field fields.Tag (nth_word 1 rest)
  verb ← or_fault UnknownRequest (verb_of (nth_word 2 rest))
  request ← request_words verb (after_words 3 rest)
  Ok (lines.Put client tag request)

abbrev pub issue_words : List ℕ → Result PortLine LineFault
issue_words rest = do
  tag ← slot_in rest
  _ ← none_left (after_words 1 rest)
  Ok (lines.Issue tag)

abbrev pub accept_words : List ℕ → Result PortLine LineFault
accept_words rest = do
  tag ← slot_in rest
  _ ← none_left (after_words 1 rest)
  Ok (lines.Accept tag)

abbrev pub complete_words : List ℕ → Result PortLine LineFault
complete_words rest = do
  tag ← slot_in rest
  _ ← none_left (after_words 1 rest)
  Ok (lines.Complete tag)

abbrev pub recover_words : List ℕ → Result PortLine LineFault
recover_words rest = do
  _ ← none_left rest
  Ok lines.Recover

abbrev pub reset_words : List ℕ → Result PortLine LineFault
reset_words rest = do
  client ← number_of_field fields.Client (nth_word 0 rest)
  kind ← reset_in (nth_word 1 rest)
  _ ← none_left (after_words 2 rest)
  Ok (lines.Reset client kind)

abbrev pub take_words : List ℕ → Result PortLine LineFault
take_words rest = do
  client ← number_of_field fields.Client (nth_word 0 rest)
  tag ← number_of_field fields.Tag (nth_word 1 rest)
  _ ← none_left (after_words 2 rest)
  Ok (lines.Take client tag)

abbrev pub port_verb_words : PortVerb → List ℕ → Result PortLine LineFault
port_verb_words steps.Range rest = range_words rest
port_verb_words steps.Put rest = put_words rest
port_verb_words steps.Issue rest = issue_words rest
port_verb_words steps.Accept rest = accept_words rest
port_verb_words steps.Complete rest = complete_words rest
port_verb_words steps.Recover rest = recover_words rest
port_verb_words steps.Reset rest = reset_words rest
port_verb_words steps.Take rest = take_words rest
port_verb_words steps.Expect rest = Ok lines.Expect

-- the words of a port script, each with its verb
abbrev pub port_words : List (List ℕ × PortVerb)
port_words =
    (codes "put", steps.Put)
    ∷ (codes "issue", steps.Issue)
    ∷ (codes "accept", steps.Accept)
    ∷ (codes "complete", steps.Complete)
    ∷ (codes "take", steps.Take)
    ∷ (codes "recover", steps.Recover)
    ∷ (codes "reset", steps.Reset)
    ∷ (codes "expect", steps.Expect)
    ∷ (codes "range", steps.Range)
    ∷ []

abbrev pub port_verb_among : List (List ℕ × PortVerb) → List ℕ → Option PortVerb
port_verb_among [] nth_word = None
port_verb_among (named ∷ others) nth_word =
    if bytes_eq nth_word named.0 then Some named.1 else port_verb_among others nth_word

abbrev pub port_verb_of : List ℕ → Option PortVerb
port_verb_of nth_word = port_verb_among port_words nth_word

-- what a line of a port script says, or what is wrong with it
abbrev pub port_line_of : List ℕ → Result PortLine LineFault
port_line_of text =
    or_fault UnknownStep (port_verb_of (first_word text)) >>= λ verb. port_verb_words verb
    (after_word text)

-- the word `port` alone
abbrev pub is_port_line : List ℕ → Bool
is_port_line text =
    bytes_eq (first_word text) (codes "port") && length (first_word (after_word text)) == 0

-- the bytes of a line, of which there is one at least, are not too many
abbrev pub FitsPut : PutRequest → Type 0
FitsPut (requests.Call com_id session tokens) =
    (0 < length tokens) × (length tokens ≤ most_call_bytes)
FitsPut (requests.Send com_id packet) = (0 < length packet) × (length packet ≤ most_send_bytes)
FitsPut (requests.SecurityOut protocol sp_specific payload) =
    (0 < length payload) × (length payload ≤ most_send_bytes)
FitsPut _ = ⊤

abbrev pub FitsPort : PortLine → Type 0
FitsPort (lines.Put client tag request) = FitsPut request
FitsPort _ = ⊤
