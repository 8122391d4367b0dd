-- What is wrong with a text is what is wrong with the words that it spells.
use Rattle.std.proofs.Common.{◌≡◌, ℕ, ◌==◌, Bool, true, false, List, [], ◌∷◌, length, refl, ap, ◌∙◌, Option, Some, None, Result, Ok, Err, if◌then◌else◌}
use Rattle.locking.specs.declared.range.RangeRow.{RangeRow}
use Rattle.script_lines.specs.Words.{nth_word, after_words, first_word, after_word}
use Rattle.script_lines.specs.Verbs.{verb_of}
use Rattle.script_lines.specs.Fields.{◌>>=◌, or_fault, number_of_field}
use Rattle.script_lines.specs.Groups.{range_in, transfer_in, dma_transfer_in}
use Rattle.script_lines.specs.Lines.{ended, range_line, read_line, write_line, read_dma_line, write_dma_line, call_line, send_line, receive_line, security_in_line, security_out_line, identify_line, log_line, reset_line, tper_reset_line, verb_line}
use Rattle.script_lines.specs.PortLines.{transfer_words, slot_in, read_words, write_words, read_dma_words, write_dma_words, call_words, send_words, receive_words, security_in_words, security_out_words, identify_words, request_words, range_words, put_words, issue_words, accept_words, complete_words, recover_words, reset_words, take_words, port_verb_words, port_verb_of, port_line_of}
use Rattle.script_lines.specs.PortLines as port
use Rattle.script_lines.specs.Spellings.{IsMadeOfWords}
use Rattle.script_lines.specs.Faults.{none_left, any_left, range_fields, reset_fields, fields_of, fault_behind, in_line, request_fields, in_named_request, in_request_of, in_request, step_fields, behind_step, in_port_line, fault_in}
use Rattle.script_lines.specs.Laws.{BadLineLaw, BadPortLineLaw}
use Rattle.script_lines.specs.declared.fault.LineFault.{LineFault}
use Rattle.script_lines.specs.declared.fault.LineFault.TheVariants.{UnknownWord, UnknownStep, UnknownRequest, Extra}
use Rattle.script_lines.specs.declared.field.Field.{Field}
use Rattle.script_lines.specs.declared.field.Field.TheVariants as fields
use Rattle.script_lines.specs.declared.verb.Verb.{Verb}
use Rattle.script_lines.specs.declared.verb.Verb.TheVariants as verbs
use Rattle.script_lines.specs.declared.verb.PortVerb.{PortVerb}
use Rattle.script_lines.specs.declared.verb.PortVerb.TheVariants as steps
use Rattle.script_lines.specs.declared.line.Transfer.{Transfer}
use Rattle.script_lines.specs.declared.line.DmaTransfer.{DmaTransfer}
use Rattle.script_lines.specs.declared.line.Line.{Line}
use Rattle.script_lines.specs.declared.line.Line.TheVariants as lines
use Rattle.script_lines.specs.declared.port_line.PortLine.TheVariants as ports
use Rattle.script_lines.proofs.SpellingLaws.{first_is, after_is, none_first}
use Rattle.script_lines.proofs.FieldFaults.{extra_if, in_text, text_is, none_text, none_is, Agree, with_number, with_number_in, with_flag_in, with_byte, with_hex}

-- where no word may be left
end_by : (b : Bool) (line : Line) → fault_in (if b then Ok line else Err Extra) ≡ extra_if b
end_by true line = refl
end_by false line = refl

end_is : (text : List ℕ) (line : Line) → fault_in (ended text line) ≡ none_text text
end_is text line = end_by (length (first_word text) == 0) line

-- words that together say one thing, and what follows them
range_is : {A : Type 0} (text : List ℕ) (g : RangeRow → Result A LineFault) (rest : List ℕ → Option LineFault)
    → ((row : RangeRow) → fault_in (g row) ≡ rest (after_words 7 text)) → fault_in (range_in text >>= g) ≡ in_text range_fields rest text
range_is text g rest next =
    with_number_in fields.Range (nth_word 0 text) _ g _ (λ range.
    with_number_in fields.Start (nth_word 1 text) _ g _ (λ start.
    with_number_in fields.Length (nth_word 2 text) _ g _ (λ len.
    with_flag_in fields.ReadLockEnabled (nth_word 3 text) _ g _ (λ read_enabled.
    with_flag_in fields.WriteLockEnabled (nth_word 4 text) _ g _ (λ write_enabled.
    with_flag_in fields.ReadLocked (nth_word 5 text) _ g _ (λ read_locked.
    with_flag_in fields.WriteLocked (nth_word 6 text) _ g _ (λ write_locked. next _)))))))

transfer_is : {A : Type 0} (text : List ℕ) (g : Transfer → Result A LineFault) (others : List Field) (rest : List ℕ → Option LineFault)
    → ((t : Transfer) → fault_in (g t) ≡ in_text others rest (after_words 4 text))
    → fault_in (transfer_in text >>= g) ≡ in_text (fields.Client ∷ fields.Tag ∷ fields.Address ∷ fields.Count ∷ others) rest text
transfer_is text g others rest next =
    with_number_in fields.Client (nth_word 0 text) _ g _ (λ client.
    with_number_in fields.Tag (nth_word 1 text) _ g _ (λ tag.
    with_number_in fields.Address (nth_word 2 text) _ g _ (λ lba.
    with_number_in fields.Count (nth_word 3 text) _ g _ (λ count. next _))))

dma_is : {A : Type 0} (text : List ℕ) (g : DmaTransfer → Result A LineFault) (others : List Field) (rest : List ℕ → Option LineFault)
    → ((t : DmaTransfer) → fault_in (g t) ≡ in_text others rest (after_words 3 text))
    → fault_in (dma_transfer_in text >>= g) ≡ in_text (fields.Client ∷ fields.DmaAddress ∷ fields.DmaCount ∷ others) rest text
dma_is text g others rest next =
    with_number_in fields.Client (nth_word 0 text) _ g _ (λ client.
    with_number_in fields.DmaAddress (nth_word 1 text) _ g _ (λ lba.
    with_number_in fields.DmaCount (nth_word 2 text) _ g _ (λ count. next _)))

reset_is : {A : Type 0} (text : List ℕ) (f : ℕ → Result A LineFault) (rest : List ℕ → Option LineFault)
    → ((client : ℕ) → fault_in (f client) ≡ in_text (fields.ResetKind ∷ []) rest (after_word text))
    → fault_in (number_of_field fields.Client (nth_word 0 text) >>= f) ≡ in_text reset_fields rest text
reset_is text f rest next = with_number fields.Client (nth_word 0 text) f _ next

-- each line
range_line_is : (text : List ℕ) → fault_in (range_line text) ≡ in_text range_fields none_text text
range_line_is text = range_is text _ none_text (λ row. end_is (after_words 7 text) (lines.Range row))

read_line_is : (text : List ℕ) → fault_in (read_line text) ≡ in_text (fields_of verbs.Read) none_text text
read_line_is text = transfer_is text _ [] none_text (λ t. end_is (after_words 4 text) (lines.Read t))

write_line_is : (text : List ℕ) → fault_in (write_line text) ≡ in_text (fields_of verbs.Write) none_text text
write_line_is text =
    transfer_is text _ (fields.Byte ∷ []) none_text (λ t. with_byte fields.Byte (nth_word 4 text) _ _ (λ byte. end_is (after_words 5 text) (lines.Write t byte)))

read_dma_line_is : (text : List ℕ) → fault_in (read_dma_line text) ≡ in_text (fields_of verbs.ReadDma) none_text text
read_dma_line_is text = dma_is text _ [] none_text (λ t. end_is (after_words 3 text) (lines.ReadDma t))

write_dma_line_is : (text : List ℕ) → fault_in (write_dma_line text) ≡ in_text (fields_of verbs.WriteDma) none_text text
write_dma_line_is text =
    dma_is text _ (fields.DmaByte ∷ []) none_text (λ t. with_byte fields.DmaByte (nth_word 3 text) _ _ (λ byte. end_is (after_words 4 text) (lines.WriteDma t byte)))

call_line_is : (text : List ℕ) → fault_in (call_line text) ≡ in_text (fields_of verbs.Call) none_text text
call_line_is text =
    with_number fields.Client (nth_word 0 text) _ _ (λ client.
    with_number fields.ComId (nth_word 1 text) _ _ (λ com_id.
    with_number_in fields.TperSession (nth_word 2 text) _ _ _ (λ tsn.
    with_number_in fields.HostSession (nth_word 3 text) _ _ _ (λ hsn.
    with_hex fields.Tokens (nth_word 4 text) _ _ (λ tokens. end_is (after_words 5 text) (lines.Call client com_id _ tokens))))))

send_line_is : (text : List ℕ) → fault_in (send_line text) ≡ in_text (fields_of verbs.Send) none_text text
send_line_is text =
    with_number fields.Client (nth_word 0 text) _ _ (λ client.
    with_number fields.ComId (nth_word 1 text) _ _ (λ com_id.
    with_hex fields.ComPacket (nth_word 2 text) _ _ (λ packet. end_is (after_words 3 text) (lines.Send client com_id packet))))

receive_line_is : (text : List ℕ) → fault_in (receive_line text) ≡ in_text (fields_of verbs.Receive) none_text text
receive_line_is text =
    with_number fields.Client (nth_word 0 text) _ _ (λ client.
    with_number fields.ComId (nth_word 1 text) _ _ (λ com_id.
    with_number fields.Blocks (nth_word 2 text) _ _ (λ blocks. end_is (after_words 3 text) (lines.Receive client com_id blocks))))

security_in_line_is : (text : List ℕ) → fault_in (security_in_line text) ≡ in_text (fields_of verbs.SecurityIn) none_text text
security_in_line_is text =
    with_number fields.Client (nth_word 0 text) _ _ (λ client.
    with_number fields.Protocol (nth_word 1 text) _ _ (λ protocol.
    with_number fields.SpSpecific (nth_word 2 text) _ _ (λ sp_specific.
    with_number fields.SecurityBlocks (nth_word 3 text) _ _ (λ blocks. end_is (after_words 4 text) (lines.SecurityIn client protocol sp_specific blocks)))))

security_out_line_is : (text : List ℕ) → fault_in (security_out_line text) ≡ in_text (fields_of verbs.SecurityOut) none_text text
security_out_line_is text =
    with_number fields.Client (nth_word 0 text) _ _ (λ client.
    with_number fields.Protocol (nth_word 1 text) _ _ (λ protocol.
    with_number fields.SpSpecific (nth_word 2 text) _ _ (λ sp_specific.
    with_hex fields.SecurityBytes (nth_word 3 text) _ _ (λ payload. end_is (after_words 4 text) (lines.SecurityOut client protocol sp_specific payload)))))

identify_line_is : (text : List ℕ) → fault_in (identify_line text) ≡ in_text (fields_of verbs.Identify) none_text text
identify_line_is text = with_number fields.Client (nth_word 0 text) _ _ (λ client. end_is (after_words 1 text) (lines.Identify client))

log_line_is : (text : List ℕ) → fault_in (log_line text) ≡ in_text (fields_of verbs.Log) none_text text
log_line_is text = with_number fields.Client (nth_word 0 text) _ _ (λ client. end_is (after_words 1 text) (lines.Log client))

reset_line_is : (text : List ℕ) → fault_in (reset_line text) ≡ in_text reset_fields none_text text
reset_line_is text =
    with_number fields.Client (nth_word 0 text) _ _ (λ client.
    with_flag_in fields.ResetKind (nth_word 1 text) _ _ _ (λ hardware. end_is (after_words 2 text) (lines.Reset client _)))

tper_reset_line_is : (text : List ℕ) → fault_in (tper_reset_line text) ≡ in_text (fields_of verbs.TperReset) none_text text
tper_reset_line_is text = with_number fields.Client (nth_word 0 text) _ _ (λ client. end_is (after_words 1 text) (lines.TperReset client))

-- what may stand behind the fields of a line
abbrev any_text : List ℕ → Option LineFault
any_text text = None

any_is : Agree any_text any_left
any_is words text s = refl

abbrev behind_text : Verb → List ℕ → Option LineFault
behind_text verbs.Expect = any_text
behind_text verb = none_text

behind_is : (verb : Verb) → Agree (behind_text verb) (fault_behind verb)
behind_is verbs.Range = none_is
behind_is verbs.Read = none_is
behind_is verbs.Write = none_is
behind_is verbs.ReadDma = none_is
behind_is verbs.WriteDma = none_is
behind_is verbs.Call = none_is
behind_is verbs.Send = none_is
behind_is verbs.Receive = none_is
behind_is verbs.SecurityIn = none_is
behind_is verbs.SecurityOut = none_is
behind_is verbs.Identify = none_is
behind_is verbs.Log = none_is
behind_is verbs.Reset = none_is
behind_is verbs.TperReset = none_is
behind_is verbs.Expect = any_is

verb_is : (verb : Verb) (text : List ℕ) → fault_in (verb_line verb text) ≡ in_text (fields_of verb) (behind_text verb) text
verb_is verbs.Range text = range_line_is text
verb_is verbs.Read text = read_line_is text
verb_is verbs.Write text = write_line_is text
verb_is verbs.ReadDma text = read_dma_line_is text
verb_is verbs.WriteDma text = write_dma_line_is text
verb_is verbs.Call text = call_line_is text
verb_is verbs.Send text = send_line_is text
verb_is verbs.Receive text = receive_line_is text
verb_is verbs.SecurityIn text = security_in_line_is text
verb_is verbs.SecurityOut text = security_out_line_is text
verb_is verbs.Identify text = identify_line_is text
verb_is verbs.Log text = log_line_is text
verb_is verbs.Reset text = reset_line_is text
verb_is verbs.TperReset text = tper_reset_line_is text
verb_is verbs.Expect text = refl

line_by : (v : Option Verb) (words : List (List ℕ)) (text : List ℕ) → IsMadeOfWords words text
    → fault_in (or_fault UnknownWord v >>= λ verb. verb_line verb text) ≡ in_line v words
line_by None words text s = refl
line_by (Some verb) words text s =
    verb_is verb text ∙ text_is (fields_of verb) (behind_text verb) (fault_behind verb) (behind_is verb) words text s

pub bad_line_law : BadLineLaw
bad_line_law text [] s =
    ap (λ w. fault_in (or_fault UnknownWord (verb_of w) >>= λ verb. verb_line verb (after_word text))) (none_first text s)
bad_line_law text (name ∷ words) s =
    ap (λ w. fault_in (or_fault UnknownWord (verb_of w) >>= λ verb. verb_line verb (after_word text))) (first_is text name s.0 s.1)
    ∙ ap (λ r. fault_in (or_fault UnknownWord (verb_of name) >>= λ verb. verb_line verb r)) (after_is text name s.0 s.1)
    ∙ line_by (verb_of name) words s.0 s.2

-- the lines of a port script
unit_by : {A : Type 0} (b : Bool) (x : A) → fault_in ((if b then Ok tt else Err Extra) >>= λ (_ : Unit {0}). Ok x) ≡ extra_if b
unit_by true x = refl
unit_by false x = refl

then_none : {A : Type 0} (text : List ℕ) (x : A) → fault_in (port.none_left text >>= λ _. Ok x) ≡ none_text text
then_none text x = unit_by (length (first_word text) == 0) x

at_is : {A : Type 0} (text : List ℕ) (g : ℕ × ℕ → Result A LineFault) (others : List Field) (rest : List ℕ → Option LineFault)
    → ((at : ℕ × ℕ) → fault_in (g at) ≡ in_text others rest (after_words 2 text))
    → fault_in (transfer_words text >>= g) ≡ in_text (fields.PutAddress ∷ fields.PutCount ∷ others) rest text
at_is text g others rest next =
    with_number_in fields.PutAddress (nth_word 0 text) _ g _ (λ lba.
    with_number_in fields.PutCount (nth_word 1 text) _ g _ (λ count. next _))

read_words_are : (text : List ℕ) → fault_in (read_words text) ≡ in_text (fields.PutAddress ∷ fields.PutCount ∷ []) none_text text
read_words_are text = at_is text _ [] none_text (λ at. then_none (after_words 2 text) _)

write_words_are : (text : List ℕ) → fault_in (write_words text) ≡ in_text (fields.PutAddress ∷ fields.PutCount ∷ fields.PutByte ∷ []) none_text text
write_words_are text =
    at_is text _ (fields.PutByte ∷ []) none_text (λ at. with_byte fields.PutByte (nth_word 2 text) _ _ (λ byte. then_none (after_words 3 text) _))

read_dma_words_are : (text : List ℕ) → fault_in (read_dma_words text) ≡ in_text (fields.PutAddress ∷ fields.PutCount ∷ []) none_text text
read_dma_words_are text = at_is text _ [] none_text (λ at. then_none (after_words 2 text) _)

write_dma_words_are : (text : List ℕ)
    → fault_in (write_dma_words text) ≡ in_text (fields.PutAddress ∷ fields.PutCount ∷ fields.PutByte ∷ []) none_text text
write_dma_words_are text =
    at_is text _ (fields.PutByte ∷ []) none_text (λ at. with_byte fields.PutByte (nth_word 2 text) _ _ (λ byte. then_none (after_words 3 text) _))

call_words_are : (text : List ℕ)
    → fault_in (call_words text) ≡ in_text (fields.PutComId ∷ fields.PutTperSession ∷ fields.PutHostSession ∷ fields.PutTokens ∷ []) none_text text
call_words_are text =
    with_number fields.PutComId (nth_word 0 text) _ _ (λ com_id.
    with_number fields.PutTperSession (nth_word 1 text) _ _ (λ tsn.
    with_number fields.PutHostSession (nth_word 2 text) _ _ (λ hsn.
    with_hex fields.PutTokens (nth_word 3 text) _ _ (λ tokens. then_none (after_words 4 text) _))))

send_words_are : (text : List ℕ) → fault_in (send_words text) ≡ in_text (fields.PutComId ∷ fields.PutComPacket ∷ []) none_text text
send_words_are text =
    with_number fields.PutComId (nth_word 0 text) _ _ (λ com_id.
    with_hex fields.PutComPacket (nth_word 1 text) _ _ (λ packet. then_none (after_words 2 text) _))

receive_words_are : (text : List ℕ) → fault_in (receive_words text) ≡ in_text (fields.PutComId ∷ fields.PutBlocks ∷ []) none_text text
receive_words_are text =
    with_number fields.PutComId (nth_word 0 text) _ _ (λ com_id.
    with_number fields.PutBlocks (nth_word 1 text) _ _ (λ blocks. then_none (after_words 2 text) _))

security_in_words_are : (text : List ℕ)
    → fault_in (security_in_words text) ≡ in_text (fields.PutProtocol ∷ fields.PutSpSpecific ∷ fields.PutSecurityBlocks ∷ []) none_text text
security_in_words_are text =
    with_number fields.PutProtocol (nth_word 0 text) _ _ (λ protocol.
    with_number fields.PutSpSpecific (nth_word 1 text) _ _ (λ sp_specific.
    with_number fields.PutSecurityBlocks (nth_word 2 text) _ _ (λ blocks. then_none (after_words 3 text) _)))

security_out_words_are : (text : List ℕ)
    → fault_in (security_out_words text) ≡ in_text (fields.PutProtocol ∷ fields.PutSpSpecific ∷ fields.PutSecurityBytes ∷ []) none_text text
security_out_words_are text =
    with_number fields.PutProtocol (nth_word 0 text) _ _ (λ protocol.
    with_number fields.PutSpSpecific (nth_word 1 text) _ _ (λ sp_specific.
    with_hex fields.PutSecurityBytes (nth_word 2 text) _ _ (λ payload. then_none (after_words 3 text) _)))

identify_words_are : (text : List ℕ) → fault_in (identify_words text) ≡ in_text [] none_text text
identify_words_are text = then_none text _

-- a request
abbrev named_text : Option (List Field) → List ℕ → Option LineFault
named_text None text = Some UnknownRequest
named_text (Some list) text = in_text list none_text text

abbrev request_text_of : Option Verb → List ℕ → Option LineFault
request_text_of None text = Some UnknownRequest
request_text_of (Some verb) text = named_text (request_fields verb) text

abbrev request_text : List ℕ → Option LineFault
request_text text = request_text_of (verb_of (first_word text)) (after_word text)

named_by : (list : Option (List Field)) → Agree (named_text list) (in_named_request list)
named_by None words text s = refl
named_by (Some list) words text s = text_is list none_text none_left none_is words text s

request_by : (v : Option Verb) → Agree (request_text_of v) (in_request_of v)
request_by None words text s = refl
request_by (Some verb) words text s = named_by (request_fields verb) words text s

request_agrees : Agree request_text in_request
request_agrees [] text s = ap (λ w. request_text_of (verb_of w) (after_word text)) (none_first text s)
request_agrees (name ∷ words) text s =
    ap (λ w. request_text_of (verb_of w) (after_word text)) (first_is text name s.0 s.1)
    ∙ ap (λ r. request_text_of (verb_of name) r) (after_is text name s.0 s.1)
    ∙ request_by (verb_of name) words s.0 s.2

request_words_are : (verb : Verb) (text : List ℕ) → fault_in (request_words verb text) ≡ named_text (request_fields verb) text
request_words_are verbs.Read text = read_words_are text
request_words_are verbs.Write text = write_words_are text
request_words_are verbs.ReadDma text = read_dma_words_are text
request_words_are verbs.WriteDma text = write_dma_words_are text
request_words_are verbs.Call text = call_words_are text
request_words_are verbs.Send text = send_words_are text
request_words_are verbs.Receive text = receive_words_are text
request_words_are verbs.SecurityIn text = security_in_words_are text
request_words_are verbs.SecurityOut text = security_out_words_are text
request_words_are verbs.Identify text = identify_words_are text
request_words_are verbs.TperReset text = refl
request_words_are verbs.Range text = refl
request_words_are verbs.Log text = refl
request_words_are verbs.Reset text = refl
request_words_are verbs.Expect text = refl

as_read : {A B : Type 0} (r : Result A LineFault) (f : A → B) → fault_in (r >>= λ x. Ok (f x)) ≡ fault_in r
as_read (Ok x) f = refl
as_read (Err e) f = refl

then_request : (v : Option Verb) (text : List ℕ) (client tag : ℕ)
    → fault_in (or_fault UnknownRequest v >>= λ verb. request_words verb text >>= λ request. Ok (ports.Put client tag request)) ≡ request_text_of v text
then_request None text client tag = refl
then_request (Some verb) text client tag =
    as_read (request_words verb text) (λ request. ports.Put client tag request) ∙ request_words_are verb text

range_words_are : (text : List ℕ) → fault_in (range_words text) ≡ in_text range_fields none_text text
range_words_are text = range_is text _ none_text (λ row. then_none (after_words 7 text) _)

put_words_are : (text : List ℕ) → fault_in (put_words text) ≡ in_text (fields.Client ∷ fields.Tag ∷ []) request_text text
put_words_are text =
    with_number fields.Client (nth_word 0 text) _ _ (λ client.
    with_number fields.Tag (nth_word 1 text) _ _ (λ tag. then_request (verb_of (nth_word 2 text)) (after_words 3 text) client tag))

issue_words_are : (text : List ℕ) → fault_in (issue_words text) ≡ in_text (fields.Slot ∷ []) none_text text
issue_words_are text = with_number fields.Slot (nth_word 0 text) _ _ (λ tag. then_none (after_words 1 text) _)

accept_words_are : (text : List ℕ) → fault_in (accept_words text) ≡ in_text (fields.Slot ∷ []) none_text text
accept_words_are text = with_number fields.Slot (nth_word 0 text) _ _ (λ tag. then_none (after_words 1 text) _)

complete_words_are : (text : List ℕ) → fault_in (complete_words text) ≡ in_text (fields.Slot ∷ []) none_text text
complete_words_are text = with_number fields.Slot (nth_word 0 text) _ _ (λ tag. then_none (after_words 1 text) _)

reset_words_are : (text : List ℕ) → fault_in (reset_words text) ≡ in_text reset_fields none_text text
reset_words_are text =
    with_number fields.Client (nth_word 0 text) _ _ (λ client.
    with_flag_in fields.ResetKind (nth_word 1 text) _ _ _ (λ hardware. then_none (after_words 2 text) _))

take_words_are : (text : List ℕ) → fault_in (take_words text) ≡ in_text (fields.Client ∷ fields.Tag ∷ []) none_text text
take_words_are text =
    with_number fields.Client (nth_word 0 text) _ _ (λ client.
    with_number fields.Tag (nth_word 1 text) _ _ (λ tag. then_none (after_words 2 text) _))

abbrev step_text : PortVerb → List ℕ → Option LineFault
step_text steps.Put = request_text
step_text steps.Expect = any_text
step_text verb = none_text

step_agrees : (verb : PortVerb) → Agree (step_text verb) (behind_step verb)
step_agrees steps.Range = none_is
step_agrees steps.Put = request_agrees
step_agrees steps.Issue = none_is
step_agrees steps.Accept = none_is
step_agrees steps.Complete = none_is
step_agrees steps.Recover = none_is
step_agrees steps.Reset = none_is
step_agrees steps.Take = none_is
step_agrees steps.Expect = any_is

step_is : (verb : PortVerb) (text : List ℕ) → fault_in (port_verb_words verb text) ≡ in_text (step_fields verb) (step_text verb) text
step_is steps.Range text = range_words_are text
step_is steps.Put text = put_words_are text
step_is steps.Issue text = issue_words_are text
step_is steps.Accept text = accept_words_are text
step_is steps.Complete text = complete_words_are text
step_is steps.Recover text = then_none text _
step_is steps.Reset text = reset_words_are text
step_is steps.Take text = take_words_are text
step_is steps.Expect text = refl

port_line_by : (v : Option PortVerb) (words : List (List ℕ)) (text : List ℕ) → IsMadeOfWords words text
    → fault_in (or_fault UnknownStep v >>= λ verb. port_verb_words verb text) ≡ in_port_line v words
port_line_by None words text s = refl
port_line_by (Some verb) words text s =
    step_is verb text ∙ text_is (step_fields verb) (step_text verb) (behind_step verb) (step_agrees verb) words text s

pub bad_port_line_law : BadPortLineLaw
bad_port_line_law text [] s =
    ap (λ w. fault_in (or_fault UnknownStep (port_verb_of w) >>= λ verb. port_verb_words verb (after_word text))) (none_first text s)
bad_port_line_law text (name ∷ words) s =
    ap (λ w. fault_in (or_fault UnknownStep (port_verb_of w) >>= λ verb. port_verb_words verb (after_word text))) (first_is text name s.0 s.1)
    ∙ ap (λ r. fault_in (or_fault UnknownStep (port_verb_of name) >>= λ verb. port_verb_words verb r)) (after_is text name s.0 s.1)
    ∙ port_line_by (port_verb_of name) words s.0 s.2

pub ruleset of_bad_lines = (bad_line_law, bad_port_line_law)
