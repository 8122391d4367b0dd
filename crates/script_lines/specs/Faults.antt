-- What is wrong with the words of a line: the first word, from the left, that is none of a name, is missing, or is none that its
-- field takes; and where all fields have their words, a word behind the last one.
use Rattle.std.specs.Prelude.{ℕ, Bool, ◌&&◌, nat_le, if◌then◌else◌, List, [], ◌∷◌, Option, Some, None, Result, Ok, Err}
use Rattle.std.specs.Str.Parse.{digits_value}
use Rattle.script_lines.specs.Numbers.{is_numeral}
use Rattle.script_lines.specs.Hexes.{is_hex_up_to}
use Rattle.script_lines.specs.Fields.{most_of, most_call_bytes, most_send_bytes}
use Rattle.script_lines.specs.Verbs.{verb_of}
use Rattle.script_lines.specs.PortLines.{port_verb_of}
use Rattle.script_lines.specs.declared.fault.LineFault.{LineFault}
use Rattle.script_lines.specs.declared.fault.LineFault.TheVariants.{UnknownWord, UnknownStep, UnknownRequest, Missing, Wrong, Extra}
use Rattle.script_lines.specs.declared.field.Field.{Field}
use Rattle.script_lines.specs.declared.field.Field.TheVariants as fields
use Rattle.script_lines.specs.declared.verb.Verb.{Verb}
use Rattle.script_lines.specs.declared.verb.Verb.TheVariants as verbs
use Rattle.script_lines.specs.declared.verb.PortVerb.{PortVerb}
use Rattle.script_lines.specs.declared.verb.PortVerb.TheVariants as steps

-- whether a word is one that the field takes: two hex digits for a byte, hex text for tokens and ComPackets, and else a number
abbrev pub takes : Field → List ℕ → Bool
takes fields.Byte word = is_hex_up_to 1 word
takes fields.DmaByte word = is_hex_up_to 1 word
takes fields.PutByte word = is_hex_up_to 1 word
takes fields.Tokens word = is_hex_up_to most_call_bytes word
takes fields.PutTokens word = is_hex_up_to most_call_bytes word
takes fields.ComPacket word = is_hex_up_to most_send_bytes word
takes fields.PutComPacket word = is_hex_up_to most_send_bytes word
takes fields.SecurityBytes word = is_hex_up_to most_send_bytes word
takes fields.PutSecurityBytes word = is_hex_up_to most_send_bytes word
takes field word = is_numeral word && nat_le (digits_value 10 word) (most_of field)

-- what is wrong with words that stand for these fields, and with those behind them
abbrev pub in_fields : List Field → (List (List ℕ) → Option LineFault) → List (List ℕ)
    → Option LineFault
in_fields [] fault_behind words = fault_behind words
in_fields (field ∷ others) fault_behind [] = Some (Missing field)
in_fields (field ∷ others) fault_behind (word ∷ words) =
    if takes field word then in_fields others fault_behind words else Some (Wrong field)

-- no word may be left
abbrev pub none_left : List (List ℕ) → Option LineFault
none_left [] = None
none_left (word ∷ words) = Some Extra

-- any words may stand there
abbrev pub any_left : List (List ℕ) → Option LineFault
any_left words = None

-- the fields of a range row, and of a reset
abbrev pub range_fields : List Field
range_fields =
    fields.Range
    ∷ fields.Start
    ∷ fields.Length
    ∷ fields.ReadLockEnabled
    ∷ fields.WriteLockEnabled
    ∷ fields.ReadLocked
    ∷ fields.WriteLocked
    ∷ []

abbrev pub reset_fields : List Field
reset_fields = fields.Client ∷ fields.ResetKind ∷ []

-- the fields behind the name of a line
abbrev pub fields_of : Verb → List Field
fields_of verbs.Range = range_fields
fields_of verbs.Read = fields.Client ∷ fields.Tag ∷ fields.Address ∷ fields.Count ∷ []
fields_of verbs.Write =
    fields.Client ∷ fields.Tag ∷ fields.Address ∷ fields.Count ∷ fields.Byte ∷ []
fields_of verbs.ReadDma = fields.Client ∷ fields.DmaAddress ∷ fields.DmaCount ∷ []
fields_of verbs.WriteDma = fields.Client ∷ fields.DmaAddress ∷ fields.DmaCount ∷ fields.DmaByte ∷ []
fields_of verbs.Call =
    fields.Client ∷ fields.ComId ∷ fields.TperSession ∷ fields.HostSession ∷ fields.Tokens ∷ []
fields_of verbs.Send = fields.Client ∷ fields.ComId ∷ fields.ComPacket ∷ []
fields_of verbs.Receive = fields.Client ∷ fields.ComId ∷ fields.Blocks ∷ []
fields_of verbs.SecurityIn =
    fields.Client ∷ fields.Protocol ∷ fields.SpSpecific ∷ fields.SecurityBlocks ∷ []
fields_of verbs.SecurityOut =
    fields.Client ∷ fields.Protocol ∷ fields.SpSpecific ∷ fields.SecurityBytes ∷ []
fields_of verbs.Identify = fields.Client ∷ []
fields_of verbs.Log = fields.Client ∷ []
fields_of verbs.Reset = reset_fields
fields_of verbs.TperReset = fields.Client ∷ []
fields_of verbs.Expect = []

-- behind `expect` any words may stand
abbrev pub fault_behind : Verb → List (List ℕ) → Option LineFault
fault_behind verbs.Expect = any_left
fault_behind verb = none_left

-- what is wrong with the words behind a name that is one of a line
abbrev pub in_line : Option Verb → List (List ℕ) → Option LineFault
in_line None words = Some UnknownWord
in_line (Some verb) words = in_fields (fields_of verb) (fault_behind verb) words

-- what is wrong with the words of a line
abbrev pub wrong_in : List (List ℕ) → Option LineFault
wrong_in [] = Some UnknownWord
wrong_in (name ∷ words) = in_line (verb_of name) words

-- the fields behind the name of a request, where it is one
abbrev pub request_fields : Verb → Option (List Field)
request_fields verbs.Read = Some (fields.PutAddress ∷ fields.PutCount ∷ [])
request_fields verbs.Write = Some (fields.PutAddress ∷ fields.PutCount ∷ fields.PutByte ∷ [])
request_fields verbs.ReadDma = Some (fields.PutAddress ∷ fields.PutCount ∷ [])
request_fields verbs.WriteDma = Some (fields.PutAddress ∷ fields.PutCount ∷ fields.PutByte ∷ [])
request_fields verbs.Call =
    Some (fields.PutComId ∷ fields.PutTperSession ∷ fields.PutHostSession ∷ fields.PutTokens ∷ [])
request_fields verbs.Send = Some (fields.PutComId ∷ fields.PutComPacket ∷ [])
request_fields verbs.Receive = Some (fields.PutComId ∷ fields.PutBlocks ∷ [])
request_fields verbs.SecurityIn =
    Some (fields.PutProtocol ∷ fields.PutSpSpecific ∷ fields.PutSecurityBlocks ∷ [])
request_fields verbs.SecurityOut =
    Some (fields.PutProtocol ∷ fields.PutSpSpecific ∷ fields.PutSecurityBytes ∷ [])
request_fields verbs.Identify = Some []
request_fields _ = None

-- what is wrong with the words behind the name of a request
abbrev pub in_named_request : Option (List Field) → List (List ℕ) → Option LineFault
in_named_request None words = Some UnknownRequest
in_named_request (Some list) words = in_fields list none_left words

abbrev pub in_request_of : Option Verb → List (List ℕ) → Option LineFault
in_request_of None words = Some UnknownRequest
in_request_of (Some verb) words = in_named_request (request_fields verb) words

-- what is wrong with a request: its name, and the words behind it
abbrev pub in_request : List (List ℕ) → Option LineFault
in_request [] = Some UnknownRequest
in_request (name ∷ words) = in_request_of (verb_of name) words

-- the fields behind the name of a line of a port script, in front of a request where it has one
abbrev pub step_fields : PortVerb → List Field
step_fields steps.Range = range_fields
step_fields steps.Put = fields.Client ∷ fields.Tag ∷ []
step_fields steps.Issue = fields.Slot ∷ []
step_fields steps.Accept = fields.Slot ∷ []
step_fields steps.Complete = fields.Slot ∷ []
step_fields steps.Recover = []
step_fields steps.Reset = reset_fields
step_fields steps.Take = fields.Client ∷ fields.Tag ∷ []
step_fields steps.Expect = []

abbrev pub behind_step : PortVerb → List (List ℕ) → Option LineFault
behind_step steps.Put = in_request
behind_step steps.Expect = any_left
behind_step verb = none_left

abbrev pub in_port_line : Option PortVerb → List (List ℕ) → Option LineFault
in_port_line None words = Some UnknownStep
in_port_line (Some verb) words = in_fields (step_fields verb) (behind_step verb) words

-- what is wrong with the words of a line of a port script
abbrev pub wrong_in_port : List (List ℕ) → Option LineFault
wrong_in_port [] = Some UnknownStep
wrong_in_port (name ∷ words) = in_port_line (port_verb_of name) words

-- what is wrong by a reading
abbrev pub fault_in : {A : Type 0} → Result A LineFault → Option LineFault
fault_in (Ok line) = None
fault_in (Err fault) = Some fault
