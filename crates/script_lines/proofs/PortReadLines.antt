-- What the words behind a verb of a port script read as, one by one, is what the line says.
use Rattle.std.proofs.Common.{◌≡◌, ℕ, ◌==◌, Bool, true, false, List, [], ◌∷◌, length, refl, ap, ◌∙◌, Option, None, Some, Result, Ok, Err, if◌then◌else◌}
use Rattle.std.specs.Prelude.{⊤}
use Rattle.locking.specs.declared.range.RangeRow.{RangeRow}
use Rattle.script_lines.specs.Words.{first_word, after_words, nth_word}
use Rattle.script_lines.specs.Verbs.{verb_of}
use Rattle.script_lines.specs.Fields.{or_fault, number_of_field, byte_of_field, hex_in, ◌>>=◌}
use Rattle.script_lines.specs.Groups.{range_in, reset_in}
use Rattle.script_lines.specs.PortLines.{none_left, slot_in, transfer_words, read_words, write_words, read_dma_words, write_dma_words, call_words, send_words, receive_words, security_in_words, security_out_words, identify_words, request_words, range_words, put_words, issue_words, accept_words, complete_words, recover_words, reset_words, take_words, port_verb_words}
use Rattle.script_lines.specs.Says.{SaidWord, Number, Byte, range_items, reset_number}
use Rattle.script_lines.specs.PortSays.{request_verb, request_items, sector_items, put_items, slot_items}
use Rattle.script_lines.specs.declared.fault.LineFault.{LineFault}
use Rattle.script_lines.specs.declared.fault.LineFault.TheVariants.{Extra, UnknownRequest}
use Rattle.script_lines.specs.declared.field.Field.TheVariants as fields
use Rattle.script_lines.specs.declared.verb.Verb.{Verb}
use Rattle.script_lines.specs.declared.verb.Verb.TheVariants as verbs
use Rattle.script_lines.specs.declared.verb.PortVerb.{PortVerb}
use Rattle.script_lines.specs.declared.verb.PortVerb.TheVariants as steps
use Rattle.script_lines.specs.declared.line.Reset.{Reset}
use Rattle.script_lines.specs.declared.port_line.PutRequest.{PutRequest}
use Rattle.script_lines.specs.declared.port_line.PutRequest.TheVariants as requests
use Rattle.script_lines.specs.declared.port_line.PortLine.{PortLine}
use Rattle.script_lines.specs.declared.port_line.PortLine.TheVariants as lines
use Rattle.script_lines.proofs.ItemWords.{ReadEach}
use Rattle.script_lines.proofs.ReadLines.{bind_ok, ok, ok_is, empty_is, row_back, row_known, reset_back, reset_known}

-- no word is left
left_test : (b : Bool) (u : Unit {0}) → (if b then Ok tt else Err Extra) ≡ ok u → b ≡ true
left_test true u h = refl
left_test false u h = cc h

none_back : (rest : List ℕ) (u : Unit {0}) → none_left rest ≡ Ok u → first_word rest ≡ []
none_back rest u h = empty_is (first_word rest) (left_test (length (first_word rest) == 0) u h)

none_known : (rest : List ℕ) → first_word rest ≡ [] → none_left rest ≡ Ok tt
none_known rest h = rw h refl

-- first sector and count
sectors_back : (rest : List ℕ) (at : ℕ × ℕ) (more : List SaidWord) → transfer_words rest ≡ Ok at → ReadEach more (after_words 2 rest)
    → ReadEach (sector_items at.0 at.1 more) rest
sectors_back rest at more h later =
    let a = bind_ok (number_of_field fields.PutAddress (nth_word 0 rest)) _ at h in
    let b = bind_ok (number_of_field fields.PutCount (nth_word 1 rest)) _ at a.2 in
    let is = ok_is _ at b.2 in
    rw (← is) (a.1, (b.1, later))

-- a request, with its verb
abbrev pub AsksBack : Verb → PutRequest → List ℕ → Type 0
AsksBack verb request rest = (verb ≡ request_verb request) × ReadEach (request_items request) rest

read_back : (rest : List ℕ) (request : PutRequest) → read_words rest ≡ Ok request → AsksBack verbs.Read request rest
read_back rest request h =
    let g = bind_ok (transfer_words rest) _ request h in
    let n = bind_ok (none_left (after_words 2 rest)) _ request g.2 in
    let is = ok_is _ request n.2 in
    rw (← is) (refl, sectors_back rest g.0 [] g.1 (none_back (after_words 2 rest) n.0 n.1))

read_dma_back : (rest : List ℕ) (request : PutRequest) → read_dma_words rest ≡ Ok request → AsksBack verbs.ReadDma request rest
read_dma_back rest request h =
    let g = bind_ok (transfer_words rest) _ request h in
    let n = bind_ok (none_left (after_words 2 rest)) _ request g.2 in
    let is = ok_is _ request n.2 in
    rw (← is) (refl, sectors_back rest g.0 [] g.1 (none_back (after_words 2 rest) n.0 n.1))

write_back : (rest : List ℕ) (request : PutRequest) → write_words rest ≡ Ok request → AsksBack verbs.Write request rest
write_back rest request h =
    let g = bind_ok (transfer_words rest) _ request h in
    let b = bind_ok (byte_of_field fields.PutByte (nth_word 2 rest)) _ request g.2 in
    let n = bind_ok (none_left (after_words 3 rest)) _ request b.2 in
    let is = ok_is _ request n.2 in
    rw (← is) (refl, sectors_back rest g.0 (Byte fields.PutByte b.0 ∷ []) g.1 (b.1, none_back (after_words 3 rest) n.0 n.1))

write_dma_back : (rest : List ℕ) (request : PutRequest) → write_dma_words rest ≡ Ok request → AsksBack verbs.WriteDma request rest
write_dma_back rest request h =
    let g = bind_ok (transfer_words rest) _ request h in
    let b = bind_ok (byte_of_field fields.PutByte (nth_word 2 rest)) _ request g.2 in
    let n = bind_ok (none_left (after_words 3 rest)) _ request b.2 in
    let is = ok_is _ request n.2 in
    rw (← is) (refl, sectors_back rest g.0 (Byte fields.PutByte b.0 ∷ []) g.1 (b.1, none_back (after_words 3 rest) n.0 n.1))

call_back : (rest : List ℕ) (request : PutRequest) → call_words rest ≡ Ok request → AsksBack verbs.Call request rest
call_back rest request h =
    let a = bind_ok (number_of_field fields.PutComId (nth_word 0 rest)) _ request h in
    let b = bind_ok (number_of_field fields.PutTperSession (nth_word 1 rest)) _ request a.2 in
    let c = bind_ok (number_of_field fields.PutHostSession (nth_word 2 rest)) _ request b.2 in
    let d = bind_ok (hex_in fields.PutTokens (nth_word 3 rest)) _ request c.2 in
    let n = bind_ok (none_left (after_words 4 rest)) _ request d.2 in
    let is = ok_is _ request n.2 in
    rw (← is) (refl, (a.1, (b.1, (c.1, (d.1, none_back (after_words 4 rest) n.0 n.1)))))

send_back : (rest : List ℕ) (request : PutRequest) → send_words rest ≡ Ok request → AsksBack verbs.Send request rest
send_back rest request h =
    let a = bind_ok (number_of_field fields.PutComId (nth_word 0 rest)) _ request h in
    let b = bind_ok (hex_in fields.PutComPacket (nth_word 1 rest)) _ request a.2 in
    let n = bind_ok (none_left (after_words 2 rest)) _ request b.2 in
    let is = ok_is _ request n.2 in
    rw (← is) (refl, (a.1, (b.1, none_back (after_words 2 rest) n.0 n.1)))

receive_back : (rest : List ℕ) (request : PutRequest) → receive_words rest ≡ Ok request → AsksBack verbs.Receive request rest
receive_back rest request h =
    let a = bind_ok (number_of_field fields.PutComId (nth_word 0 rest)) _ request h in
    let b = bind_ok (number_of_field fields.PutBlocks (nth_word 1 rest)) _ request a.2 in
    let n = bind_ok (none_left (after_words 2 rest)) _ request b.2 in
    let is = ok_is _ request n.2 in
    rw (← is) (refl, (a.1, (b.1, none_back (after_words 2 rest) n.0 n.1)))

security_in_back : (rest : List ℕ) (request : PutRequest) → security_in_words rest ≡ Ok request → AsksBack verbs.SecurityIn request rest
security_in_back rest request h =
    let a = bind_ok (number_of_field fields.PutProtocol (nth_word 0 rest)) _ request h in
    let b = bind_ok (number_of_field fields.PutSpSpecific (nth_word 1 rest)) _ request a.2 in
    let c = bind_ok (number_of_field fields.PutSecurityBlocks (nth_word 2 rest)) _ request b.2 in
    let n = bind_ok (none_left (after_words 3 rest)) _ request c.2 in
    let is = ok_is _ request n.2 in
    rw (← is) (refl, (a.1, (b.1, (c.1, none_back (after_words 3 rest) n.0 n.1))))

security_out_back : (rest : List ℕ) (request : PutRequest) → security_out_words rest ≡ Ok request → AsksBack verbs.SecurityOut request rest
security_out_back rest request h =
    let a = bind_ok (number_of_field fields.PutProtocol (nth_word 0 rest)) _ request h in
    let b = bind_ok (number_of_field fields.PutSpSpecific (nth_word 1 rest)) _ request a.2 in
    let c = bind_ok (hex_in fields.PutSecurityBytes (nth_word 2 rest)) _ request b.2 in
    let n = bind_ok (none_left (after_words 3 rest)) _ request c.2 in
    let is = ok_is _ request n.2 in
    rw (← is) (refl, (a.1, (b.1, (c.1, none_back (after_words 3 rest) n.0 n.1))))

identify_back : (rest : List ℕ) (request : PutRequest) → identify_words rest ≡ Ok request → AsksBack verbs.Identify request rest
identify_back rest request h =
    let n = bind_ok (none_left rest) _ request h in
    let is = ok_is _ request n.2 in
    rw (← is) (refl, none_back rest n.0 n.1)

request_back : (verb : Verb) (rest : List ℕ) (request : PutRequest) → request_words verb rest ≡ Ok request → AsksBack verb request rest
request_back verbs.Read rest request h = read_back rest request h
request_back verbs.Write rest request h = write_back rest request h
request_back verbs.ReadDma rest request h = read_dma_back rest request h
request_back verbs.WriteDma rest request h = write_dma_back rest request h
request_back verbs.Call rest request h = call_back rest request h
request_back verbs.Send rest request h = send_back rest request h
request_back verbs.Receive rest request h = receive_back rest request h
request_back verbs.SecurityIn rest request h = security_in_back rest request h
request_back verbs.SecurityOut rest request h = security_out_back rest request h
request_back verbs.Identify rest request h = identify_back rest request h
request_back verbs.TperReset rest request h = cc h
request_back verbs.Range rest request h = cc h
request_back verbs.Log rest request h = cc h
request_back verbs.Reset rest request h = cc h
request_back verbs.Expect rest request h = cc h

request_known : (request : PutRequest) (rest : List ℕ) → ReadEach (request_items request) rest → request_words (request_verb request) rest ≡ Ok request
request_known (requests.Read lba count) rest h = rw (h.0, h.1.0, h.1.1) refl
request_known (requests.Write lba count byte) rest h = rw (h.0, h.1.0, h.1.1.0, h.1.1.1) refl
request_known (requests.ReadDma lba count) rest h = rw (h.0, h.1.0, h.1.1) refl
request_known (requests.WriteDma lba count byte) rest h = rw (h.0, h.1.0, h.1.1.0, h.1.1.1) refl
request_known (requests.Call com_id session tokens) rest h = rw (h.0, h.1.0, h.1.1.0, h.1.1.1.0, h.1.1.1.1) refl
request_known (requests.Send com_id packet) rest h = rw (h.0, h.1.0, h.1.1) refl
request_known (requests.Receive com_id blocks) rest h = rw (h.0, h.1.0, h.1.1) refl
request_known (requests.SecurityIn protocol sp_specific blocks) rest h = rw (h.0, h.1.0, h.1.1.0, h.1.1.1) refl
request_known (requests.SecurityOut protocol sp_specific payload) rest h = rw (h.0, h.1.0, h.1.1.0, h.1.1.1) refl
request_known requests.Identify rest h = rw h refl

-- what a line's words read as
abbrev pub PortReadBy : PortLine → List ℕ → Type 0
PortReadBy (lines.Range row) rest = ReadEach (range_items row) rest
PortReadBy (lines.Put client tag request) rest = ReadEach (put_items client tag request) rest
PortReadBy (lines.Issue tag) rest = ReadEach (slot_items tag) rest
PortReadBy (lines.Accept tag) rest = ReadEach (slot_items tag) rest
PortReadBy (lines.Complete tag) rest = ReadEach (slot_items tag) rest
PortReadBy lines.Recover rest = ReadEach [] rest
PortReadBy (lines.Reset client kind) rest = ReadEach (Number fields.Client client ∷ Number fields.ResetKind (reset_number kind) ∷ []) rest
PortReadBy (lines.Take client tag) rest = ReadEach (Number fields.Client client ∷ Number fields.Tag tag ∷ []) rest
PortReadBy lines.Expect rest = ⊤

abbrev pub step_of : PortLine → PortVerb
step_of (lines.Range row) = steps.Range
step_of (lines.Put client tag request) = steps.Put
step_of (lines.Issue tag) = steps.Issue
step_of (lines.Accept tag) = steps.Accept
step_of (lines.Complete tag) = steps.Complete
step_of lines.Recover = steps.Recover
step_of (lines.Reset client kind) = steps.Reset
step_of (lines.Take client tag) = steps.Take
step_of lines.Expect = steps.Expect

abbrev pub PortBack : PortVerb → PortLine → List ℕ → Type 0
PortBack verb line rest = (verb ≡ step_of line) × PortReadBy line rest

fault_back : (v : Option Verb) (verb : Verb) → or_fault UnknownRequest v ≡ Ok verb → v ≡ Some verb
fault_back None verb h = cc h
fault_back (Some v) verb h = let same : v ≡ verb = cc in ap Some same

range_back : (rest : List ℕ) (line : PortLine) → range_words rest ≡ Ok line → PortBack steps.Range line rest
range_back rest line h =
    let g = bind_ok (range_in rest) _ line h in
    let n = bind_ok (none_left (after_words 7 rest)) _ line g.2 in
    let is = ok_is _ line n.2 in
    rw (← is) (refl, row_back rest g.0 g.1 (none_back (after_words 7 rest) n.0 n.1))

put_back : (rest : List ℕ) (line : PortLine) → put_words rest ≡ Ok line → PortBack steps.Put line rest
put_back rest line h =
    let a = bind_ok (number_of_field fields.Client (nth_word 0 rest)) _ line h in
    let b = bind_ok (number_of_field fields.Tag (nth_word 1 rest)) _ line a.2 in
    let v = bind_ok (or_fault UnknownRequest (verb_of (nth_word 2 rest))) _ line b.2 in
    let r = bind_ok (request_words v.0 (after_words 3 rest)) _ line v.2 in
    let is = ok_is _ line r.2 in
    let asked = request_back v.0 (after_words 3 rest) r.0 r.1 in
    let name = fault_back (verb_of (nth_word 2 rest)) v.0 v.1 ∙ ap Some asked.0 in
    rw (← is) (refl, (a.1, (b.1, (name, asked.1))))

issue_back : (rest : List ℕ) (line : PortLine) → issue_words rest ≡ Ok line → PortBack steps.Issue line rest
issue_back rest line h =
    let a = bind_ok (slot_in rest) _ line h in
    let n = bind_ok (none_left (after_words 1 rest)) _ line a.2 in
    let is = ok_is _ line n.2 in
    rw (← is) (refl, (a.1, none_back (after_words 1 rest) n.0 n.1))

accept_back : (rest : List ℕ) (line : PortLine) → accept_words rest ≡ Ok line → PortBack steps.Accept line rest
accept_back rest line h =
    let a = bind_ok (slot_in rest) _ line h in
    let n = bind_ok (none_left (after_words 1 rest)) _ line a.2 in
    let is = ok_is _ line n.2 in
    rw (← is) (refl, (a.1, none_back (after_words 1 rest) n.0 n.1))

complete_back : (rest : List ℕ) (line : PortLine) → complete_words rest ≡ Ok line → PortBack steps.Complete line rest
complete_back rest line h =
    let a = bind_ok (slot_in rest) _ line h in
    let n = bind_ok (none_left (after_words 1 rest)) _ line a.2 in
    let is = ok_is _ line n.2 in
    rw (← is) (refl, (a.1, none_back (after_words 1 rest) n.0 n.1))

recover_back : (rest : List ℕ) (line : PortLine) → recover_words rest ≡ Ok line → PortBack steps.Recover line rest
recover_back rest line h =
    let n = bind_ok (none_left rest) _ line h in
    let is = ok_is _ line n.2 in
    rw (← is) (refl, none_back rest n.0 n.1)

reset_line_back : (rest : List ℕ) (line : PortLine) → reset_words rest ≡ Ok line → PortBack steps.Reset line rest
reset_line_back rest line h =
    let a = bind_ok (number_of_field fields.Client (nth_word 0 rest)) _ line h in
    let k = bind_ok (reset_in (nth_word 1 rest)) _ line a.2 in
    let n = bind_ok (none_left (after_words 2 rest)) _ line k.2 in
    let is = ok_is _ line n.2 in
    rw (← is) (refl, (a.1, (reset_back (nth_word 1 rest) k.0 k.1, none_back (after_words 2 rest) n.0 n.1)))

take_back : (rest : List ℕ) (line : PortLine) → take_words rest ≡ Ok line → PortBack steps.Take line rest
take_back rest line h =
    let a = bind_ok (number_of_field fields.Client (nth_word 0 rest)) _ line h in
    let b = bind_ok (number_of_field fields.Tag (nth_word 1 rest)) _ line a.2 in
    let n = bind_ok (none_left (after_words 2 rest)) _ line b.2 in
    let is = ok_is _ line n.2 in
    rw (← is) (refl, (a.1, (b.1, none_back (after_words 2 rest) n.0 n.1)))

expect_back : (rest : List ℕ) (line : PortLine) → lines.Expect ≡ line → PortBack steps.Expect line rest
expect_back rest line is = rw (← is) (refl, tt)

pub port_back : (verb : PortVerb) (rest : List ℕ) (line : PortLine) → port_verb_words verb rest ≡ Ok line → PortBack verb line rest
port_back steps.Range rest line h = range_back rest line h
port_back steps.Put rest line h = put_back rest line h
port_back steps.Issue rest line h = issue_back rest line h
port_back steps.Accept rest line h = accept_back rest line h
port_back steps.Complete rest line h = complete_back rest line h
port_back steps.Recover rest line h = recover_back rest line h
port_back steps.Reset rest line h = reset_line_back rest line h
port_back steps.Take rest line h = take_back rest line h
port_back steps.Expect rest line h = expect_back rest line (ok_is lines.Expect line h)

range_known : (rest : List ℕ) (row : RangeRow) → PortReadBy (lines.Range row) rest → range_words rest ≡ Ok (lines.Range row)
range_known rest row h =
    ap (λ (r : Result RangeRow LineFault). r >>= λ row. none_left (after_words 7 rest) >>= λ _. Ok (lines.Range row)) (row_known rest row h)
    ∙ ap (λ (r : Result (Unit {0}) LineFault). r >>= λ _. Ok (lines.Range row)) (none_known (after_words 7 rest) h.1.1.1.1.1.1.1)

put_known : (rest : List ℕ) (client tag : ℕ) (request : PutRequest) → PortReadBy (lines.Put client tag request) rest
    → put_words rest ≡ Ok (lines.Put client tag request)
put_known rest client tag request h =
    let r = request_known request (after_words 3 rest) h.1.1.1 in
    rw (h.0, h.1.0)
    (ap (λ (v : Option Verb). or_fault UnknownRequest v >>= λ verb. request_words verb (after_words 3 rest) >>= λ request. Ok (lines.Put client tag request)) h.1.1.0
    ∙ ap (λ (r : Result PutRequest LineFault). r >>= λ request. Ok (lines.Put client tag request)) r)

reset_line_known : (rest : List ℕ) (client : ℕ) (kind : Reset) → PortReadBy (lines.Reset client kind) rest → reset_words rest ≡ Ok (lines.Reset client kind)
reset_line_known rest client kind h =
    let k = reset_known (nth_word 1 rest) kind h.1.0 in
    ap (λ (r : Result ℕ LineFault). r >>= λ client. reset_in (nth_word 1 rest) >>= λ kind. none_left (after_words 2 rest) >>= λ _. Ok (lines.Reset client kind)) h.0
    ∙ ap (λ (r : Result Reset LineFault). r >>= λ kind. none_left (after_words 2 rest) >>= λ _. Ok (lines.Reset client kind)) k
    ∙ ap (λ (r : Result (Unit {0}) LineFault). r >>= λ _. Ok (lines.Reset client kind)) (none_known (after_words 2 rest) h.1.1)

pub port_known : (line : PortLine) (rest : List ℕ) → PortReadBy line rest → port_verb_words (step_of line) rest ≡ Ok line
port_known (lines.Range row) rest h = range_known rest row h
port_known (lines.Put client tag request) rest h = put_known rest client tag request h
port_known (lines.Issue tag) rest h = rw (h.0, h.1) refl
port_known (lines.Accept tag) rest h = rw (h.0, h.1) refl
port_known (lines.Complete tag) rest h = rw (h.0, h.1) refl
port_known lines.Recover rest h = rw h refl
port_known (lines.Reset client kind) rest h = reset_line_known rest client kind h
port_known (lines.Take client tag) rest h = rw (h.0, h.1.0, h.1.1) refl
port_known lines.Expect rest h = refl
