-- What the words behind a verb read as, one by one, is what the line says.
use Rattle.std.proofs.Common.{◌≡◌, ℕ, ◌≤◌, ◌==◌, Bool, true, false, List, [], ◌∷◌, length, refl, sym, ap, ◌∙◌, arith, Result, Ok, Err, if◌then◌else◌}
use Rattle.std.specs.Prelude.{⊤}
use Rattle.std.proofs.lemmas.Bool.{eqb-true}
use Rattle.std.proofs.lemmas.Bool.Decides.{nat_tests}
use Rattle.compacket.specs.declared.session.Session.{Session}
use Rattle.locking.specs.declared.range.RangeRow.{RangeRow}
use Rattle.script_lines.specs.Words.{first_word, after_words, nth_word}
use Rattle.script_lines.specs.Fields.{most_of, number_of_field, flag_in, is_flag_set, byte_of_field, hex_in, ◌>>=◌}
use Rattle.script_lines.specs.Groups.{range_in, transfer_in, dma_transfer_in, session_in, reset_in, reset_named}
use Rattle.script_lines.specs.Lines.{ended, verb_line, range_line, read_line, write_line, read_dma_line, write_dma_line, call_line, send_line, receive_line, security_in_line, security_out_line, identify_line, log_line, reset_line, tper_reset_line}
use Rattle.script_lines.specs.Says.{SaidWord, Number, Byte, Bytes, flag_number, range_items, transfer_items, dma_items, com_items, call_items, security_items, reset_number}
use Rattle.script_lines.specs.declared.fault.LineFault.{LineFault}
use Rattle.script_lines.specs.declared.fault.LineFault.TheVariants.{Extra}
use Rattle.script_lines.specs.declared.field.Field.{Field}
use Rattle.script_lines.specs.declared.field.Field.TheVariants as fields
use Rattle.script_lines.specs.declared.verb.Verb.{Verb}
use Rattle.script_lines.specs.declared.verb.Verb.TheVariants as verbs
use Rattle.script_lines.specs.declared.line.Transfer.{Transfer}
use Rattle.script_lines.specs.declared.line.DmaTransfer.{DmaTransfer}
use Rattle.script_lines.specs.declared.line.Reset.{Reset}
use Rattle.script_lines.specs.declared.line.Reset.TheVariants as resets
use Rattle.script_lines.specs.declared.line.Line.{Line}
use Rattle.script_lines.specs.declared.line.Line.TheVariants as lines
use Rattle.script_lines.proofs.NumberWords.{number_is}
use Rattle.script_lines.proofs.ItemWords.{ReadEach}

pub bind_ok : {A B : Type 0} (r : Result A LineFault) (f : A → Result B LineFault) (y : B)
    → (r >>= f) ≡ Ok y → (x : A) × (r ≡ Ok x) × (f x ≡ Ok y)
bind_ok (Ok x) f y h = (x, refl, h)
bind_ok (Err e) f y h = cc h

abbrev pub ok : {A : Type 0} → A → Result A LineFault
ok x = Ok x

pub ok_is : {A : Type 0} (x y : A) → ok x ≡ ok y → x ≡ y
ok_is x y h = cc

-- the end of a line
pub empty_is : (l : List ℕ) → (length l == 0) ≡ true → l ≡ []
empty_is [] h = refl
empty_is (x ∷ xs) h = let e = eqb-true (length (x ∷ xs)) 0 h in absurd (omega (arith, e))

end_test : (b : Bool) (line other : Line) → (if b then Ok line else Err Extra) ≡ Ok other → (b ≡ true) × (line ≡ other)
end_test true line other h = (refl, ok_is line other h)
end_test false line other h = cc h

ended_back : (rest : List ℕ) (line other : Line) → ended rest line ≡ Ok other → (first_word rest ≡ []) × (line ≡ other)
ended_back rest line other h =
    let t = end_test (length (first_word rest) == 0) line other h in
    (empty_is (first_word rest) t.0, t.1)

ended_known : (rest : List ℕ) (line : Line) → first_word rest ≡ [] → ended rest line ≡ Ok line
ended_known rest line h = rw h refl

-- a flag is the number 0 or 1
flag_is : (number : ℕ) (b : Bool) → number ≤ 1 → (number == 1) ≡ b → number ≡ flag_number b
flag_is number true le is = grind (arith, nat_tests, is)
flag_is number false le is = grind (arith, nat_tests, is, le)

flag_cases : (field : Field) (w : List ℕ) (r : Result ℕ LineFault) (b : Bool) → most_of field ≡ 1 → number_of_field field w ≡ r → is_flag_set r ≡ Ok b → number_of_field field w ≡ Ok (flag_number b)
flag_cases field w (Err e) b one is h = cc h
flag_cases field w (Ok number) b one is h =
    let le = (number_is field w number is).1 in
    let same = flag_is number b (omega (arith, le, one)) (ok_is (number == 1) b h) in
    is ∙ ap Ok same

flag_back : (field : Field) (w : List ℕ) (b : Bool) → most_of field ≡ 1 → flag_in field w ≡ Ok b → number_of_field field w ≡ Ok (flag_number b)
flag_back field w b one h = flag_cases field w (number_of_field field w) b one refl h

flag_known : (field : Field) (w : List ℕ) (b : Bool) → number_of_field field w ≡ Ok (flag_number b) → flag_in field w ≡ Ok b
flag_known field w true h = ap is_flag_set h
flag_known field w false h = ap is_flag_set h

reset_flag : (b : Bool) → reset_number (reset_named b) ≡ flag_number b
reset_flag false = refl
reset_flag true = refl

pub reset_back : (w : List ℕ) (kind : Reset) → reset_in w ≡ Ok kind → number_of_field fields.ResetKind w ≡ Ok (reset_number kind)
reset_back w kind h =
    let b = bind_ok (flag_in fields.ResetKind w) _ kind h in
    let is : reset_named b.0 ≡ kind = ok_is (reset_named b.0) kind b.2 in
    flag_back fields.ResetKind w b.0 refl b.1 ∙ ap Ok (sym (reset_flag b.0) ∙ ap reset_number is)

pub reset_known : (w : List ℕ) (kind : Reset) → number_of_field fields.ResetKind w ≡ Ok (reset_number kind) → reset_in w ≡ Ok kind
reset_known w resets.Power h = ap (λ (r : Result Bool LineFault). r >>= λ b. Ok (reset_named b)) (flag_known fields.ResetKind w false h)
reset_known w resets.Hardware h = ap (λ (r : Result Bool LineFault). r >>= λ b. Ok (reset_named b)) (flag_known fields.ResetKind w true h)

-- groups of words
transfer_back : (rest : List ℕ) (t : Transfer) (more : List SaidWord) → transfer_in rest ≡ Ok t → ReadEach more (after_words 4 rest) → ReadEach (transfer_items t more) rest
transfer_back rest t more h later =
    let a = bind_ok (number_of_field fields.Client (nth_word 0 rest)) _ t h in
    let b = bind_ok (number_of_field fields.Tag (nth_word 1 rest)) _ t a.2 in
    let c = bind_ok (number_of_field fields.Address (nth_word 2 rest)) _ t b.2 in
    let d = bind_ok (number_of_field fields.Count (nth_word 3 rest)) _ t c.2 in
    let is = ok_is _ t d.2 in
    rw (← is) (a.1, (b.1, (c.1, (d.1, later))))

transfer_known : (rest : List ℕ) (t : Transfer) (more : List SaidWord) → ReadEach (transfer_items t more) rest → transfer_in rest ≡ Ok t
transfer_known rest t more h = rw (h.0, h.1.0, h.1.1.0, h.1.1.1.0) refl

dma_back : (rest : List ℕ) (t : DmaTransfer) (more : List SaidWord) → dma_transfer_in rest ≡ Ok t → ReadEach more (after_words 3 rest) → ReadEach (dma_items t more) rest
dma_back rest t more h later =
    let a = bind_ok (number_of_field fields.Client (nth_word 0 rest)) _ t h in
    let b = bind_ok (number_of_field fields.DmaAddress (nth_word 1 rest)) _ t a.2 in
    let c = bind_ok (number_of_field fields.DmaCount (nth_word 2 rest)) _ t b.2 in
    let is = ok_is _ t c.2 in
    rw (← is) (a.1, (b.1, (c.1, later)))

dma_known : (rest : List ℕ) (t : DmaTransfer) (more : List SaidWord) → ReadEach (dma_items t more) rest → dma_transfer_in rest ≡ Ok t
dma_known rest t more h = rw (h.0, h.1.0, h.1.1.0) refl

pub row_back : (rest : List ℕ) (row : RangeRow) → range_in rest ≡ Ok row → first_word (after_words 7 rest) ≡ [] → ReadEach (range_items row) rest
row_back rest row h end =
    let a = bind_ok (number_of_field fields.Range (nth_word 0 rest)) _ row h in
    let b = bind_ok (number_of_field fields.Start (nth_word 1 rest)) _ row a.2 in
    let c = bind_ok (number_of_field fields.Length (nth_word 2 rest)) _ row b.2 in
    let d = bind_ok (flag_in fields.ReadLockEnabled (nth_word 3 rest)) _ row c.2 in
    let e = bind_ok (flag_in fields.WriteLockEnabled (nth_word 4 rest)) _ row d.2 in
    let f = bind_ok (flag_in fields.ReadLocked (nth_word 5 rest)) _ row e.2 in
    let g = bind_ok (flag_in fields.WriteLocked (nth_word 6 rest)) _ row f.2 in
    let is = ok_is _ row g.2 in
    let j = flag_back fields.ReadLockEnabled (nth_word 3 rest) d.0 refl d.1 in
    let k = flag_back fields.WriteLockEnabled (nth_word 4 rest) e.0 refl e.1 in
    let l = flag_back fields.ReadLocked (nth_word 5 rest) f.0 refl f.1 in
    let m = flag_back fields.WriteLocked (nth_word 6 rest) g.0 refl g.1 in
    rw (← is) (a.1, (b.1, (c.1, (j, (k, (l, (m, end)))))))

pub row_known : (rest : List ℕ) (row : RangeRow) → ReadEach (range_items row) rest → range_in rest ≡ Ok row
row_known rest row h =
    let d = flag_known fields.ReadLockEnabled (nth_word 3 rest) row.read_enabled h.1.1.1.0 in
    let e = flag_known fields.WriteLockEnabled (nth_word 4 rest) row.write_enabled h.1.1.1.1.0 in
    let f = flag_known fields.ReadLocked (nth_word 5 rest) row.read_locked h.1.1.1.1.1.0 in
    let g = flag_known fields.WriteLocked (nth_word 6 rest) row.write_locked h.1.1.1.1.1.1.0 in
    rw (h.0, h.1.0, h.1.1.0, d, e, f, g) refl

session_back : (rest : List ℕ) (s : Session) (more : List SaidWord) → session_in rest ≡ Ok s → ReadEach more (after_words 2 rest)
    → ReadEach (Number fields.TperSession s.tsn ∷ Number fields.HostSession s.hsn ∷ more) rest
session_back rest s more h later =
    let a = bind_ok (number_of_field fields.TperSession (nth_word 0 rest)) _ s h in
    let b = bind_ok (number_of_field fields.HostSession (nth_word 1 rest)) _ s a.2 in
    let is = ok_is _ s b.2 in
    rw (← is) (a.1, (b.1, later))

-- what a line's words read as
abbrev pub ReadBy : Line → List ℕ → Type 0
ReadBy (lines.Range row) rest = ReadEach (range_items row) rest
ReadBy (lines.Read t) rest = ReadEach (transfer_items t []) rest
ReadBy (lines.Write t byte) rest = ReadEach (transfer_items t (Byte fields.Byte byte ∷ [])) rest
ReadBy (lines.ReadDma t) rest = ReadEach (dma_items t []) rest
ReadBy (lines.WriteDma t byte) rest = ReadEach (dma_items t (Byte fields.DmaByte byte ∷ [])) rest
ReadBy (lines.Call client com_id session tokens) rest = ReadEach (com_items client com_id (call_items session tokens)) rest
ReadBy (lines.Send client com_id packet) rest = ReadEach (com_items client com_id (Bytes fields.ComPacket packet ∷ [])) rest
ReadBy (lines.Receive client com_id blocks) rest = ReadEach (com_items client com_id (Number fields.Blocks blocks ∷ [])) rest
ReadBy (lines.SecurityIn client protocol sp_specific blocks) rest = ReadEach (security_items client protocol sp_specific (Number fields.SecurityBlocks blocks)) rest
ReadBy (lines.SecurityOut client protocol sp_specific payload) rest = ReadEach (security_items client protocol sp_specific (Bytes fields.SecurityBytes payload)) rest
ReadBy (lines.Identify client) rest = ReadEach (Number fields.Client client ∷ []) rest
ReadBy (lines.Log client) rest = ReadEach (Number fields.Client client ∷ []) rest
ReadBy (lines.Reset client kind) rest = ReadEach (Number fields.Client client ∷ Number fields.ResetKind (reset_number kind) ∷ []) rest
ReadBy (lines.TperReset client) rest = ReadEach (Number fields.Client client ∷ []) rest
ReadBy lines.Expect rest = ⊤

abbrev pub verb_of_line : Line → Verb
verb_of_line (lines.Range row) = verbs.Range
verb_of_line (lines.Read t) = verbs.Read
verb_of_line (lines.Write t byte) = verbs.Write
verb_of_line (lines.ReadDma t) = verbs.ReadDma
verb_of_line (lines.WriteDma t byte) = verbs.WriteDma
verb_of_line (lines.Call client com_id session tokens) = verbs.Call
verb_of_line (lines.Send client com_id packet) = verbs.Send
verb_of_line (lines.Receive client com_id blocks) = verbs.Receive
verb_of_line (lines.SecurityIn client protocol sp_specific blocks) = verbs.SecurityIn
verb_of_line (lines.SecurityOut client protocol sp_specific payload) = verbs.SecurityOut
verb_of_line (lines.Identify client) = verbs.Identify
verb_of_line (lines.Log client) = verbs.Log
verb_of_line (lines.Reset client kind) = verbs.Reset
verb_of_line (lines.TperReset client) = verbs.TperReset
verb_of_line lines.Expect = verbs.Expect

abbrev pub Back : Verb → Line → List ℕ → Type 0
Back verb line rest = (verb ≡ verb_of_line line) × ReadBy line rest

range_back : (rest : List ℕ) (line : Line) → range_line rest ≡ Ok line → Back verbs.Range line rest
range_back rest line h =
    let g = bind_ok (range_in rest) _ line h in
    let end = ended_back (after_words 7 rest) (lines.Range g.0) line g.2 in
    rw (← end.1) (refl, row_back rest g.0 g.1 end.0)

range_known : (rest : List ℕ) (row : RangeRow) → ReadBy (lines.Range row) rest → range_line rest ≡ Ok (lines.Range row)
range_known rest row h =
    ap (λ (r : Result RangeRow LineFault). r >>= λ row. ended (after_words 7 rest) (lines.Range row)) (row_known rest row h)
    ∙ ended_known (after_words 7 rest) (lines.Range row) h.1.1.1.1.1.1.1

read_back : (rest : List ℕ) (line : Line) → read_line rest ≡ Ok line → Back verbs.Read line rest
read_back rest line h =
    let g = bind_ok (transfer_in rest) _ line h in
    let end = ended_back (after_words 4 rest) (lines.Read g.0) line g.2 in
    rw (← end.1) (refl, transfer_back rest g.0 [] g.1 end.0)

read_known : (rest : List ℕ) (t : Transfer) → ReadBy (lines.Read t) rest → read_line rest ≡ Ok (lines.Read t)
read_known rest t h =
    ap (λ (r : Result Transfer LineFault). r >>= λ t. ended (after_words 4 rest) (lines.Read t)) (transfer_known rest t [] h)
    ∙ ended_known (after_words 4 rest) (lines.Read t) h.1.1.1.1

write_back : (rest : List ℕ) (line : Line) → write_line rest ≡ Ok line → Back verbs.Write line rest
write_back rest line h =
    let g = bind_ok (transfer_in rest) _ line h in
    let b = bind_ok (byte_of_field fields.Byte (nth_word 4 rest)) _ line g.2 in
    let end = ended_back (after_words 5 rest) (lines.Write g.0 b.0) line b.2 in
    rw (← end.1) (refl, transfer_back rest g.0 (Byte fields.Byte b.0 ∷ []) g.1 (b.1, end.0))

write_known : (rest : List ℕ) (t : Transfer) (byte : ℕ) → ReadBy (lines.Write t byte) rest → write_line rest ≡ Ok (lines.Write t byte)
write_known rest t byte h =
    let g = transfer_known rest t (Byte fields.Byte byte ∷ []) h in
    let b : byte_of_field fields.Byte (nth_word 4 rest) ≡ Ok byte = h.1.1.1.1.0 in
    ap (λ (r : Result Transfer LineFault). r >>= λ t. byte_of_field fields.Byte (nth_word 4 rest) >>= λ byte. ended (after_words 5 rest) (lines.Write t byte)) g
    ∙ ap (λ (r : Result ℕ LineFault). r >>= λ byte. ended (after_words 5 rest) (lines.Write t byte)) b
    ∙ ended_known (after_words 5 rest) (lines.Write t byte) h.1.1.1.1.1

read_dma_back : (rest : List ℕ) (line : Line) → read_dma_line rest ≡ Ok line → Back verbs.ReadDma line rest
read_dma_back rest line h =
    let g = bind_ok (dma_transfer_in rest) _ line h in
    let end = ended_back (after_words 3 rest) (lines.ReadDma g.0) line g.2 in
    rw (← end.1) (refl, dma_back rest g.0 [] g.1 end.0)

read_dma_known : (rest : List ℕ) (t : DmaTransfer) → ReadBy (lines.ReadDma t) rest → read_dma_line rest ≡ Ok (lines.ReadDma t)
read_dma_known rest t h =
    ap (λ (r : Result DmaTransfer LineFault). r >>= λ t. ended (after_words 3 rest) (lines.ReadDma t)) (dma_known rest t [] h)
    ∙ ended_known (after_words 3 rest) (lines.ReadDma t) h.1.1.1

write_dma_back : (rest : List ℕ) (line : Line) → write_dma_line rest ≡ Ok line → Back verbs.WriteDma line rest
write_dma_back rest line h =
    let g = bind_ok (dma_transfer_in rest) _ line h in
    let b = bind_ok (byte_of_field fields.DmaByte (nth_word 3 rest)) _ line g.2 in
    let end = ended_back (after_words 4 rest) (lines.WriteDma g.0 b.0) line b.2 in
    rw (← end.1) (refl, dma_back rest g.0 (Byte fields.DmaByte b.0 ∷ []) g.1 (b.1, end.0))

write_dma_known : (rest : List ℕ) (t : DmaTransfer) (byte : ℕ) → ReadBy (lines.WriteDma t byte) rest → write_dma_line rest ≡ Ok (lines.WriteDma t byte)
write_dma_known rest t byte h =
    let g = dma_known rest t (Byte fields.DmaByte byte ∷ []) h in
    let b : byte_of_field fields.DmaByte (nth_word 3 rest) ≡ Ok byte = h.1.1.1.0 in
    ap (λ (r : Result DmaTransfer LineFault). r >>= λ t. byte_of_field fields.DmaByte (nth_word 3 rest) >>= λ byte. ended (after_words 4 rest) (lines.WriteDma t byte)) g
    ∙ ap (λ (r : Result ℕ LineFault). r >>= λ byte. ended (after_words 4 rest) (lines.WriteDma t byte)) b
    ∙ ended_known (after_words 4 rest) (lines.WriteDma t byte) h.1.1.1.1

call_back : (rest : List ℕ) (line : Line) → call_line rest ≡ Ok line → Back verbs.Call line rest
call_back rest line h =
    let a = bind_ok (number_of_field fields.Client (nth_word 0 rest)) _ line h in
    let b = bind_ok (number_of_field fields.ComId (nth_word 1 rest)) _ line a.2 in
    let s = bind_ok (session_in (after_words 2 rest)) _ line b.2 in
    let x = bind_ok (hex_in fields.Tokens (nth_word 4 rest)) _ line s.2 in
    let end = ended_back (after_words 5 rest) (lines.Call a.0 b.0 s.0 x.0) line x.2 in
    rw (← end.1) (refl, (a.1, (b.1, session_back (after_words 2 rest) s.0 (Bytes fields.Tokens x.0 ∷ []) s.1 (x.1, end.0))))

call_known : (rest : List ℕ) (client com_id : ℕ) (session : Session) (tokens : List ℕ) → ReadBy (lines.Call client com_id session tokens) rest
    → call_line rest ≡ Ok (lines.Call client com_id session tokens)
call_known rest client com_id session tokens h =
    rw (h.0, h.1.0, h.1.1.0, h.1.1.1.0, h.1.1.1.1.0) (ended_known (after_words 5 rest) (lines.Call client com_id session tokens) h.1.1.1.1.1)

send_back : (rest : List ℕ) (line : Line) → send_line rest ≡ Ok line → Back verbs.Send line rest
send_back rest line h =
    let a = bind_ok (number_of_field fields.Client (nth_word 0 rest)) _ line h in
    let b = bind_ok (number_of_field fields.ComId (nth_word 1 rest)) _ line a.2 in
    let x = bind_ok (hex_in fields.ComPacket (nth_word 2 rest)) _ line b.2 in
    let end = ended_back (after_words 3 rest) (lines.Send a.0 b.0 x.0) line x.2 in
    rw (← end.1) (refl, (a.1, (b.1, (x.1, end.0))))

send_known : (rest : List ℕ) (client com_id : ℕ) (packet : List ℕ) → ReadBy (lines.Send client com_id packet) rest
    → send_line rest ≡ Ok (lines.Send client com_id packet)
send_known rest client com_id packet h =
    rw (h.0, h.1.0, h.1.1.0) (ended_known (after_words 3 rest) (lines.Send client com_id packet) h.1.1.1)

receive_back : (rest : List ℕ) (line : Line) → receive_line rest ≡ Ok line → Back verbs.Receive line rest
receive_back rest line h =
    let a = bind_ok (number_of_field fields.Client (nth_word 0 rest)) _ line h in
    let b = bind_ok (number_of_field fields.ComId (nth_word 1 rest)) _ line a.2 in
    let c = bind_ok (number_of_field fields.Blocks (nth_word 2 rest)) _ line b.2 in
    let end = ended_back (after_words 3 rest) (lines.Receive a.0 b.0 c.0) line c.2 in
    rw (← end.1) (refl, (a.1, (b.1, (c.1, end.0))))

receive_known : (rest : List ℕ) (client com_id blocks : ℕ) → ReadBy (lines.Receive client com_id blocks) rest
    → receive_line rest ≡ Ok (lines.Receive client com_id blocks)
receive_known rest client com_id blocks h =
    rw (h.0, h.1.0, h.1.1.0) (ended_known (after_words 3 rest) (lines.Receive client com_id blocks) h.1.1.1)

security_in_back : (rest : List ℕ) (line : Line) → security_in_line rest ≡ Ok line → Back verbs.SecurityIn line rest
security_in_back rest line h =
    let a = bind_ok (number_of_field fields.Client (nth_word 0 rest)) _ line h in
    let b = bind_ok (number_of_field fields.Protocol (nth_word 1 rest)) _ line a.2 in
    let c = bind_ok (number_of_field fields.SpSpecific (nth_word 2 rest)) _ line b.2 in
    let d = bind_ok (number_of_field fields.SecurityBlocks (nth_word 3 rest)) _ line c.2 in
    let end = ended_back (after_words 4 rest) (lines.SecurityIn a.0 b.0 c.0 d.0) line d.2 in
    rw (← end.1) (refl, (a.1, (b.1, (c.1, (d.1, end.0)))))

security_in_known : (rest : List ℕ) (client protocol sp_specific blocks : ℕ) → ReadBy (lines.SecurityIn client protocol sp_specific blocks) rest
    → security_in_line rest ≡ Ok (lines.SecurityIn client protocol sp_specific blocks)
security_in_known rest client protocol sp_specific blocks h =
    rw (h.0, h.1.0, h.1.1.0, h.1.1.1.0) (ended_known (after_words 4 rest) (lines.SecurityIn client protocol sp_specific blocks) h.1.1.1.1)

security_out_back : (rest : List ℕ) (line : Line) → security_out_line rest ≡ Ok line → Back verbs.SecurityOut line rest
security_out_back rest line h =
    let a = bind_ok (number_of_field fields.Client (nth_word 0 rest)) _ line h in
    let b = bind_ok (number_of_field fields.Protocol (nth_word 1 rest)) _ line a.2 in
    let c = bind_ok (number_of_field fields.SpSpecific (nth_word 2 rest)) _ line b.2 in
    let x = bind_ok (hex_in fields.SecurityBytes (nth_word 3 rest)) _ line c.2 in
    let end = ended_back (after_words 4 rest) (lines.SecurityOut a.0 b.0 c.0 x.0) line x.2 in
    rw (← end.1) (refl, (a.1, (b.1, (c.1, (x.1, end.0)))))

security_out_known : (rest : List ℕ) (client protocol sp_specific : ℕ) (payload : List ℕ) → ReadBy (lines.SecurityOut client protocol sp_specific payload) rest
    → security_out_line rest ≡ Ok (lines.SecurityOut client protocol sp_specific payload)
security_out_known rest client protocol sp_specific payload h =
    rw (h.0, h.1.0, h.1.1.0, h.1.1.1.0) (ended_known (after_words 4 rest) (lines.SecurityOut client protocol sp_specific payload) h.1.1.1.1)

identify_back : (rest : List ℕ) (line : Line) → identify_line rest ≡ Ok line → Back verbs.Identify line rest
identify_back rest line h =
    let a = bind_ok (number_of_field fields.Client (nth_word 0 rest)) _ line h in
    let end = ended_back (after_words 1 rest) (lines.Identify a.0) line a.2 in
    rw (← end.1) (refl, (a.1, end.0))

identify_known : (rest : List ℕ) (client : ℕ) → ReadBy (lines.Identify client) rest → identify_line rest ≡ Ok (lines.Identify client)
identify_known rest client h = rw h.0 (ended_known (after_words 1 rest) (lines.Identify client) h.1)

log_back : (rest : List ℕ) (line : Line) → log_line rest ≡ Ok line → Back verbs.Log line rest
log_back rest line h =
    let a = bind_ok (number_of_field fields.Client (nth_word 0 rest)) _ line h in
    let end = ended_back (after_words 1 rest) (lines.Log a.0) line a.2 in
    rw (← end.1) (refl, (a.1, end.0))

log_known : (rest : List ℕ) (client : ℕ) → ReadBy (lines.Log client) rest → log_line rest ≡ Ok (lines.Log client)
log_known rest client h = rw h.0 (ended_known (after_words 1 rest) (lines.Log client) h.1)

reset_line_back : (rest : List ℕ) (line : Line) → reset_line rest ≡ Ok line → Back verbs.Reset line rest
reset_line_back rest line h =
    let a = bind_ok (number_of_field fields.Client (nth_word 0 rest)) _ line h in
    let k = bind_ok (reset_in (nth_word 1 rest)) _ line a.2 in
    let kind = reset_back (nth_word 1 rest) k.0 k.1 in
    let end = ended_back (after_words 2 rest) (lines.Reset a.0 k.0) line k.2 in
    rw (← end.1) (refl, (a.1, (kind, end.0)))

reset_line_known : (rest : List ℕ) (client : ℕ) (kind : Reset) → ReadBy (lines.Reset client kind) rest → reset_line rest ≡ Ok (lines.Reset client kind)
reset_line_known rest client kind h =
    let k = reset_known (nth_word 1 rest) kind h.1.0 in
    ap (λ (r : Result ℕ LineFault). r >>= λ client. reset_in (nth_word 1 rest) >>= λ kind. ended (after_words 2 rest) (lines.Reset client kind)) h.0
    ∙ ap (λ (r : Result Reset LineFault). r >>= λ kind. ended (after_words 2 rest) (lines.Reset client kind)) k
    ∙ ended_known (after_words 2 rest) (lines.Reset client kind) h.1.1

tper_back : (rest : List ℕ) (line : Line) → tper_reset_line rest ≡ Ok line → Back verbs.TperReset line rest
tper_back rest line h =
    let a = bind_ok (number_of_field fields.Client (nth_word 0 rest)) _ line h in
    let end = ended_back (after_words 1 rest) (lines.TperReset a.0) line a.2 in
    rw (← end.1) (refl, (a.1, end.0))

tper_known : (rest : List ℕ) (client : ℕ) → ReadBy (lines.TperReset client) rest → tper_reset_line rest ≡ Ok (lines.TperReset client)
tper_known rest client h = rw h.0 (ended_known (after_words 1 rest) (lines.TperReset client) h.1)

expect_back : (rest : List ℕ) (line : Line) → lines.Expect ≡ line → Back verbs.Expect line rest
expect_back rest line is = rw (← is) (refl, tt)

pub back : (verb : Verb) (rest : List ℕ) (line : Line) → verb_line verb rest ≡ Ok line → Back verb line rest
back verbs.Range rest line h = range_back rest line h
back verbs.Read rest line h = read_back rest line h
back verbs.Write rest line h = write_back rest line h
back verbs.ReadDma rest line h = read_dma_back rest line h
back verbs.WriteDma rest line h = write_dma_back rest line h
back verbs.Call rest line h = call_back rest line h
back verbs.Send rest line h = send_back rest line h
back verbs.Receive rest line h = receive_back rest line h
back verbs.SecurityIn rest line h = security_in_back rest line h
back verbs.SecurityOut rest line h = security_out_back rest line h
back verbs.Identify rest line h = identify_back rest line h
back verbs.Log rest line h = log_back rest line h
back verbs.Reset rest line h = reset_line_back rest line h
back verbs.TperReset rest line h = tper_back rest line h
back verbs.Expect rest line h = expect_back rest line (ok_is lines.Expect line h)

pub known : (line : Line) (rest : List ℕ) → ReadBy line rest → verb_line (verb_of_line line) rest ≡ Ok line
known (lines.Range row) rest h = range_known rest row h
known (lines.Read t) rest h = read_known rest t h
known (lines.Write t byte) rest h = write_known rest t byte h
known (lines.ReadDma t) rest h = read_dma_known rest t h
known (lines.WriteDma t byte) rest h = write_dma_known rest t byte h
known (lines.Call client com_id session tokens) rest h = call_known rest client com_id session tokens h
known (lines.Send client com_id packet) rest h = send_known rest client com_id packet h
known (lines.Receive client com_id blocks) rest h = receive_known rest client com_id blocks h
known (lines.SecurityIn client protocol sp_specific blocks) rest h = security_in_known rest client protocol sp_specific blocks h
known (lines.SecurityOut client protocol sp_specific payload) rest h = security_out_known rest client protocol sp_specific payload h
known (lines.Identify client) rest h = identify_known rest client h
known (lines.Log client) rest h = log_known rest client h
known (lines.Reset client kind) rest h = reset_line_known rest client kind h
known (lines.TperReset client) rest h = tper_known rest client h
known lines.Expect rest h = refl
