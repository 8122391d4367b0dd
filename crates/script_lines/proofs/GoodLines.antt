-- A text says a line exactly where its words are those of the line.
use Rattle.std.proofs.Common.{◌≡◌, ℕ, List, [], ◌∷◌, sym, ap, ◌∙◌, Option, Some, None, Ok}
use Rattle.std.specs.Prelude.{codes}
use Rattle.script_lines.specs.Words.{first_word, after_word}
use Rattle.script_lines.specs.Verbs.{verb_of}
use Rattle.script_lines.specs.Fields.{or_fault, ◌>>=◌}
use Rattle.script_lines.specs.Lines.{verb_line, line_said}
use Rattle.script_lines.specs.Spellings.{IsMadeOfWords}
use Rattle.script_lines.specs.Says.{verb_name, Number, Byte, Bytes, range_items, transfer_items, dma_items, com_items, call_items, security_items, reset_number, Says}
use Rattle.script_lines.specs.Laws.{GoodLineLaw}
use Rattle.script_lines.specs.declared.fault.LineFault.TheVariants.{UnknownWord}
use Rattle.script_lines.specs.declared.field.Field.TheVariants as fields
use Rattle.script_lines.specs.declared.verb.Verb.{Verb}
use Rattle.script_lines.specs.declared.line.Line.{Line}
use Rattle.script_lines.specs.declared.line.Line.TheVariants as lines
use Rattle.script_lines.proofs.VerbNames.{is_name, name_is, no_name}
use Rattle.script_lines.proofs.SpellingLaws.{first_is, after_is, none_first}
use Rattle.script_lines.proofs.ItemWords.{named, name_first, name_then}
use Rattle.script_lines.proofs.ReadLines.{bind_ok, ReadBy, verb_of_line, back, known}

known_verb : (v : Option Verb) (verb : Verb) → or_fault UnknownWord v ≡ Ok verb → v ≡ Some verb
known_verb None verb h = cc h
known_verb (Some v) verb h = let same : v ≡ verb = cc in ap Some same

-- from the words that were read
says : (line : Line) (w : List ℕ) (ws : List (List ℕ)) (rest : List ℕ) → w ≡ verb_name (verb_of_line line) → IsMadeOfWords ws rest → ReadBy line rest
    → Says line (w ∷ ws)
says (lines.Range row) w ws rest is s h = named (codes "range") (range_items row) w ws rest is s h
says (lines.Read t) w ws rest is s h = named (codes "read") (transfer_items t []) w ws rest is s h
says (lines.Write t byte) w ws rest is s h = named (codes "write") (transfer_items t (Byte fields.Byte byte ∷ [])) w ws rest is s h
says (lines.ReadDma t) w ws rest is s h = named (codes "dread") (dma_items t []) w ws rest is s h
says (lines.WriteDma t byte) w ws rest is s h = named (codes "dwrite") (dma_items t (Byte fields.DmaByte byte ∷ [])) w ws rest is s h
says (lines.Call client com_id session tokens) w ws rest is s h =
    named (codes "call") (com_items client com_id (call_items session tokens)) w ws rest is s h
says (lines.Send client com_id packet) w ws rest is s h =
    named (codes "send") (com_items client com_id (Bytes fields.ComPacket packet ∷ [])) w ws rest is s h
says (lines.Receive client com_id blocks) w ws rest is s h =
    named (codes "recv") (com_items client com_id (Number fields.Blocks blocks ∷ [])) w ws rest is s h
says (lines.SecurityIn client protocol sp_specific blocks) w ws rest is s h =
    named (codes "secin") (security_items client protocol sp_specific (Number fields.SecurityBlocks blocks)) w ws rest is s h
says (lines.SecurityOut client protocol sp_specific payload) w ws rest is s h =
    named (codes "secout") (security_items client protocol sp_specific (Bytes fields.SecurityBytes payload)) w ws rest is s h
says (lines.Identify client) w ws rest is s h = named (codes "identify") (Number fields.Client client ∷ []) w ws rest is s h
says (lines.Log client) w ws rest is s h = named (codes "log") (Number fields.Client client ∷ []) w ws rest is s h
says (lines.Reset client kind) w ws rest is s h =
    named (codes "reset") (Number fields.Client client ∷ Number fields.ResetKind (reset_number kind) ∷ []) w ws rest is s h
says (lines.TperReset client) w ws rest is s h = named (codes "tper") (Number fields.Client client ∷ []) w ws rest is s h
says lines.Expect w ws rest is s h = (ws, ap (λ x. x ∷ ws) is)

split : (line : Line) (ws : List (List ℕ)) (text : List ℕ) → IsMadeOfWords ws text → first_word text ≡ verb_name (verb_of_line line) → ReadBy line (after_word text)
    → Says line ws
split line [] text s name h = absurd (no_name (verb_of_line line) (sym (none_first text s) ∙ name))
split line (w ∷ ws) text s name h =
    let rest = after_is text w s.0 s.1 in
    says line w ws s.0 (sym (first_is text w s.0 s.1) ∙ name) s.2 (rw rest at h)

says_back : (text : List ℕ) (ws : List (List ℕ)) (line : Line) → IsMadeOfWords ws text → line_said text ≡ Ok line → Says line ws
says_back text ws line s h =
    let a = bind_ok (or_fault UnknownWord (verb_of (first_word text))) _ line h in
    let verb = known_verb (verb_of (first_word text)) a.0 a.1 in
    let b = back a.0 (after_word text) line a.2 in
    split line ws text s (name_is (first_word text) a.0 verb ∙ ap verb_name b.0) b.1

-- from the words that a line has
read : (line : Line) (ws : List (List ℕ)) (text : List ℕ) → IsMadeOfWords ws text → Says line ws
    → (first_word text ≡ verb_name (verb_of_line line)) × ReadBy line (after_word text)
read (lines.Range row) ws text s h = name_then (codes "range") (range_items row) ws text s h
read (lines.Read t) ws text s h = name_then (codes "read") (transfer_items t []) ws text s h
read (lines.Write t byte) ws text s h = name_then (codes "write") (transfer_items t (Byte fields.Byte byte ∷ [])) ws text s h
read (lines.ReadDma t) ws text s h = name_then (codes "dread") (dma_items t []) ws text s h
read (lines.WriteDma t byte) ws text s h = name_then (codes "dwrite") (dma_items t (Byte fields.DmaByte byte ∷ [])) ws text s h
read (lines.Call client com_id session tokens) ws text s h =
    name_then (codes "call") (com_items client com_id (call_items session tokens)) ws text s h
read (lines.Send client com_id packet) ws text s h =
    name_then (codes "send") (com_items client com_id (Bytes fields.ComPacket packet ∷ [])) ws text s h
read (lines.Receive client com_id blocks) ws text s h =
    name_then (codes "recv") (com_items client com_id (Number fields.Blocks blocks ∷ [])) ws text s h
read (lines.SecurityIn client protocol sp_specific blocks) ws text s h =
    name_then (codes "secin") (security_items client protocol sp_specific (Number fields.SecurityBlocks blocks)) ws text s h
read (lines.SecurityOut client protocol sp_specific payload) ws text s h =
    name_then (codes "secout") (security_items client protocol sp_specific (Bytes fields.SecurityBytes payload)) ws text s h
read (lines.Identify client) ws text s h = name_then (codes "identify") (Number fields.Client client ∷ []) ws text s h
read (lines.Log client) ws text s h = name_then (codes "log") (Number fields.Client client ∷ []) ws text s h
read (lines.Reset client kind) ws text s h =
    name_then (codes "reset") (Number fields.Client client ∷ Number fields.ResetKind (reset_number kind) ∷ []) ws text s h
read (lines.TperReset client) ws text s h = name_then (codes "tper") (Number fields.Client client ∷ []) ws text s h
read lines.Expect ws text s h = ((name_first (codes "expect") h.0 ws text s h.1).0, tt)

says_known : (text : List ℕ) (ws : List (List ℕ)) (line : Line) → IsMadeOfWords ws text → Says line ws → line_said text ≡ Ok line
says_known text ws line s h =
    let r = read line ws text s h in
    ap (λ (w : List ℕ). or_fault UnknownWord (verb_of w) >>= λ verb. verb_line verb (after_word text)) r.0
    ∙ ap (λ (v : Option Verb). or_fault UnknownWord v >>= λ verb. verb_line verb (after_word text)) (is_name (verb_of_line line))
    ∙ known line (after_word text) r.1

pub good_line_law : GoodLineLaw
good_line_law text ws line s = (says_back text ws line s, says_known text ws line s)
