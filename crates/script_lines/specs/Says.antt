-- The words of a good line: its name, and then one word for each thing that it says.
use Rattle.std.specs.Prelude.{◌≡◌, ◌<◌, ◌≤◌, ◌/◌, ◌%◌, ⊤, ℕ, Bool, true, false, List, [], ◌∷◌, ◌++◌, length, replicate, codes, decimal, Some}
use Rattle.hex.specs.Hex.{hex_digit_value}
use Rattle.compacket.specs.declared.session.Session.{Session}
use Rattle.locking.specs.declared.range.RangeRow.{RangeRow}
use Rattle.script_lines.specs.Fields.{most_of}
use Rattle.script_lines.specs.declared.field.Field.{Field}
use Rattle.script_lines.specs.declared.field.Field.TheVariants as fields
use Rattle.script_lines.specs.declared.verb.Verb.{Verb}
use Rattle.script_lines.specs.declared.verb.Verb.TheVariants as verbs
use Rattle.script_lines.specs.declared.line.Transfer.{Transfer}
use Rattle.script_lines.specs.declared.line.DmaTransfer.{DmaTransfer}
use Rattle.script_lines.specs.declared.line.Reset.{Reset}
use Rattle.script_lines.specs.declared.line.Reset.TheVariants as resets
use Rattle.script_lines.specs.declared.line.Line.{Line}
use Rattle.script_lines.specs.declared.line.Line.TheVariants as lines

-- a word writes a number: the number as it is printed, behind so many zeros
abbrev pub WritesNumber : ℕ → List ℕ → Type 0
WritesNumber number word = (zeros : ℕ) × (word ≡ replicate zeros 48 ++ decimal number)

-- two digits write a byte, in either case, the high one first
pub record WritesByte (byte high low : ℕ) : Type 0 where
  pub high_is : hex_digit_value high ≡ Some (byte / 16)
  pub low_is : hex_digit_value low ≡ Some (byte % 16)

-- a word writes bytes: two digits for each, one byte after the other
abbrev pub WritesBytes : List ℕ → List ℕ → Type 0
WritesBytes [] word = word ≡ []
WritesBytes (byte ∷ bytes) word =
    (high low : ℕ) × (rest : List ℕ) × (word ≡ high ∷ low ∷ rest) × WritesByte byte high low
    × WritesBytes bytes rest

-- the name that stands for a verb
abbrev pub verb_name : Verb → List ℕ
verb_name verbs.Range = codes "range"
verb_name verbs.Read = codes "read"
verb_name verbs.Write = codes "write"
verb_name verbs.ReadDma = codes "dread"
verb_name verbs.WriteDma = codes "dwrite"
verb_name verbs.Call = codes "call"
verb_name verbs.Send = codes "send"
verb_name verbs.Receive = codes "recv"
verb_name verbs.SecurityIn = codes "secin"
verb_name verbs.SecurityOut = codes "secout"
verb_name verbs.Identify = codes "identify"
verb_name verbs.Log = codes "log"
verb_name verbs.Reset = codes "reset"
verb_name verbs.TperReset = codes "tper"
verb_name verbs.Expect = codes "expect"

-- what one word says: a verb by its name, or a number, a byte or some bytes, each of a field
pub data SaidWord : Type 0 where
  Name : Verb → SaidWord
  Number : Field → ℕ → SaidWord
  Byte : Field → ℕ → SaidWord
  Bytes : Field → List ℕ → SaidWord

-- a word writes it, and the field holds it
abbrev pub WritesWord : SaidWord → List ℕ → Type 0
WritesWord (Name verb) word = word ≡ verb_name verb
WritesWord (Number field number) word = WritesNumber number word × (number ≤ most_of field)
WritesWord (Byte field byte) word = WritesBytes (byte ∷ []) word
WritesWord (Bytes field bytes) word =
    WritesBytes bytes word × (0 < length bytes) × (length bytes ≤ most_of field)

-- as many words as items, and each writes its item
abbrev pub WriteEach : List SaidWord → List (List ℕ) → Type 0
WriteEach [] [] = ⊤
WriteEach [] (word ∷ words) = ⊥
WriteEach (item ∷ items) [] = ⊥
WriteEach (item ∷ items) (word ∷ words) = WritesWord item word × WriteEach items words

-- 1 for yes
abbrev pub flag_number : Bool → ℕ
flag_number false = 0
flag_number true = 1

abbrev pub range_items : RangeRow → List SaidWord
range_items row =
    Number fields.Range row.range
    ∷ Number fields.Start row.start
    ∷ Number fields.Length row.length
    ∷ Number fields.ReadLockEnabled (flag_number row.read_enabled)
    ∷ Number fields.WriteLockEnabled (flag_number row.write_enabled)
    ∷ Number fields.ReadLocked (flag_number row.read_locked)
    ∷ Number fields.WriteLocked (flag_number row.write_locked)
    ∷ []

-- client, tag, first sector and count, and what else
abbrev pub transfer_items : Transfer → List SaidWord → List SaidWord
transfer_items t more =
    Number fields.Client t.client ∷ Number fields.Tag t.tag ∷ Number fields.Address t.lba
    ∷ Number fields.Count t.count ∷ more

abbrev pub dma_items : DmaTransfer → List SaidWord → List SaidWord
dma_items t more =
    Number fields.Client t.client ∷ Number fields.DmaAddress t.lba ∷ Number fields.DmaCount t.count
    ∷ more

-- a client and a ComID, and what else
abbrev pub com_items : ℕ → ℕ → List SaidWord → List SaidWord
com_items client com_id more = Number fields.Client client ∷ Number fields.ComId com_id ∷ more

abbrev pub call_items : Session → List ℕ → List SaidWord
call_items session tokens =
    Number fields.TperSession session.tsn ∷ Number fields.HostSession session.hsn
    ∷ Bytes fields.Tokens tokens ∷ []

-- a client, a security protocol and its SP Specific field, and what else
abbrev pub security_items : ℕ → ℕ → ℕ → SaidWord → List SaidWord
security_items client protocol sp_specific more =
    Number fields.Client client ∷ Number fields.Protocol protocol
    ∷ Number fields.SpSpecific sp_specific
    ∷ more
    ∷ []

abbrev pub reset_number : Reset → ℕ
reset_number resets.Power = 0
reset_number resets.Hardware = 1

-- the first word is a name, and the others write these items
abbrev pub Are : List ℕ → List SaidWord → List (List ℕ) → Type 0
Are name items words = (others : List (List ℕ)) × (words ≡ name ∷ others) × WriteEach items others

-- these words say a line; behind `expect` any words may stand
abbrev pub Says : Line → List (List ℕ) → Type 0
Says (lines.Range row) words = Are (codes "range") (range_items row) words
Says (lines.Read t) words = Are (codes "read") (transfer_items t []) words
Says (lines.Write t byte) words =
    Are (codes "write") (transfer_items t (Byte fields.Byte byte ∷ [])) words
Says (lines.ReadDma t) words = Are (codes "dread") (dma_items t []) words
Says (lines.WriteDma t byte) words =
    Are (codes "dwrite") (dma_items t (Byte fields.DmaByte byte ∷ [])) words
Says (lines.Call client com_id session tokens) words =
    Are (codes "call") (com_items client com_id (call_items session tokens)) words
Says (lines.Send client com_id packet) words =
    Are (codes "send") (com_items client com_id (Bytes fields.ComPacket packet ∷ [])) words
Says (lines.Receive client com_id blocks) words =
    Are (codes "recv") (com_items client com_id (Number fields.Blocks blocks ∷ [])) words
Says (lines.SecurityIn client protocol sp_specific blocks) words =
    Are (codes "secin")
    (security_items client protocol sp_specific (Number fields.SecurityBlocks blocks)) words
Says (lines.SecurityOut client protocol sp_specific payload) words =
    Are (codes "secout")
    (security_items client protocol sp_specific (Bytes fields.SecurityBytes payload)) words
Says (lines.Identify client) words = Are (codes "identify") (Number fields.Client client ∷ []) words
Says (lines.Log client) words = Are (codes "log") (Number fields.Client client ∷ []) words
Says (lines.Reset client kind) words =
    Are (codes "reset") (Number fields.Client client ∷ Number fields.ResetKind (reset_number kind)
    ∷ []) words
Says (lines.TperReset client) words = Are (codes "tper") (Number fields.Client client ∷ []) words
Says lines.Expect words = (others : List (List ℕ)) × (words ≡ codes "expect" ∷ others)
