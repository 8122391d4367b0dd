-- The words of a good line of a port script: its name, and then one word for each thing that it says.
use Rattle.std.specs.Prelude.{◌≡◌, ℕ, List, [], ◌∷◌, codes}
use Rattle.script_lines.specs.Says.{SaidWord, Name, Number, Byte, Bytes, Are, range_items, reset_number}
use Rattle.script_lines.specs.declared.field.Field.TheVariants as fields
use Rattle.script_lines.specs.declared.verb.Verb.{Verb}
use Rattle.script_lines.specs.declared.verb.Verb.TheVariants as verbs
use Rattle.script_lines.specs.declared.port_line.PutRequest.{PutRequest}
use Rattle.script_lines.specs.declared.port_line.PutRequest.TheVariants as requests
use Rattle.script_lines.specs.declared.port_line.PortLine.{PortLine}
use Rattle.script_lines.specs.declared.port_line.PortLine.TheVariants as lines

-- which request is put
abbrev pub request_verb : PutRequest → Verb
request_verb (requests.Read lba count) = verbs.Read
request_verb (requests.Write lba count byte) = verbs.Write
request_verb (requests.ReadDma lba count) = verbs.ReadDma
request_verb (requests.WriteDma lba count byte) = verbs.WriteDma
request_verb (requests.Call com_id session tokens) = verbs.Call
request_verb (requests.Send com_id packet) = verbs.Send
request_verb (requests.Receive com_id blocks) = verbs.Receive
request_verb (requests.SecurityIn protocol sp_specific blocks) = verbs.SecurityIn
request_verb (requests.SecurityOut protocol sp_specific payload) = verbs.SecurityOut
request_verb requests.Identify = verbs.Identify

-- first sector and count, and what else
abbrev pub sector_items : ℕ → ℕ → List SaidWord → List SaidWord
sector_items lba count more = Number fields.PutAddress lba ∷ Number fields.PutCount count ∷ more

-- and what is said of it
abbrev pub request_items : PutRequest → List SaidWord
request_items (requests.Read lba count) = sector_items lba count []
request_items (requests.Write lba count byte) =
    sector_items lba count (Byte fields.PutByte byte ∷ [])
request_items (requests.ReadDma lba count) = sector_items lba count []
request_items (requests.WriteDma lba count byte) =
    sector_items lba count (Byte fields.PutByte byte ∷ [])
request_items (requests.Call com_id session tokens) =
    Number fields.PutComId com_id
    ∷ Number fields.PutTperSession session.tsn
    ∷ Number fields.PutHostSession session.hsn
    ∷ Bytes fields.PutTokens tokens
    ∷ []
request_items (requests.Send com_id packet) =
    Number fields.PutComId com_id ∷ Bytes fields.PutComPacket packet ∷ []
request_items (requests.Receive com_id blocks) =
    Number fields.PutComId com_id ∷ Number fields.PutBlocks blocks ∷ []
request_items (requests.SecurityIn protocol sp_specific blocks) =
    Number fields.PutProtocol protocol ∷ Number fields.PutSpSpecific sp_specific
    ∷ Number fields.PutSecurityBlocks blocks
    ∷ []
request_items (requests.SecurityOut protocol sp_specific payload) =
    Number fields.PutProtocol protocol ∷ Number fields.PutSpSpecific sp_specific
    ∷ Bytes fields.PutSecurityBytes payload
    ∷ []
request_items requests.Identify = []

abbrev pub put_items : ℕ → ℕ → PutRequest → List SaidWord
put_items client tag request =
    Number fields.Client client ∷ Number fields.Tag tag ∷ Name (request_verb request)
    ∷ request_items request

abbrev pub slot_items : ℕ → List SaidWord
slot_items tag = Number fields.Slot tag ∷ []

-- these words say a line; behind `expect` any words may stand
abbrev pub PortSays : PortLine → List (List ℕ) → Type 0
PortSays (lines.Range row) words = Are (codes "range") (range_items row) words
PortSays (lines.Put client tag request) words =
    Are (codes "put") (put_items client tag request) words
PortSays (lines.Issue tag) words = Are (codes "issue") (slot_items tag) words
PortSays (lines.Accept tag) words = Are (codes "accept") (slot_items tag) words
PortSays (lines.Complete tag) words = Are (codes "complete") (slot_items tag) words
PortSays lines.Recover words = Are (codes "recover") [] words
PortSays (lines.Reset client kind) words =
    Are (codes "reset") (Number fields.Client client ∷ Number fields.ResetKind (reset_number kind)
    ∷ []) words
PortSays (lines.Take client tag) words =
    Are (codes "take") (Number fields.Client client ∷ Number fields.Tag tag ∷ []) words
PortSays lines.Expect words = (others : List (List ℕ)) × (words ≡ codes "expect" ∷ others)
