-- Scripts of acts in the order of time, and what is read off them.
use Rattle.std.proofs.Common.{ℕ, ◌+◌, ◌*◌, Bool, List, [], ◌∷◌, map, reverse, replicate, Option, Some, None}
use Rattle.std.specs.Prelude.{take, drop, slice_index, ◌/◌, ◌%◌}
use Rattle.std.specs.Int.{w64, to_be_bytes}
use Rattle.std.specs.List.{flat_map}
use Rattle.sp_cells.specs.Config.{Config, base_config}
use Rattle.sp_cells.specs.declared.names.Uid.{Uid as UidType}
use Rattle.sp_cells.specs.Names.{this_sp, get, set, authenticate}
use Rattle.locking.specs.declared.range.RangeRow.{RangeRow}
use Rattle.audit.specs.declared.reason.Why.{Why}
use Rattle.compacket.specs.Spelling.{frame_bytes}
use Rattle.tcg_tokens.specs.Spelling.{item_spelling_of}
use Rattle.tcg_tokens.specs.Message.{Message, call}
use Rattle.tcg_tokens.specs.Tree.{Tree, Trees, trees_of}
use Rattle.tcg_tokens.specs.Tree as tree
use Rattle.history.specs.Opening.{Origin, factory_origin, activated_origin, with_range}
use Rattle.sp_cells.specs.Names.{session_manager, start_session}
use Rattle.history.specs.Events.{Event, Deed, InSession, Left}
use Rattle.device_data.specs.ErrorLog.{sized}
use Rattle.history.specs.History.{Act, Accept, log}
use Rattle.audit.specs.declared.rules.rule.Rule.{Rule}

abbrev pub msid : List ℕ
msid = 0x4f ∷ 0x50 ∷ 0x41 ∷ 0x4c ∷ 0x4d ∷ 0x53 ∷ 0x49 ∷ 0x44 ∷ []

abbrev pub config : Config
config = base_config 1000 8 msid

abbrev pub new_drive : Origin
new_drive = factory_origin config

abbrev pub range_row : ℕ → ℕ → ℕ → Bool → Bool → Bool → Bool → RangeRow
range_row range start len re we rl wl = record { range = range; start = start; length = len; read_enabled = re; write_enabled = we; read_locked = rl; write_locked = wl }

abbrev pub activated : Origin
activated = activated_origin config

abbrev pub opened : RangeRow → Origin
opened row = with_range row activated

-- A command FIS: its code, Feature, LBA and Count.
abbrev pub fis : ℕ → ℕ → ℕ → ℕ → List ℕ
fis code feature lba count =
    0x27 ∷ 0x80 ∷ code ∷ feature ∷ lba % 256 ∷ lba / 256 % 256 ∷ lba / 65536 % 256 ∷ 0x40 ∷ 0 ∷ 0 ∷ 0 ∷ 0 ∷ count % 256 ∷ count / 256 ∷ 0 ∷ 0 ∷ 0 ∷ 0 ∷ 0 ∷ 0 ∷ []

abbrev pub dread : ℕ → ℕ → Act
dread lba count = Accept (fis 0x25 0 lba count) []

abbrev pub dwrite : ℕ → ℕ → ℕ → Act
dwrite lba count b = Accept (fis 0x35 0 lba count) (replicate (512 * count) b)

abbrev pub read_queued : ℕ → ℕ → ℕ → Act
read_queued tag lba count = Accept (fis 0x60 count lba (8 * tag)) []

abbrev pub write_queued : ℕ → ℕ → ℕ → Act
write_queued tag lba count = Accept (fis 0x61 count lba (8 * tag)) []

abbrev pub send : ℕ → ℕ → ℕ → Message → Act
send com_id tsn hsn message = Accept (fis 0x5f 1 (256 * com_id) 1) (sized 512 (frame_bytes com_id (record { tsn = tsn; hsn = hsn }) (item_spelling_of message)))

abbrev pub receive : ℕ → ℕ → Act
receive com_id blocks = Accept (fis 0x5d 1 (256 * com_id) blocks) []

-- A send and the receive of its response.
abbrev pub tell : ℕ → ℕ → ℕ → Message → List Act
tell com_id tsn hsn message = send com_id tsn hsn message ∷ receive com_id 2 ∷ []

abbrev pub call_of : UidType → UidType → List Tree → Message
call_of object method args = call (to_be_bytes w64 object.0) (to_be_bytes w64 method.0) (trees_of args) (0 ∷ 0 ∷ 0 ∷ [])

-- No object and no method has this name.
abbrev pub unknown_uid : UidType
unknown_uid = record { 0 = 7 }

abbrev pub uid_tree : UidType → Tree
uid_tree u = tree.bytes (to_be_bytes w64 u.0)

abbrev pub start_as : UidType → UidType → List ℕ → Message
start_as sp authority secret =
    call_of session_manager start_session (tree.number 1 ∷ uid_tree sp ∷ tree.number 1 ∷ tree.named (tree.number 0) (tree.bytes secret) ∷ tree.named (tree.number 3) (uid_tree authority) ∷ [])

abbrev pub start_anybody : UidType → Message
start_anybody sp = call_of session_manager start_session (tree.number 1 ∷ uid_tree sp ∷ tree.number 1 ∷ [])

-- In the session 1000h of host number 1.
abbrev pub in_it : Message → List Act
in_it message = tell 0x1000 0x1000 1 message

abbrev pub get_cells : UidType → ℕ → ℕ → Message
get_cells object first last =
    call_of object get (tree.list (trees_of (tree.named (tree.number 3) (tree.number first) ∷ tree.named (tree.number 4) (tree.number last) ∷ [])) ∷ [])

abbrev pub set_cells : UidType → List (ℕ × Tree) → Message
set_cells object cells = call_of object set (tree.named (tree.number 1) (tree.list (trees_of (map (λ p. tree.named (tree.number p.0) p.1) cells))) ∷ [])

abbrev pub try_pin : UidType → List ℕ → Message
try_pin authority secret = call_of this_sp authenticate (uid_tree authority ∷ tree.named (tree.number 0) (tree.bytes secret) ∷ [])

-- The tokens of a response: those of its frame, which has 56 bytes before them.
abbrev pub token_length : List ℕ → ℕ
token_length frame = 256 * slice_index frame 54 + slice_index frame 55

abbrev pub tokens_in : List ℕ → List ℕ
tokens_in frame = take (token_length frame) (drop 56 frame)

abbrev pub reply_in : Deed → List (List ℕ)
reply_in (InSession deed (Left com_id bytes)) = tokens_in bytes ∷ []
reply_in _ = []

-- The tokens of the responses that acts left, their reasons of denials and their errors, in the order of time.
abbrev pub replies : Origin → List Act → List (List ℕ)
replies o acts = reverse (flat_map (λ (e : Event). reply_in e.deed) (log o (reverse acts)))

abbrev pub option_list : Option Why → List Why
option_list None = []
option_list (Some why) = why ∷ []

abbrev pub whys : Origin → List Act → List Why
whys o acts = reverse (flat_map (λ (e : Event). option_list e.denied) (log o (reverse acts)))

-- and the rules that refused acts
abbrev pub rule_list : Option Rule → List Rule
rule_list None = []
rule_list (Some rule) = rule ∷ []

abbrev pub rules_met : Origin → List Act → List Rule
rules_met o acts = reverse (flat_map (λ (e : Event). rule_list e.rule) (log o (reverse acts)))

abbrev pub error_list : Option ℕ → List ℕ
error_list None = []
error_list (Some e) = e ∷ []

abbrev pub fails_with : Origin → List Act → List ℕ
fails_with o acts = reverse (flat_map (λ (e : Event). error_list e.failed) (log o (reverse acts)))

abbrev pub said : Message → List ℕ
said message = item_spelling_of message
