-- The values that a TPer tells of itself by Properties (TCG Core 2.01, section 5.2.2; Opal SSC 2.01, section 4.1.1.1).
use Rattle.std.specs.Prelude.{ℕ, ◌+◌, ◌-◌, ◌==◌, nat_le, nat_lt, Bool, false, ◌&&◌, List, [], ◌∷◌, ◌++◌, length, take, drop, replicate, codes, Option, None, Some, if◌then◌else◌}
use Rattle.std.specs.Int.{w64, to_be_bytes, from_be_bytes}
use Rattle.std.specs.Str.{bytes_eq}
use Rattle.sp_cells.specs.Names.{session_manager, properties}
use Rattle.judged.specs.SessionNumbers.{token_size, packet_told}
use Rattle.judged.specs.declared.properties.Property.{Property}
use Rattle.judged.specs.declared.properties.Property.TheVariants.{MaxMethods, MaxSubpackets, MaxPacketSize, MaxPackets, MaxComPacketSize, MaxIndTokenSize, MaxResponseComPacketSize, MaxSessions, MaxAuthentications, MaxTransactionLimit, DefSessionTimeout}
use Rattle.judged.specs.declared.received.Received.{Received}

abbrev pub property_name : Property → List ℕ
property_name MaxMethods = codes "MaxMethods"
property_name MaxSubpackets = codes "MaxSubpackets"
property_name MaxPacketSize = codes "MaxPacketSize"
property_name MaxPackets = codes "MaxPackets"
property_name MaxComPacketSize = codes "MaxComPacketSize"
property_name MaxIndTokenSize = codes "MaxIndTokenSize"
property_name MaxResponseComPacketSize = codes "MaxResponseComPacketSize"
property_name MaxSessions = codes "MaxSessions"
property_name MaxAuthentications = codes "MaxAuthentications"
property_name MaxTransactionLimit = codes "MaxTransactionLimit"
property_name DefSessionTimeout = codes "DefSessionTimeout"

-- The least value that the TPer of an Opal drive owes (Opal SSC 2.01, section 4.1.1.1). After which time a session ends, if it does, is
-- the vendor's.
abbrev pub least_value : Property → ℕ
least_value MaxMethods = 1
least_value MaxSubpackets = 1
least_value MaxPacketSize = 2028
least_value MaxPackets = 1
least_value MaxComPacketSize = 2048
least_value MaxIndTokenSize = 1992
least_value MaxResponseComPacketSize = 2048
least_value MaxSessions = 1
least_value MaxAuthentications = 2
least_value MaxTransactionLimit = 1
least_value DefSessionTimeout = 0

-- in the order in which the model tells them; a drive of some profiles tells the first six alone
abbrev pub all_properties : List Property
all_properties = MaxMethods ∷ MaxSubpackets ∷ MaxPacketSize ∷ MaxPackets ∷ MaxComPacketSize
    ∷ MaxIndTokenSize ∷ MaxResponseComPacketSize ∷ MaxSessions ∷ MaxAuthentications
    ∷ MaxTransactionLimit ∷ DefSessionTimeout ∷ []

-- bytes in a token: a short atom has fewer than 16, and a medium one says how many there are in a byte more (Core 2.01, section
-- 3.2.2.3.1)
abbrev pub bytes_token : List ℕ → List ℕ
bytes_token bytes =
    if nat_lt (length bytes) 16 then (0xa0 + length bytes) ∷ bytes
    else 0xd0 ∷ length bytes ∷ bytes

-- what stands in front of a property's value: a named value begins, and its name
abbrev pub property_front : Property → List ℕ
property_front property = 0xf2 ∷ bytes_token (property_name property)

-- A number of so many bytes, eight at most, the highest first.
abbrev pub bytes_number : List ℕ → Option ℕ
bytes_number bytes =
    if nat_le 1 (length bytes) && nat_le (length bytes) 8
    then Some (from_be_bytes w64 (replicate (8 - length bytes) 0 ++ bytes)) else None

-- a number in one token: a tiny atom, which is the number, or a short one, whose first byte says how many follow
abbrev pub value_of : List ℕ → Option ℕ
value_of [] = None
value_of (first ∷ []) = if nat_lt first 64 then Some first else None
value_of (first ∷ b ∷ bytes) =
    if first == 0x80 + length (b ∷ bytes) then bytes_number (b ∷ bytes) else None

abbrev pub is_at_least : ℕ → Option ℕ → Bool
is_at_least least None = false
is_at_least least (Some value) = nat_le least value

-- what stands behind the front of a property; its value's token; and what stands behind that
abbrev pub behind_front : Property → List ℕ → List ℕ
behind_front property tokens = drop (length (property_front property)) tokens

abbrev pub value_token : Property → List ℕ → List ℕ
value_token property tokens =
    take (token_size (behind_front property tokens)) (behind_front property tokens)

abbrev pub behind_value : Property → List ℕ → List ℕ
behind_value property tokens =
    drop (token_size (behind_front property tokens)) (behind_front property tokens)

-- tokens begin with a property, or with others
abbrev pub begins_with : List ℕ → List ℕ → Bool
begins_with front tokens = bytes_eq (take (length front) tokens) front

abbrev pub tells : Property → List ℕ → Bool
tells property tokens = begins_with (property_front property) tokens

-- a named value ends behind its value
abbrev pub named_end : List ℕ
named_end = 0xf3 ∷ []

-- tokens begin with a property, whose value is a number that an Opal drive may tell
abbrev pub may_be_told : Property → List ℕ → Bool
may_be_told property tokens = tells property tokens
    && is_at_least (least_value property) (value_of (value_token property tokens))
    && begins_with named_end (behind_value property tokens)

abbrev pub behind_property : Property → List ℕ → List ℕ
behind_property property tokens = drop 1 (behind_value property tokens)

-- Tokens tell those of some properties that others tell, with values of their own, and behind them the same.
abbrev pub differs_in_values : List Property → List ℕ → List ℕ → Bool
differs_in_values [] heard wanted = bytes_eq heard wanted
differs_in_values (property ∷ left) heard wanted =
    if tells property wanted
    then may_be_told property heard && differs_in_values left (behind_property property heard)
    (behind_property property wanted)
    else differs_in_values left heard wanted

unfoldable pub differs_in_properties : List ℕ → List ℕ → Bool
differs_in_properties heard wanted = differs_in_values all_properties heard wanted

-- An answer to Properties begins with a call of the session manager's method, and with the list of its properties (section 5.2.2.2).
abbrev pub answer_front : List ℕ
answer_front = 0xf8 ∷ 0xa8 ∷ (to_be_bytes w64 session_manager.0
    ++ (0xa8 ∷ (to_be_bytes w64 properties.0 ++ 0xf0 ∷ 0xf0 ∷ [])))

abbrev pub tells_properties : List ℕ → Bool
tells_properties payload = begins_with answer_front payload

abbrev pub behind_answer_front : List ℕ → List ℕ
behind_answer_front payload = drop 21 payload

-- Two that were received are answers to Properties that differ in these values alone: in their tokens, and in the lengths that count
-- them.
abbrev pub differs_in_answer : Received → Received → Bool
differs_in_answer heard wanted = heard.com_id == wanted.com_id
    && heard.session.tsn == wanted.session.tsn && heard.session.hsn == wanted.session.hsn
    && tells_properties heard.payload && tells_properties wanted.payload
    && differs_in_properties (behind_answer_front heard.payload)
    (behind_answer_front wanted.payload)

abbrev pub differ_in_answers : Option Received → Option Received → Bool
differ_in_answers (Some heard) (Some wanted) = differs_in_answer heard wanted
differ_in_answers (Some heard) None = false
differ_in_answers None wanted = false

abbrev pub differs_by_properties : List ℕ → List ℕ → Bool
differs_by_properties heard wanted = differ_in_answers (packet_told heard) (packet_told wanted)
