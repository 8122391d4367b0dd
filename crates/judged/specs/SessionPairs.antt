-- Sessions with two numbers: the one that the drive gave it, and the model's.
use Rattle.std.specs.Prelude.{ℕ, ◌-◌, ◌==◌, Bool, true, false, ◌&&◌, List, [], ◌∷◌, ◌++◌, length, take, drop, codes, decimal, Option, None, Some, unwrap_or, Result, Ok, Err, if◌then◌else◌}
use Rattle.std.specs.Int.{w32, to_be_bytes, from_be_bytes}
use Rattle.std.specs.Str.{bytes_eq}
use Rattle.hex.specs.Hex.{encode_lower, decode_sized}
use Rattle.hex.specs.declared.error.FromHexError.{FromHexError}
use Rattle.script_lines.specs.Numbers.{largest, number_up_to}
use Rattle.script_lines.specs.Words.{nth_word, after_word, after_words}
use Rattle.judged.specs.SessionNumbers.{received_line, packet_told}
use Rattle.judged.specs.declared.entry.Entry.{Entry}
use Rattle.judged.specs.declared.freedom.Freedom.{Freedom}
use Rattle.judged.specs.declared.freedom.Freedom.TheVariants.{ErrorBits, BlankSectors, VendorBytes, Identity, SessionNumbers, ComIds, RandomBytes, Properties}
use Rattle.judged.specs.declared.pairs.SessionPair.{SessionPair}
use Rattle.judged.specs.declared.received.Received.{Received}

-- the model's number of the session to which the drive gave a number last; any other number stands for itself
abbrev pub model_by : ℕ → ℕ → List SessionPair → ℕ
model_by number found [] = found
model_by number found (pair ∷ pairs) =
    model_by number (if pair.drive == number then pair.model else found) pairs

abbrev pub models_number : List SessionPair → ℕ → ℕ
models_number pairs number = model_by number number pairs

-- the number that the drive gave to a session of the model
abbrev pub drive_by : ℕ → ℕ → List SessionPair → ℕ
drive_by number found [] = found
drive_by number found (pair ∷ pairs) =
    drive_by number (if pair.model == number then pair.drive else found) pairs

-- The drive's number of a session. It has none any more, and 0 stands there, where the drive gave its number to another since.
abbrev pub still_given : List SessionPair → ℕ → ℕ → ℕ
still_given pairs number given = if models_number pairs given == number then given else 0

abbrev pub drives_number : List SessionPair → ℕ → ℕ
drives_number pairs number = still_given pairs number (drive_by number number pairs)

-- what must be received, where a packet names its session by this number
abbrev pub named_by_drive : ℕ → Received → Received
named_by_drive number received =
    record received { session = record received.session { tsn = number } }

abbrev pub drives_line_by : List SessionPair → List ℕ → Option Received → List ℕ
drives_line_by pairs line None = line
drives_line_by pairs line (Some received) =
    if drives_number pairs received.session.tsn == received.session.tsn then line
    else received_line (named_by_drive (drives_number pairs received.session.tsn) received)

-- a line that the model says, with the drive's number of the session
abbrev pub drives_line : List SessionPair → List ℕ → List ℕ
drives_line pairs line = drives_line_by pairs line (packet_told line)

-- the first of the lines that are said to a line is the drive's
abbrev pub drives_lines : List SessionPair → List (List ℕ) → List (List ℕ)
drives_lines pairs [] = []
drives_lines pairs (line ∷ lines) = drives_line pairs line ∷ lines

-- which word of a line, from 0, is a ComPacket that is sent
abbrev pub packet_place : List ℕ → Option ℕ
packet_place line =
    if bytes_eq (nth_word 0 line) (codes "send") then Some 3
    else if bytes_eq (nth_word 0 line) (codes "put") && bytes_eq (nth_word 3 line) (codes "send")
    then Some 5
    else if bytes_eq (nth_word 0 line) (codes "secout") && bytes_eq (nth_word 2 line) (codes "1")
    then Some 4
    else if bytes_eq (nth_word 0 line) (codes "put")
    && (bytes_eq (nth_word 3 line) (codes "secout") && bytes_eq (nth_word 4 line) (codes "1"))
    then Some 6
    else None

-- which one is the TPer's number of a session
abbrev pub number_place : List ℕ → Option ℕ
number_place line =
    if bytes_eq (nth_word 0 line) (codes "call") then Some 3
    else if bytes_eq (nth_word 0 line) (codes "put") && bytes_eq (nth_word 3 line) (codes "call")
    then Some 5
    else None

-- where the digits of the TPer's number stand in those of a ComPacket: it is bytes 20 to 23 (TCG Core 2.01, section 3.2.3)
abbrev pub tsn_place : ℕ
tsn_place = 40

abbrev pub tsn_end : ℕ
tsn_end = 48

abbrev pub number_of_bytes : Result (List ℕ) FromHexError → Option ℕ
number_of_bytes (Ok bytes) = Some (from_be_bytes w32 bytes)
number_of_bytes (Err fault) = None

abbrev pub number_sent : List ℕ → Option ℕ
number_sent word = number_of_bytes (decode_sized (take 8 (drop tsn_place word)) 4)

-- another number, where the model has one
abbrev pub other_number : List SessionPair → Option ℕ → Option ℕ
other_number pairs None = None
other_number pairs (Some number) =
    if models_number pairs number == number then None else Some (models_number pairs number)

-- the ComPacket with this number
abbrev pub packet_with : List ℕ → ℕ → List ℕ
packet_with word number =
    take tsn_place word ++ (encode_lower (to_be_bytes w32 number) ++ drop tsn_end word)

-- a line with another word in this place
abbrev pub front_size : ℕ → List ℕ → ℕ
front_size place line = length line
    - length (nth_word place line) - length (after_word (after_words place line))

abbrev pub with_word : ℕ → List ℕ → List ℕ → List ℕ
with_word place line word =
    take (front_size place line) line ++ (word ++ after_word (after_words place line))

abbrev pub with_packet : ℕ → List ℕ → Option ℕ → List ℕ
with_packet place line None = line
with_packet place line (Some number) =
    with_word place line (packet_with (nth_word place line) number)

abbrev pub with_number : ℕ → List ℕ → Option ℕ → List ℕ
with_number place line None = line
with_number place line (Some number) = with_word place line (decimal number)

abbrev pub in_number : List SessionPair → List ℕ → Option ℕ → List ℕ
in_number pairs line None = line
in_number pairs line (Some place) = with_number place line
    (other_number pairs (number_up_to (largest 32) (nth_word place line)))

abbrev pub in_packet : List SessionPair → List ℕ → Option ℕ → List ℕ
in_packet pairs line None = in_number pairs line (number_place line)
in_packet pairs line (Some place) = with_packet place line
    (other_number pairs (number_sent (nth_word place line)))

-- A line that was sent to the drive, with the model's number of the session that it names. A call by name names none.
abbrev pub models_line : List SessionPair → List ℕ → List ℕ
models_line pairs line = in_packet pairs line (packet_place line)

-- the same of a line with its answers
abbrev pub as_model : List SessionPair → Entry → Entry
as_model pairs entry = record entry { line = models_line pairs entry.line }

-- a session more
abbrev pub paired : List SessionPair → ℕ → ℕ → List SessionPair
paired pairs model drive = pairs ++ record { drive = drive; model = model } ∷ []

-- by which a drive gives a session a number of its own
abbrev pub is_of_numbers : Freedom → Bool
is_of_numbers ErrorBits = false
is_of_numbers BlankSectors = false
is_of_numbers VendorBytes = false
is_of_numbers Identity = false
is_of_numbers SessionNumbers = true
is_of_numbers ComIds = false
is_of_numbers RandomBytes = false
is_of_numbers Properties = false

-- The number that the drive gave a session: the one that it told where that is allowed, and else the model's.
abbrev pub number_given : Option Freedom → Option ℕ → ℕ → ℕ
number_given None heard model = model
number_given (Some freedom) heard model =
    if is_of_numbers freedom then unwrap_or heard model else model

-- a session more, where the model tells that one begins
abbrev pub pairs_with : List SessionPair → Option Freedom → Option ℕ → Option ℕ → List SessionPair
pairs_with pairs freedom heard None = pairs
pairs_with pairs freedom heard (Some model) =
    paired pairs model (number_given freedom heard model)
