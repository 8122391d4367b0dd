-- What a line asks for: a verb, and the numbers that it wants.
use Rattle.std.specs.Prelude.{ℕ, List, codes, Option, Some, None, Result, Ok, Err, if◌then◌else◌}
use Rattle.std.specs.Str.{bytes_eq}
use Rattle.hba_program.specs.Digits.{hex_number}
use Rattle.hba_program.specs.Words.{front_word, behind_word}
use Rattle.hba_program.specs.declared.hba_lines.request.Request.{Request}
use Rattle.hba_program.specs.declared.hba_lines.request.Request.TheVariants as asks
use Rattle.hba_program.specs.declared.hba_lines.request.RequestFault.{RequestFault}
use Rattle.hba_program.specs.declared.hba_lines.request.RequestFault.TheVariants as faults

-- a number of 32 bits
abbrev pub word_number : List ℕ → Option ℕ
word_number text = hex_number 8 text

-- what one number gives, or the fault
abbrev pub by_number : RequestFault → (ℕ → Request) → Option ℕ → Result Request RequestFault
by_number fault request None = Err fault
by_number fault request (Some n) = Ok (request n)

-- a verb that stands alone
abbrev pub alone : Request → Option (List ℕ) → Result Request RequestFault
alone request None = Ok request
alone request (Some text) = Err faults.NotAlone

-- OFFSET behind `r`
abbrev pub read_in : Option (List ℕ) → Result Request RequestFault
read_in None = Err faults.Read
read_in (Some text) = by_number faults.Read asks.Read (word_number text)

-- OFFSET VALUE behind `w`
abbrev pub by_numbers : Option ℕ → Option ℕ → Result Request RequestFault
by_numbers None value = Err faults.Write
by_numbers (Some offset) value = by_number faults.Write (asks.Write offset) value

abbrev pub value_in : List ℕ → Option (List ℕ) → Result Request RequestFault
value_in offset None = Err faults.Write
value_in offset (Some value) = by_numbers (word_number offset) (word_number value)

abbrev pub write_in : Option (List ℕ) → Result Request RequestFault
write_in None = Err faults.Write
write_in (Some text) = value_in (front_word text) (behind_word text)

-- N behind `turn`, or nothing, which is 0
abbrev pub turn_in : Option (List ℕ) → Result Request RequestFault
turn_in None = Ok (asks.Turn 0)
turn_in (Some text) = by_number faults.Turn asks.Turn (word_number text)

-- LBA behind `sector`, of 48 bits
abbrev pub sector_in : Option (List ℕ) → Result Request RequestFault
sector_in None = Err faults.Sector
sector_in (Some text) = by_number faults.Sector asks.Sector (hex_number 12 text)

-- by the verb
abbrev pub request_by : List ℕ → Option (List ℕ) → Result Request RequestFault
request_by verb rest =
    if bytes_eq verb (codes "r") then read_in rest
    else if bytes_eq verb (codes "w") then write_in rest
    else if bytes_eq verb (codes "turn") then turn_in rest
    else if bytes_eq verb (codes "run") then alone asks.Run rest
    else if bytes_eq verb (codes "irq") then alone asks.Interrupt rest
    else if bytes_eq verb (codes "why") then alone asks.Why rest
    else if bytes_eq verb (codes "power") then alone asks.PowerCycle rest
    else if bytes_eq verb (codes "sector") then sector_in rest
    else Err faults.UnknownVerb

-- what a line asks for, or what is wrong with it
abbrev pub host_request : List ℕ → Result Request RequestFault
host_request line = request_by (front_word line) (behind_word line)

-- what is told of a line that is no request
abbrev pub request_fault_text : RequestFault → List ℕ
request_fault_text faults.UnknownVerb =
    codes "the first word is none of r, w, turn, run, irq, why, power and sector"
request_fault_text faults.NotAlone = codes "words stand behind a request that stands alone"
request_fault_text faults.Read = codes "r OFFSET: an offset is 1 to 8 hex digits"
request_fault_text faults.Write = codes "w OFFSET VALUE: each is 1 to 8 hex digits"
request_fault_text faults.Turn = codes "turn or turn N: a number is 1 to 8 hex digits"
request_fault_text faults.Sector = codes "sector LBA: an address is 1 to 12 hex digits"
