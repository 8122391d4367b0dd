-- A value change dump (IEEE 1364-2005, section 18.2): declarations of signals, their values at time 0, and behind each
-- further time the values that changed.
use Rattle.std.specs.Prelude.{ℕ, zero, suc, ◌+◌, ◌/◌, ◌%◌, ◌==◌, nat_lt, List, [], ◌∷◌, ◌++◌, codes, decimal, if◌then◌else◌}
use Rattle.std.specs.Int.{bit_at}

-- the code that names the signal of a place: two characters of printable ASCII (18.2.2, identifier_code)
abbrev pub wire_code : ℕ → List ℕ
wire_code place = (33 + (place / 94) % 94) ∷ (33 + place % 94) ∷ []

-- a bit of a value, as a digit; a value has 64 bits
abbrev pub digit_of : ℕ → ℕ → ℕ
digit_of value bit = if nat_lt bit 64 then 48 + bit_at value bit else 48

-- the lowest so many bits of a value in binary, the highest first (18.2.1)
unfoldable pub binary : ℕ → ℕ → List ℕ
binary zero value = []
binary (suc bits) value = digit_of value bits ∷ binary bits value

-- `$var wire 32 !! PxCI $end`
unfoldable pub declared_wire : ℕ → ℕ → List ℕ
declared_wire place bits = codes "$var wire " ++ decimal bits ++ codes " " ++ wire_code place

unfoldable pub declaration : ℕ → ℕ → List ℕ → List ℕ
declaration place bits name =
    declared_wire place bits ++ codes " " ++ name ++ codes " $end\n"

-- Around the declarations: one time unit is written as a nanosecond, and all signals are of one module.
unfoldable pub preamble : List ℕ
preamble = codes "$timescale 1 ns $end\n$scope module opalport $end\n"

unfoldable pub definitions_end : List ℕ
definitions_end = codes "$upscope $end\n$enddefinitions $end\n"

-- Around the values at time 0.
unfoldable pub values_begin : List ℕ
values_begin = codes "#0\n$dumpvars\n"

unfoldable pub values_end : List ℕ
values_end = codes "$end\n"

-- `1!!` of a signal of one bit, `b101 !!` of any other
unfoldable pub scalar : ℕ → ℕ → List ℕ
scalar place value = binary 1 value ++ wire_code place ++ 10 ∷ []

unfoldable pub vector : ℕ → ℕ → ℕ → List ℕ
vector place bits value =
    codes "b" ++ binary bits value ++ codes " " ++ wire_code place ++ 10 ∷ []

abbrev pub wire_value : ℕ → ℕ → ℕ → List ℕ
wire_value place bits value =
    if bits == 1 then scalar place value else vector place bits value

-- the value of a signal, where it is another than before
abbrev pub changed_value : ℕ → ℕ → ℕ → ℕ → List ℕ
changed_value place bits before value =
    if before == value then [] else wire_value place bits value

-- `#12`
unfoldable pub time_text : ℕ → List ℕ
time_text time = codes "#" ++ decimal time ++ 10 ∷ []
