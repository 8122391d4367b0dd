-- A request, as a caller from outside asks it of a port.
use Rattle.std.specs.Prelude.{◌≡◌, ◌==◌, ◌||◌, ◌^◌, nat_lt, ℕ, Bool, true, false, List, [], ◌∷◌, Option, Some, None, Result, Ok, Err, if◌then◌else◌}
use Rattle.library_calls.specs.declared.byte_calls.error.CallError.{CallError}
use Rattle.library_calls.specs.declared.byte_calls.error.CallError.TheVariants.{OutOfMemory, Length, Number}
use Rattle.port_history.specs.declared.request.Request.{Request}
use Rattle.port_history.specs.declared.request.Request.TheVariants.{Read, ReadDma, Write, WriteDma, Send, Receive, Identify, Flush}
use Rattle.library_calls.specs.declared.port_calls.asked.Asked.{Asked}

-- a receive of as many blocks as a command can ask for
abbrev pub receive_request : Asked → Option Request
receive_request asked = if nat_lt asked.count (2 ^ 16)
    then Some (Receive asked.protocol asked.com_id asked.count) else None

-- those that bring no bytes
abbrev pub bare_request : Asked → Option Request
bare_request asked =
    if asked.kind == 0 then Some (Read asked.lba asked.count)
    else (if asked.kind == 2 then Some (ReadDma asked.lba asked.count)
    else (if asked.kind == 4 then Some Identify
    else (if asked.kind == 6 then Some Flush
    else (if asked.kind == 8 then receive_request asked else None))))

-- those that bring bytes
abbrev pub is_laden : ℕ → Bool
is_laden kind = kind == 1 || kind == 3 || kind == 7

abbrev pub laden_request : Asked → List ℕ → Request
laden_request asked bytes =
    if asked.kind == 1 then Write asked.lba bytes
    else (if asked.kind == 3 then WriteDma asked.lba bytes
    else Send asked.protocol asked.com_id bytes)

abbrev pub request_or : Option Request → Bool → Request → List ℕ → Result Request CallError
request_or (Some bare) brings laden [] = Ok bare
request_or (Some bare) brings laden (byte ∷ bytes) = Err Length
request_or None true laden bytes = Ok laden
request_or None false laden bytes = Err Number

-- The request of these numbers and bytes, or what is wrong with them.
abbrev pub request_asked : Asked → List ℕ → Result Request CallError
request_asked asked bytes =
    request_or (bare_request asked) (is_laden asked.kind) (laden_request asked bytes) bytes

-- It was made; or told what is wrong, and want of memory where nothing is.
abbrev pub IsAskedAs : Result Request CallError → Result Request CallError → Type 0
IsAskedAs wanted (Ok request) = wanted ≡ Ok request
IsAskedAs (Ok request) (Err error) = error ≡ OutOfMemory
IsAskedAs (Err fault) (Err error) = error ≡ fault
