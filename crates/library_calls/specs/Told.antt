-- Bytes as text, and text as bytes.
use Rattle.std.specs.Prelude.{◌≡◌, ◌⊎◌, ℕ, ◌==◌, List, if◌then◌else◌, Option, Some, None}
use Rattle.decoded.specs.Faults.{BytesFault}
use Rattle.decoded.specs.Decodings.{kind_fault, kind_lines}
use Rattle.decoded.specs.declared.kind.Kind.{Kind}
use Rattle.decoded.specs.declared.kind.Kind.TheVariants.{Level0, ComPacket, Fis, Identify, LogDirectory, QueuedError, DataPage}
use Rattle.library_calls.specs.declared.byte_calls.count.Count.{Count}
use Rattle.library_calls.specs.declared.byte_calls.error.CallError.TheVariants.{Number, Malformed, OutOfMemory}
use Rattle.script_lines.specs.Said.{named_line_said}
use Rattle.script_lines.specs.declared.named_lines.line.NamedLine.{NamedLine}
use Rattle.library_calls.specs.Counts.{refused_count}
use Rattle.library_calls.specs.Copies.{IsCopied, IsWrittenOut}

-- The tokens of the call that a line writes by name are told, where it writes one.
abbrev pub NamedOf : Option NamedLine → List ℕ → List ℕ → Count → Type 0
NamedOf None old new count = (count ≡ refused_count Malformed) × (new ≡ old)
NamedOf (Some line) old new count = IsCopied line.tokens old new count

abbrev pub NamedAs : List ℕ → List ℕ → List ℕ → Count → Type 0
NamedAs text old new count = NamedOf (named_line_said text) old new count
    ⊎ ((count ≡ refused_count OutOfMemory) × (new ≡ old))

-- what bytes are, by its number
abbrev pub kind_numbered : ℕ → Option Kind
kind_numbered number =
    if number == 0 then Some Level0
    else (if number == 1 then Some ComPacket
    else (if number == 2 then Some Fis
    else (if number == 3 then Some Identify
    else (if number == 4 then Some LogDirectory
    else (if number == 5 then Some QueuedError
    else (if number == 6 then Some DataPage else None))))))

-- The lines of the bytes are told, where they are bytes of this kind.
abbrev pub DecodedOf : Option BytesFault → Kind → List ℕ → List ℕ → List ℕ → Count → Type 0
DecodedOf (Some fault) kind bytes old new count =
    (count ≡ refused_count Malformed) × (new ≡ old)
DecodedOf None kind bytes old new count = IsWrittenOut (kind_lines kind bytes) old new count

abbrev pub DecodedBy : Option Kind → List ℕ → List ℕ → List ℕ → Count → Type 0
DecodedBy None bytes old new count = (count ≡ refused_count Number) × (new ≡ old)
DecodedBy (Some kind) bytes old new count =
    DecodedOf (kind_fault kind bytes) kind bytes old new count

abbrev pub DecodedAs : ℕ → List ℕ → List ℕ → List ℕ → Count → Type 0
DecodedAs kind bytes old new count = DecodedBy (kind_numbered kind) bytes old new count
