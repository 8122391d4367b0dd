-- The limit of answers.
use Rattle.std.specs.Prelude.{ℕ}

-- the most bytes of a response's tokens: those that a ComPacket of 65,536 bytes has room for (this drive)
abbrev pub most_response : ℕ
most_response = 65480
