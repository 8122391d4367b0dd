-- Where the acts of a line come from.
use Rattle.std.specs.Prelude.{ℕ}
use Rattle.script_lines.specs.declared.line.Line as told
use Rattle.script_lines.specs.declared.line.Line.TheVariants as lines
use Rattle.reasons.specs.declared.explained.onset.Source.{Source}

-- the client of a line; 0 where it asks for nothing
abbrev pub asking_client : told.Line → ℕ
asking_client (lines.Range row) = 0
asking_client (lines.Read transfer) = transfer.client
asking_client (lines.Write transfer byte) = transfer.client
asking_client (lines.ReadDma transfer) = transfer.client
asking_client (lines.WriteDma transfer byte) = transfer.client
asking_client (lines.Call client com_id session tokens) = client
asking_client (lines.Send client com_id packet) = client
asking_client (lines.Receive client com_id blocks) = client
asking_client (lines.SecurityIn client protocol sp_specific blocks) = client
asking_client (lines.SecurityOut client protocol sp_specific payload) = client
asking_client (lines.Identify client) = client
asking_client (lines.Log client) = client
asking_client (lines.Reset client kind) = client
asking_client (lines.TperReset client) = client
asking_client lines.Expect = 0

-- the line of this number, and its client
abbrev pub source_of : ℕ → told.Line → Source
source_of number line = record { line = number; client = asking_client line }
