use Rattle.std.proofs.Common.{◌==◌, rules}
use Rattle.std.specs.Io.Buffered.{reader_buffer, reader_capacity}
use Rattle.tool.proofs.AtHand.{taken}
use Rattle.tool.proofs.reading.take_line.Goals as goal

pub returns : goal.returns
returns g c =
    taken (reader_capacity c.args.reader.now == 0) (reader_buffer c.args.reader.now) (g.R.Read.remaining c.args.reader.now.inner) _ c.args.size _ _
    (search rules) c.requires.1.0 c.requires.1.1 (search rules) c.consume.ensures.bytes
