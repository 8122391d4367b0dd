-- The three headers are 56 bytes.
use Rattle.compacket.proofs.Places.{stands_at}
use Rattle.compacket.proofs.reader.open.Goals as goal

pub returns-clause-place : goal.returns-clause-place
returns-clause-place c =
    stands_at c.args.bytes.now _ (record {
      packet = c.in_ok-content.content.now;
      subpacket = c.in_ok-data.data.now;
      is_com_packet = c.in_ok-content.ensures.found;
      is_packet = c.in_ok-data.ensures.found;
      is_subpacket = c.in_ok-payload.ensures.found;
    })
