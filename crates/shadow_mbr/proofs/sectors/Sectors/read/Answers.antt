-- Each piece is read from one sector.
use Rattle.std.proofs.Common.{◌≡◌, ◌+◌, ◌≤◌, arith, length}
use Rattle.shadow_mbr.proofs.Pieces.{read_more, length_written}
use Rattle.shadow_mbr.proofs.sectors.Sectors.read.Goals as goal

pub loop-done-preserved : goal.loop-done-preserved
loop-done-preserved c =
    let done = c.loop-done.done in
    let len = c.piece_len-len.result in
    let piece = c.copy_from_slice.new.self in
    let size : length piece ≡ len = rw c.copy_from_slice.ensures.after c.part.ensures.len in
    let within : done + len ≤ length c.loop-done.buffer = omega (arith, c.piece_len-len.ensures.within) in
    record {
      within = rw (length_written done len c.loop-done.buffer piece size within) within;
      bytes = read_more c.args.self.now c.args.at done len c.loop-done.buffer piece c.loop-done.invariant.within size (rw c.copy_from_slice.ensures.after c.part.ensures.bytes) c.loop-done.invariant.bytes;
    }
