-- The new vector was empty before the frame was added.
use Rattle.std.proofs.Common.{◌≡◌}
use Rattle.compacket.specs.Spelling.{frame_bytes}
use Rattle.compacket.proofs.writer.frame.Goals as goal

pub returns-clause-is_frame : goal.returns-clause-is_frame
returns-clause-is_frame c =
    let bytes : c.frame_into.new.out.items ≡ frame_bytes c.args.com_id c.args.session c.args.payload.now =
    rw c.in_ok-out.ensures.items at c.frame_into.ensures.items in
    λ rest. rw bytes (c.frame_into.ensures.is_frame rest)

pub returns-clause-opens : goal.returns-clause-opens
returns-clause-opens c =
    let bytes : c.frame_into.new.out.items ≡ frame_bytes c.args.com_id c.args.session c.args.payload.now =
    rw c.in_ok-out.ensures.items at c.frame_into.ensures.items in
    λ rest. rw bytes (c.frame_into.ensures.opens rest)
