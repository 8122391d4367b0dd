-- Headers, payload and padding stand behind one another.
use Rattle.compacket.proofs.Appended.{appended}
use Rattle.compacket.proofs.Opening.{frame_written, frame_reads}
use Rattle.compacket.proofs.writer.frame_into.Goals as goal

pub returns-clause-items : goal.returns-clause-items
returns-clause-items c =
    appended _ _ _ _ _ _ _ c.headers_into.ensures.items c.append.ensures.items c.padding_into.ensures.items

pub returns-clause-is_frame : goal.returns-clause-is_frame
returns-clause-is_frame c =
    λ rest. frame_written c.args.com_id c.args.session c.args.payload.now rest c.ranges.com_id.fits c.headers_into.ensures.fits.0 c.headers_into.ensures.fits.1 c.requires.some c.requires.fits

pub returns-clause-opens : goal.returns-clause-opens
returns-clause-opens c =
    λ rest. frame_reads c.args.com_id c.args.session c.args.payload.now rest c.ranges.com_id.fits c.headers_into.ensures.fits.0 c.headers_into.ensures.fits.1 c.requires.some c.requires.fits
