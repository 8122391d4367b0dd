-- Worked rows of the numbers of sessions: a packet has 32 bits for each (TCG Core, packet header), so FFFFFFFFh is the last.
use Rattle.std.proofs.Common.{◌≡◌, true, false, refl}
use Rattle.sessions.specs.Live.{Live}
use Rattle.sessions.specs.Starts.{is_full}

row_last : (live : Live) → is_full (record live { next = 0xffffffff }) ≡ false
row_last live = refl

row_none : (live : Live) → is_full (record live { next = 0x100000000 }) ≡ true
row_none live = refl
