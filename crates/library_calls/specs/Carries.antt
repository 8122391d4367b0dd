-- Frames of a caller from outside (TCG Core 2.01, 3.2.3).
use Rattle.std.specs.Prelude.{◌≡◌, ℕ, ◌<◌, ◌≤◌, List, length, Result, Ok, Err}
use Rattle.compacket.specs.Frames.{reading, headers_size, Frame}
use Rattle.compacket.specs.Spelling.{frame_bytes}
use Rattle.compacket.specs.declared.error.FrameError.{FrameError}
use Rattle.compacket.specs.declared.session.Session.{Session}
use Rattle.library_calls.specs.declared.byte_calls.count.Count.{Count}
use Rattle.library_calls.specs.declared.byte_calls.error.CallError.{CallError}
use Rattle.library_calls.specs.declared.byte_calls.error.CallError.TheVariants.{Length, Malformed}
use Rattle.library_calls.specs.declared.byte_calls.frames.Carried.{Carried}
use Rattle.library_calls.specs.Counts.{refused_count}
use Rattle.library_calls.specs.Copies.{IsWrittenOut}
use Rattle.library_calls.specs.Refusals.{code_of_call, done_code}

-- the bytes of a payload that a ComPacket has room for
abbrev pub most_payload_bytes : ℕ
most_payload_bytes = 65480

-- The frame of the payload is told, where there is one.
pub record FramedAs (com_id : ℕ) (session : Session) (payload old new : List ℕ)
    (count : Count) : Type 0 where
  pub framed : 0 < length payload → length payload ≤ most_payload_bytes
      → IsWrittenOut (frame_bytes com_id session payload) old new count
  pub empty : length payload ≡ 0 → (count ≡ refused_count Length) × (new ≡ old)
  pub long : most_payload_bytes < length payload → (count ≡ refused_count Length) × (new ≡ old)

abbrev pub refused_carried : CallError → Carried
refused_carried error = record {
  code = code_of_call error;
  tsn = 0;
  hsn = 0;
  com_id = 0;
  at = 0;
  length = 0;
}

abbrev pub carried_of : Frame → Carried
carried_of frame = record {
  code = done_code;
  tsn = frame.session.tsn;
  hsn = frame.session.hsn;
  com_id = frame.com_id;
  at = headers_size;
  length = length frame.payload;
}

-- What the bytes begin with: a frame, or none.
abbrev pub OpenedBy : Result Frame FrameError → Carried → Type 0
OpenedBy (Ok frame) carried = carried ≡ carried_of frame
OpenedBy (Err error) carried = carried ≡ refused_carried Malformed

abbrev pub IsOpened : List ℕ → Carried → Type 0
IsOpened bytes carried = OpenedBy (reading bytes) carried
