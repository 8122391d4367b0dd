-- Log page 10h: how a queued command failed (ACS-3, NCQ Command Error log).
use Rattle.std.specs.Prelude.{ℕ, ◌+◌, ◌-◌, ◌/◌, ◌%◌, ◌^◌, List, [], ◌∷◌, ◌++◌, length, take, replicate, Option, Some, None, unwrap_or}
use Rattle.fis.specs.declared.h2d.RegH2d.{RegH2d}
use Rattle.device_data.specs.Identity.{low_first}
use Rattle.device_data.specs.Checksums.{with_sum}
use Rattle.device_data.specs.declared.log_page.Failure.{Failure}

-- The failure of the command that a FIS carried: its tag where it is queued, the error, and fields
-- of the FIS.
abbrev pub failure_by : Option ℕ → ℕ → RegH2d → Failure
failure_by tag error h =
    record { tag = tag; error = error; lba = h.lba; device = h.device; count = h.count }

-- Bytes with zeros behind them up to a length, or cut at it.
abbrev pub sized : ℕ → List ℕ → List ℕ
sized n content = take n content ++ replicate (n - length content) 0

abbrev pub lba_bytes : ℕ → ℕ → List ℕ
lba_bytes lba first =
    lba / 2 ^ first % 256 ∷ lba / 2 ^ (first + 8) % 256 ∷ lba / 2 ^ (first + 16) % 256 ∷ []

-- Byte 0 has the tag, or bit 7 where no queued command failed; then the status 51h and the error,
-- the fields of the FIS. Without a failure that bit stands alone.
abbrev pub page_head : Option Failure → List ℕ
page_head None = 0x80 ∷ []
page_head (Some failure) =
    unwrap_or failure.tag 0x80 ∷ 0 ∷ 0x51 ∷ failure.error ∷ lba_bytes failure.lba 0
    ++ failure.device ∷ lba_bytes failure.lba 24 ++ 0 ∷ low_first failure.count

-- The last byte makes the sum of all a multiple of 256.
abbrev pub error_log : Option Failure → List ℕ
error_log failure = with_sum (sized 511 (page_head failure))
