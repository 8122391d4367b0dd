-- What the log page of a failed queue says.
use Rattle.std.proofs.Common.{◌≡◌, ℕ, slice_index, Option, Some, refl, ap}
use Rattle.std.specs.Prelude.{unwrap_or}
use Rattle.device_data.specs.ErrorLog.{error_log}
use Rattle.device_data.specs.declared.log_page.Failure.{Failure}

-- Byte 0 is the tag.
pub page_tag : (f : Failure) (tag : ℕ) → f.tag ≡ Some tag
    → slice_index (error_log (Some f)) 0 ≡ tag
page_tag f tag names = ap (λ (x : Option ℕ). unwrap_or x 0x80) names

-- Byte 2 is the status.
pub page_status : (f : Failure) → slice_index (error_log (Some f)) 2 ≡ 0x51
page_status f = refl

-- Byte 3 is the error.
pub page_error : (f : Failure) → slice_index (error_log (Some f)) 3 ≡ f.error
page_error f = refl
