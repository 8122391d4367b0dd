-- The pages of the logs that tell of the device (ACS-3, annex on logs).
use Rattle.std.specs.Prelude.{ℕ, ◌+◌, ◌*◌, ◌==◌, List, [], ◌∷◌, ◌++◌, replicate, if◌then◌else◌}
use Rattle.std.specs.Int.{w64, to_le_bytes}
use Rattle.std.specs.List.{flat_map}
use Rattle.sp_cells.specs.Config.{Config}
use Rattle.trusted_cmds.specs.declared.log_pages.LogPages.{LogPages}
use Rattle.trusted_cmds.specs.declared.log_pages.LogPages.TheVariants.{Directory, IdentifyData}
use Rattle.device_data.specs.declared.settings.Settings.{Settings}
use Rattle.device_data.specs.ErrorLog.{sized}
use Rattle.device_data.specs.Identity.{identity_of, run_from}

-- how many bytes a page has
abbrev pub page_length : ℕ
page_length = 512

-- The directory has a word for each log, which says how many pages it has: word 0 its own version, 1; the log at address
-- 10h has one page, the log at address 30h nine.
abbrev pub directory_head : List ℕ
directory_head = 1 ∷ replicate 31 0 ++ 1 ∷ replicate 63 0 ++ 9 ∷ []

-- The head of a page of IDENTIFY DEVICE data: it is valid (bit 63), its number, and revision 1.
abbrev pub page_head : ℕ → List ℕ
page_head page = to_le_bytes w64 (0x8000000000000001 + 0x10000 * page)

-- Page 00h, the list of pages: revision 1; then how many pages are listed, and their numbers, 00h, 01h and 06h.
abbrev pub page_list_head : List ℕ
page_list_head = to_le_bytes w64 1 ++ 3 ∷ 0 ∷ 1 ∷ 6 ∷ []

-- Page 06h, on security: its bytes 40 to 47 say that trusted computing is told (bit 63) and supported (bit 0).
abbrev pub security_head : List ℕ
security_head = page_head 6 ++ replicate 32 0 ++ to_le_bytes w64 0x8000000000000001

-- Page 01h is a copy of IDENTIFY DEVICE data. A page that is not listed has its head alone.
abbrev pub identify_page : Config → Settings → ℕ → List ℕ
identify_page config settings page =
    if page == 0 then sized page_length page_list_head
    else (if page == 1 then identity_of config settings
    else (if page == 6 then sized page_length security_head
    else sized page_length (page_head page)))

-- The pages one after the other.
abbrev pub device_log : Config → Settings → LogPages → List ℕ
device_log config settings Directory = sized page_length directory_head
device_log config settings (IdentifyData first count) =
    flat_map (identify_page config settings) (run_from first count)
