use Rattle.std.proofs.Common.{◌≡◌, ◌≤◌, ◌-◌}
use Rattle.std.specs.List.{flat_map}
use Rattle.device_data.specs.Identity.{run_from}
use Rattle.device_data.specs.DevicePages.{identify_page}
use Rattle.device_data.proofs.pages.identify_pages.Given as goal

abbrev pub invariant-loop-page : goal.invariant-loop-page
invariant-loop-page l = (l.first ≤ l.page) × (l.bytes.items ≡ flat_map (identify_page l.config l.settings) (run_from l.first (l.page - l.first)))
