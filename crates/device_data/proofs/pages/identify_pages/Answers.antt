use Rattle.std.proofs.Common.{◌≡◌, ◌∙◌, ◌≤◌, ℕ, List, ◌++◌, ◌+◌, ◌-◌, sym, ap, arith, rules}
use Rattle.std.specs.List.{flat_map}
use Rattle.device_data.specs.Identity.{run_from}
use Rattle.device_data.specs.DevicePages.{identify_page}
use Rattle.device_data.proofs.Runs.{flat_next_from}
use Rattle.device_data.proofs.pages.identify_pages.Goals as goal

pub loop-page-preserved : goal.loop-page-preserved
loop-page-preserved c =
    let page_of : ℕ → List ℕ = identify_page c.args.config.now c.args.settings.now in
    let before : ℕ = c.loop-page.page - c.args.first in
    let later : c.loop-page.page + 1 - c.args.first ≡ before + 1 = omega (arith, c.loop-page.invariant.0) in
    let here : c.args.first + before ≡ c.loop-page.page = omega (arith, c.loop-page.invariant.0) in
    let added : c.extend_from_slice.new.self.items ≡ c.loop-page.bytes.items ++ page_of c.loop-page.page = search rules in (
      omega (arith, c.loop-page.invariant.0),
      added
          ∙ ap (λ items. items ++ page_of c.loop-page.page) c.loop-page.invariant.1
          ∙ ap (λ page. flat_map page_of (run_from c.args.first before) ++ page_of page) (sym here)
          ∙ sym (flat_next_from page_of c.args.first before)
          ∙ ap (λ n. flat_map page_of (run_from c.args.first n)) (sym later),
    )
