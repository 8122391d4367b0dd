use Rattle.std.proofs.Common.{◌≡◌, ◌∙◌, List, ℕ, [], ◌∷◌, ◌++◌, ap, rules}
use Rattle.device_data.specs.Checksums.{with_sum}
use Rattle.device_data.specs.Identity.{opal_words, has_checksum}
use Rattle.device_data.proofs.identify.opal_identity.Goals as goal

pub returns : goal.returns
returns c =
    let words : List ℕ = opal_words c.args.config.now c.args.settings.now in
    let begun : c.in_ok-bytes.bytes.items ≡ words = search rules in
    let checked : c.push.new.self.items ≡ c.in_ok-bytes.bytes.items ++ has_checksum ∷ [] = search rules in
    let summed : c.push-2.new.self.items ≡ with_sum c.push.new.self.items = search rules in
    summed ∙ ap with_sum (checked ∙ ap (λ items. items ++ has_checksum ∷ []) begun)
