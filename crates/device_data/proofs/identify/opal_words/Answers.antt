use Rattle.std.proofs.Common.{◌≡◌, ◌∙◌, ℕ, List, ◌++◌, sym, ap, arith, rules}
use Rattle.std.specs.List.{flat_map}
use Rattle.device_data.specs.Identity.{opal_word, low_first, run_from}
use Rattle.device_data.proofs.Runs.{flat_next}
use Rattle.device_data.proofs.identify.opal_words.Goals as goal

pub loop-word-preserved : goal.loop-word-preserved
loop-word-preserved c =
    let bytes_of : ℕ → List ℕ = λ word. low_first (opal_word c.args.config.now c.args.settings.now word) in
    let added : c.extend_from_slice.new.self.items ≡ c.loop-word.bytes.items ++ low_first (opal_word c.args.config.now c.args.settings.now c.loop-word.word) = search rules in
    added ∙ ap (λ items. items ++ low_first (opal_word c.args.config.now c.args.settings.now c.loop-word.word)) c.loop-word.invariant ∙ sym (flat_next bytes_of c.loop-word.word)

pub returns : goal.returns
returns c =
    let end : c.loop-word.word ≡ 255 = omega arith in
    c.loop-word.invariant ∙ ap (λ count. flat_map (λ word. low_first (opal_word c.args.config.now c.args.settings.now word)) (run_from 0 count)) end
