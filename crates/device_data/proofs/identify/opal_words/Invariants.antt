use Rattle.std.proofs.Common.{◌≡◌}
use Rattle.std.specs.List.{flat_map}
use Rattle.device_data.specs.Identity.{opal_word, low_first, run_from}
use Rattle.device_data.proofs.identify.opal_words.Given as goal

abbrev pub invariant-loop-word : goal.invariant-loop-word
invariant-loop-word l = l.bytes.items ≡ flat_map (λ word. low_first (opal_word l.config l.settings word)) (run_from 0 l.word)
