use Rattle.std.proofs.Common.{◌≡◌}
use Rattle.std.specs.List.{flat_map}
use Rattle.device_data.specs.Identity.{identify_word, low_first, run_from}
use Rattle.device_data.proofs.identify.identity.Given as goal

abbrev pub invariant-loop-word : goal.invariant-loop-word
invariant-loop-word l = l.bytes.items ≡ flat_map (λ word. low_first (identify_word l.sectors word)) (run_from 0 l.word)
