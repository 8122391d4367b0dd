use Rattle.std.proofs.Common.{◌∙◌, ◌++◌, ◌+◌, ℕ, List, ap, codes}
use Rattle.reasons.specs.Reasons.{worded_number}
use Rattle.reasons.specs.Asked.{host_text}
use Rattle.reasons.proofs.asked.long_words.Goals as goal

pub returns : goal.returns
returns c =
    let words = codes "the response would have " in
    c.in_ok-append_host.ensures
    ∙ ap (λ (l : List ℕ). l ++ host_text c.args.profile c.args.room)
    (c.in_ok-extend_from_slice.ensures.items
    ∙ ap (λ (l : List ℕ). l ++ codes " bytes of tokens")
    (c.in_ok-append_number.ensures
    ∙ ap (λ (l : List ℕ). l ++ worded_number words (c.args.count + (c.bytes_ahead.result + 8))) c.new-words.ensures.items
    ∙ ap (λ (n : ℕ). worded_number words (c.args.count + (n + 8))) c.bytes_ahead.ensures))
