use Rattle.std.proofs.Common.{◌∙◌, [], ◌∷◌, Ok, ap}
use Rattle.tcg_tokens.specs.Message.{reply}
use Rattle.saved.proofs.saving.save_off.Goals as goal

pub returns : goal.returns
returns c = λ off. record {
  rest = _;
  spells = c.in_ok-text.ensures ∙ ap (λ ts. Ok (reply ts (0 ∷ 0 ∷ 0 ∷ []))) c.in_ok-results.ensures.written;
  whole = record {
    bytes = c.rest-rest.ensures.bytes;
    media = c.rest-rest.ensures.media;
    sound_bytes = c.in_ok-results.ensures.bytes;
    sound_media = c.in_ok-results.ensures.media;
  };
  off = off;
  rests = c.rest-rest.ensures.rests off;
}
