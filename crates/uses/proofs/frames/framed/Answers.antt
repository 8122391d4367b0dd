use Rattle.std.proofs.Common.{◌≡◌, ◌++◌, List, ℕ, Ok, subst, sym}
use Rattle.tcg_tokens.specs.Grammar.{IsFill}
use Rattle.tcg_tokens.specs.Message.{message}
use Rattle.tcg_tokens.specs.Reading.{reading}
use Rattle.uses.proofs.frames.framed.Goals as goal

pub returns : goal.returns
returns c = (
  c.deref.result.now,
  subst (λ (xs : List ℕ). (fill : List ℕ) → IsFill fill → reading (xs ++ fill) ≡ Ok (message c.args.item.now))
      (sym c.deref.ensures.value) c.in_ok-tokens.ensures.read_again,
  c.in_ok-bytes.ensures.is_frame,
)
