use Rattle.std.proofs.Common.{arith, ◌∙◌}
use Rattle.std.proofs.lemmas.List.{length-set}
use Rattle.hex.specs.Hex.{lower_digits}
use Rattle.hex.proofs.Pairs.{encode_step, encode_done}
use Rattle.basics.proofs.text.spell_hex.Goals as goal

pub loop-i-preserved : goal.loop-i-preserved
loop-i-preserved c =
    let long = c.loop-i.invariant.long in
    record {
      long = length-set _ _ _ ∙ length-set _ _ _ ∙ long;
      spelt = encode_step lower_digits c.args.bytes.now c.loop-i.room c.loop-i.i _ _ (omega arith) (omega (arith, long)) c.digit.ensures c.digit-in-loop-i.ensures c.loop-i.invariant.spelt;
    }

pub returns : goal.returns
returns c =
    encode_done lower_digits c.args.bytes.now c.loop-i.room c.loop-i.i (omega arith) c.loop-i.invariant.long c.loop-i.invariant.spelt
