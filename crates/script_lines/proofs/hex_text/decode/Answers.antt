-- Each byte is that of its two digits.
use Rattle.std.proofs.Common.{◌*◌, ◌+◌, arith, refl, sym, ◌∙◌}
use Rattle.std.proofs.lemmas.List.{length-set}
use Rattle.hex.proofs.HexLemmas.{decode_of-even}
use Rattle.hex.proofs.Pairs.{decode_step, decode_done, decode_start}
use Rattle.script_lines.proofs.Digits.{digit_at}
use Rattle.script_lines.proofs.hex_text.decode.Goals as goal

pub loop-i-init : goal.loop-i-init
loop-i-init c = record {
  long = refl;
  decoded = decode_start c.args.digits.now c.args.room.now;
}

pub byte_of-requires-clause-high : goal.byte_of-requires-clause-high
byte_of-requires-clause-high c =
    let long = c.loop-i.invariant.long in
    digit_at c.args.digits.now c.requires.digits (2 * c.loop-i.i) (omega (arith, long, c.requires.room))

pub byte_of-requires-clause-low : goal.byte_of-requires-clause-low
byte_of-requires-clause-low c =
    let long = c.loop-i.invariant.long in
    digit_at c.args.digits.now c.requires.digits (2 * c.loop-i.i + 1) (omega (arith, long, c.requires.room))

pub loop-i-preserved : goal.loop-i-preserved
loop-i-preserved c =
    let long = c.loop-i.invariant.long in
    record {
      long = length-set _ _ _ ∙ long;
      decoded = decode_step c.args.digits.now c.loop-i.room c.loop-i.i _ (omega (arith, long, c.requires.room)) (omega (arith, long)) (c.byte_of.ensures (2 * c.loop-i.i)) c.loop-i.invariant.decoded;
    }

pub returns : goal.returns
returns c =
    let long = c.loop-i.invariant.long in
    decode_of-even c.args.digits.now (omega (arith, c.requires.room))
    ∙ decode_done c.args.digits.now c.loop-i.room c.loop-i.i (omega (arith, long)) (omega (arith, long, c.requires.room)) c.loop-i.invariant.decoded
