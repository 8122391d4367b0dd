use Rattle.std.proofs.Common.{◌≡◌, ◌∙◌, ℕ, ◌+◌, ◌-◌, ◌<◌, ◌≤◌, List, [], ◌∷◌, ◌++◌, refl, sym, ap, add-one, append_assoc, append-nil, arith}
use Rattle.drawing.specs.Dumps.{digit_of, binary}
use Rattle.drawing.proofs.waveform.text.append_binary.Goals as goal

one_more : (value n m : ℕ) → n ≡ m + 1 → binary n value ≡ digit_of value m ∷ binary m value
unfolding binary
one_more value n m is = ap (λ k. binary k value) (is ∙ add-one m) ∙ refl

digit_on : (whole before new : List ℕ) (bits passed value digit : ℕ) → passed < bits
    → whole ≡ before ++ binary (bits - passed) value → digit ≡ digit_of value (bits - 1 - passed)
    → new ≡ before ++ digit ∷ [] → whole ≡ new ++ binary (bits - (passed + 1)) value
digit_on whole before new bits passed value digit below so is pushed =
    so
    ∙ ap (λ t. before ++ t) (one_more value (bits - passed) (bits - (passed + 1)) (omega arith))
    ∙ ap (λ d. before ++ d ∷ binary (bits - (passed + 1)) value)
    (ap (digit_of value) (omega arith) ∙ sym is)
    ∙ sym (append_assoc before (digit ∷ []) (binary (bits - (passed + 1)) value))
    ∙ ap (λ t. t ++ binary (bits - (passed + 1)) value) (sym pushed)

all_told : (whole now : List ℕ) (bits passed value : ℕ) → bits ≤ passed
    → whole ≡ now ++ binary (bits - passed) value → now ≡ whole
unfolding binary
all_told whole now bits passed value all so =
    let none : bits - passed ≡ 0 = omega arith in
    sym (so ∙ ap (λ n. now ++ binary n value) none ∙ append-nil now)

pub loop-passed-preserved : goal.loop-passed-preserved
loop-passed-preserved c =
    digit_on _ c.loop-passed.text.items c.push.new.self.items c.args.bits c.loop-passed.passed c.args.value
    c.digit_of.result c.loop-passed-test.true c.loop-passed.invariant c.digit_of.ensures c.in_ok-push.ensures.items

pub returns : goal.returns
returns c =
    all_told _ c.loop-passed.text.items c.args.bits c.loop-passed.passed c.args.value
    c.loop-passed-test.false c.loop-passed.invariant
