use Rattle.std.proofs.Common.{rules, ◌∙◌, sym, ℕ}
use Rattle.script_lines.proofs.Numerals.{ends_early, none_in_front}
use Rattle.script_lines.proofs.number.number_up_to.Goals as goal

-- src/number.rt:10:1
pub returns-in_default-clause-exact : goal.returns-in_default-clause-exact
returns-in_default-clause-exact c =
    let p : ℕ × ℕ = (c.in-Some.number, c.in-Some.len) in
    ends_early c.args.most c.args.text.now p (sym c.number_in_front.ensures.exact ∙ c.in-Some.is) (search (rules, c.if-len-text.false))

-- src/number.rt:10:1
pub returns-in_default-2-clause-exact : goal.returns-in_default-2-clause-exact
returns-in_default-2-clause-exact c = search (rules, none_in_front)
