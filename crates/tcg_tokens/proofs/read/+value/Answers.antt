use Rattle.std.proofs.Common.{◌≡◌, sym, ◌∙◌, length}
use Rattle.std.proofs.lemmas.Result.{err_from_is_err_and}
use Rattle.tcg_tokens.proofs.Loop.{told, goes_on, token_fails, value_fails, ends, runs_out}
use Rattle.tcg_tokens.proofs.Trees.{◌+++◌, trees_push}
use Rattle.tcg_tokens.specs.Tree.{tree, trees, more, empty}
use Rattle.tcg_tokens.specs.Reading.{value_after_token, list_with}
use Rattle.tcg_tokens.specs.Lex.{token_at}
use Rattle.tcg_tokens.specs.Lexeme.{seen}
use Rattle.tcg_tokens.proofs.read.+value.Goals as goal

pub values-returns-in_err-token : goal.values-returns-in_err-token
values-returns-in_err-token t c =
    let p = err_from_is_err_and c.from_residual.result c.from_residual.ensures.1 in
    rw (p.1, p.2) (token_fails (value_after_token c.args.room) (trees c.loop.items.items) (length c.args.bytes.now) c.loop.counter c.loop.rest.now (list_with (value_after_token c.args.room) c.args.bytes.now) c.in_err-token.field-0.0 c.loop-test.true (told c.in_err-token.field-0.0 (token_at c.loop.rest.now) c.in_err-token.ensures) c.loop.invariant)

pub values-returns-then-is_end : goal.values-returns-then-is_end
values-returns-then-is_end t c =
    ends (value_after_token c.args.room) (trees c.loop.items.items) (length c.args.bytes.now) c.loop.counter c.loop.rest.now (list_with (value_after_token c.args.room) c.args.bytes.now) (seen c.in_ok-token.token) c.in_ok-token.after.now c.loop-test.true c.in_ok-token.ensures (sym c.is_end.ensures ∙ c.if-is_end.true) c.loop.invariant

pub values-returns-in_err-item : goal.values-returns-in_err-item
values-returns-in_err-item t c =
    let p = err_from_is_err_and c.from_residual-in_err-item.result c.from_residual-in_err-item.ensures.1 in
    rw (p.1, p.2) (value_fails (value_after_token c.args.room) (trees c.loop.items.items) (length c.args.bytes.now) c.loop.counter c.loop.rest.now (list_with (value_after_token c.args.room) c.args.bytes.now) c.in_err-item.field-0.0 (seen c.in_ok-token.token) c.in_ok-token.after.now c.loop-test.true c.in_ok-token.ensures (sym c.is_end.ensures ∙ c.if-is_end.false) c.in_err-item.ensures c.loop.invariant)

pub values-loop-preserved : goal.values-loop-preserved
values-loop-preserved t c =
    let e : trees c.push.new.self.items ≡ trees c.loop.items.items +++ more (tree c.in_ok-item.item) empty = rw c.in_ok-push.ensures.items (trees_push c.loop.items.items c.in_ok-item.item) in
    rw e (goes_on (value_after_token c.args.room) (trees c.loop.items.items) (length c.args.bytes.now) c.loop.counter c.loop.rest.now (list_with (value_after_token c.args.room) c.args.bytes.now) (seen c.in_ok-token.token) c.in_ok-token.after.now (tree c.in_ok-item.item) c.in_ok-item.after.now c.loop-test.true c.in_ok-token.ensures (sym c.is_end.ensures ∙ c.if-is_end.false) c.in_ok-item.ensures c.loop.invariant)

pub values-returns : goal.values-returns
values-returns t c = runs_out (value_after_token c.args.room) (trees c.loop.items.items) (length c.args.bytes.now) c.loop.counter c.loop.rest.now (list_with (value_after_token c.args.room) c.args.bytes.now) c.loop-test.false c.loop.invariant
