use Rattle.std.proofs.Common.{sym, ◌∙◌, length}
use Rattle.std.proofs.lemmas.Result.{err_from_is_err_and}
use Rattle.tcg_tokens.proofs.Skips.{goes_on, token_fails, value_fails, ends, runs_out}
use Rattle.tcg_tokens.specs.Gives.{rest_of}
use Rattle.tcg_tokens.specs.Reading.{value_after_token, list_with}
use Rattle.tcg_tokens.specs.Lexeme.{seen}
use Rattle.tcg_tokens.proofs.skip.+skip.Goals as goal

pub skip_values-returns-in_err-token : goal.skip_values-returns-in_err-token
skip_values-returns-in_err-token t c =
    let p = err_from_is_err_and c.from_residual.result c.from_residual.ensures.1 in
    rw (p.1, p.2) (token_fails (value_after_token c.args.room) (length c.args.bytes.now) c.loop.counter c.loop.rest.now (rest_of (list_with (value_after_token c.args.room) c.args.bytes.now)) c.in_err-token.field-0.0 c.loop-test.true c.in_err-token.ensures c.loop.invariant)

pub skip_values-returns-then-is_end : goal.skip_values-returns-then-is_end
skip_values-returns-then-is_end t c =
    ends (value_after_token c.args.room) (length c.args.bytes.now) c.loop.counter c.loop.rest.now (rest_of (list_with (value_after_token c.args.room) c.args.bytes.now)) (seen c.in_ok-token.token) c.in_ok-token.after.now c.loop-test.true c.in_ok-token.ensures (sym c.is_end.ensures ∙ c.if-is_end.true) c.loop.invariant

pub skip_values-returns-in_err-rest : goal.skip_values-returns-in_err-rest
skip_values-returns-in_err-rest t c =
    let p = err_from_is_err_and c.from_residual-in_err-rest.result c.from_residual-in_err-rest.ensures.1 in
    rw (p.1, p.2) (value_fails (value_after_token c.args.room) (length c.args.bytes.now) c.loop.counter c.loop.rest.now (rest_of (list_with (value_after_token c.args.room) c.args.bytes.now)) c.in_err-rest.field-0.0 (seen c.in_ok-token.token) c.in_ok-token.after.now c.loop-test.true c.in_ok-token.ensures (sym c.is_end.ensures ∙ c.if-is_end.false) c.in_err-rest.ensures c.loop.invariant)

pub skip_values-loop-preserved : goal.skip_values-loop-preserved
skip_values-loop-preserved t c =
    goes_on (value_after_token c.args.room) (length c.args.bytes.now) c.loop.counter c.loop.rest.now (rest_of (list_with (value_after_token c.args.room) c.args.bytes.now)) (seen c.in_ok-token.token) c.in_ok-token.after.now c.in_ok-rest.rest.now c.loop-test.true c.in_ok-token.ensures (sym c.is_end.ensures ∙ c.if-is_end.false) c.in_ok-rest.ensures c.loop.invariant

pub skip_values-returns : goal.skip_values-returns
skip_values-returns t c = runs_out (value_after_token c.args.room) (length c.args.bytes.now) c.loop.counter c.loop.rest.now (rest_of (list_with (value_after_token c.args.room) c.args.bytes.now)) c.loop-test.false c.loop.invariant
