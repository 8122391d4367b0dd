use Rattle.std.proofs.Common.{rules, ◌≡◌, ◌==◌, ℕ, None, IfOk, OnOk, sym, subst, ◌∙◌}
use Rattle.tcg_tokens.specs.Message.{message}
use Rattle.sessions.specs.declared.opening.StartVerdict.{StartVerdict}
use Rattle.sessions.specs.Live.{session_at}
use Rattle.sessions.specs.Starts.{opening_verdict, reply_to, denied_by, rule_of, stored_by, begun_by, next_by}
use Rattle.sessions.specs.Answers.{rows_in_force}
use Rattle.sessions.proofs.StartLemmas.{free_left, room_left}
use Rattle.sessions.proofs.live.Sessions.start_with.Goals as goal

pub carry_out-requires-clause-room : goal.carry_out-requires-clause-room
carry_out-requires-clause-room c =
    let came : c.verdict-verdict.result ≡ opening_verdict c.args.store.now c.args.self.now c.args.opening.now = search rules in
    λ sp is. room_left (rows_in_force c.args.store.now) c.args.self.now c.args.opening.now sp None (sym is ∙ came)

pub carry_out-requires-clause-free : goal.carry_out-requires-clause-free
carry_out-requires-clause-free c =
    let came : c.verdict-verdict.result ≡ opening_verdict c.args.store.now c.args.self.now c.args.opening.now = search rules in
    λ sp is. free_left (rows_in_force c.args.store.now) c.args.self.now c.args.opening.now sp None (sym is ∙ came)

pub returns-clause-reply : goal.returns-clause-reply
returns-clause-reply c =
    let came : c.verdict-verdict.result ≡ opening_verdict c.args.store.now c.args.self.now c.args.opening.now = search rules in
    subst (λ (v : StartVerdict). IfOk c.carry_out.result (λ r. message r.reply ≡ reply_to c.args.host c.args.self.now.next v)) came c.carry_out.ensures.reply

pub returns-clause-denied : goal.returns-clause-denied
returns-clause-denied c =
    let came : c.verdict-verdict.result ≡ opening_verdict c.args.store.now c.args.self.now c.args.opening.now = search rules in
    subst (λ (v : StartVerdict). IfOk c.carry_out.result (λ r. r.denied ≡ denied_by c.args.opening.now.authority v)) came c.carry_out.ensures.denied

pub returns-clause-rule : goal.returns-clause-rule
returns-clause-rule c =
    let came : c.verdict-verdict.result ≡ opening_verdict c.args.store.now c.args.self.now c.args.opening.now = search rules in
    subst (λ (v : StartVerdict). IfOk c.carry_out.result (λ r. r.rule ≡ rule_of v)) came c.carry_out.ensures.rule

pub returns-clause-store : goal.returns-clause-store
returns-clause-store c =
    let came : c.verdict-verdict.result ≡ opening_verdict c.args.store.now c.args.self.now c.args.opening.now = search rules in
    subst (λ (v : StartVerdict). OnOk c.carry_out.result (c.carry_out.new.store ≡ stored_by c.args.opening.now.authority v c.args.store.now)) came c.carry_out.ensures.store

pub returns-clause-points : goal.returns-clause-points
returns-clause-points c =
    let came : c.verdict-verdict.result ≡ opening_verdict c.args.store.now c.args.self.now c.args.opening.now = search rules in
    let by_verdict = λ (v : StartVerdict).
    OnOk c.carry_out.result ((n : ℕ) → session_at c.carry_out.new.self n ≡ begun_by (rows_in_force c.args.store.now) c.args.com_id c.args.opening.now v (c.args.self.now.next == n) (session_at c.args.self.now n)) in
    subst by_verdict came c.carry_out.ensures.points

pub returns-clause-next : goal.returns-clause-next
returns-clause-next c =
    let came : c.verdict-verdict.result ≡ opening_verdict c.args.store.now c.args.self.now c.args.opening.now = search rules in
    subst (λ (v : StartVerdict). OnOk c.carry_out.result (c.carry_out.new.self.next ≡ next_by v c.args.self.now.next)) came c.carry_out.ensures.next
