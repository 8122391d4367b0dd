use Rattle.std.proofs.Common.{rules, refl, ◌≡◌, ◌+◌, ◌<◌, ◌≤◌, ℕ, length, true, false, slice_get, slice_index_or, Some, arith}
use Rattle.std.proofs.lemmas.Bool.{false≢true}
use Rattle.port_history.specs.declared.step.Entry.{Entry}
use Rattle.locked_port.specs.Counts.{is_client}
use Rattle.locked_port.proofs.Clients.{marked_more, not_client, all_marked, not_marked}
use Rattle.locked_port.proofs.receipts.are_marked.Goals.{else-is_client_at-via-then-is_client_at+else-not-marks-k, else-is_client_at-via-else-is_client_at}
use Rattle.locked_port.proofs.receipts.are_marked.Goals as goal

pub returns-then-not-marks-k : goal.returns-then-not-marks-k
returns-then-not-marks-k c =
    let history = c.args.history.now.items in
    let marks = c.args.marks.now in
    let first = c.args.first in
    let k = c.loop-k.k in
    let in_marks : k < length marks = search rules in
    let in_history : first + k < length history = search rules in
    let unmarked : slice_index_or marks k false ≡ false = search rules in
    (λ none. absurd (false≢true none), λ all. not_marked history first k marks c.is_client_at.result c.is_client_at.ensures c.if-is_client_at.true in_history in_marks unmarked all)

pub loop-k-preserved : goal.loop-k-preserved
loop-k-preserved c =
    let history = c.args.history.now.items in
    let marks = c.args.marks.now in
    let first = c.args.first in
    let k = c.loop-k.k in
    let here : (e : Entry) → slice_get history (first + k) ≡ Some e → is_client e.step ≡ true → slice_index_or marks k false ≡ true = elim c.else-is_client_at.branch [
      | else-is_client_at-via-then-is_client_at+else-not-marks-k w ↦ let marked : slice_index_or marks k false ≡ true = search rules in λ e there client. marked
      | else-is_client_at-via-else-is_client_at w ↦ λ e there client. not_client history (first + k) e c.is_client_at.result (slice_index_or marks k false) c.is_client_at.ensures w.if-is_client_at.false there client
    ] in
    marked_more history first k marks c.loop-k.invariant here

pub returns : goal.returns
returns c =
    let enough : (j : ℕ) → j < length c.args.marks.now → c.args.first + j < length c.args.history.now.items → j < c.loop-k.k = search rules in
    (λ _. all_marked c.args.history.now.items c.args.first c.loop-k.k c.args.marks.now enough c.loop-k.invariant, λ _. refl)
