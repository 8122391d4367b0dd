use Rattle.std.proofs.Common.{rules, ◌≡◌, ◌≤◌, ◌+◌, ◌*◌, length, true, IsTrue, arith}
use Rattle.locked_port.specs.Receipts.{AreApartIn, AreNamedIn}
use Rattle.locked_port.proofs.Windows.{window_more, all_windows}
use Rattle.locked_port.proofs.receipts.are_matched.Goals as goal

pub loop-window-preserved : goal.loop-window-preserved
loop-window-preserved c =
    let first = 65536 * c.loop-window.window in
    let both : AreApartIn first 65536 c.args.receipts.now × AreNamedIn first 65536 c.args.history.now.items c.args.receipts.now = search rules in
    window_more first 65536 _ c.args.history.now.items c.args.receipts.now (omega arith) c.loop-window.invariant both.0 both.1

pub returns-clause-apart : goal.returns-clause-apart
returns-clause-apart c =
    λ _. (all_windows (65536 * c.loop-window.window) c.args.history.now.items c.args.receipts.now (omega (arith, c.loop-window-test.false)) c.loop-window.invariant).0

pub returns-clause-named : goal.returns-clause-named
returns-clause-named c =
    λ _. (all_windows (65536 * c.loop-window.window) c.args.history.now.items c.args.receipts.now (omega (arith, c.loop-window-test.false)) c.loop-window.invariant).1
