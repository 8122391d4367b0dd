use Rattle.std.proofs.Common.{◌≡◌, ◌<◌, ◌≤◌, ◌+◌, ℕ, length, slice_index_or}
use Rattle.locked_port.specs.Receipts.{HasOwnNumber, AreThere, AreOnly}
use Rattle.locked_port.specs.declared.ticket.Receipt.{Receipt}
use Rattle.locked_port.proofs.receipts.mark.Given as goal

abbrev pub invariant-loop-at : goal.invariant-loop-at
invariant-loop-at l = record {
  size : length l.marks ≡ length l.fn.marks;
  there : AreThere l.first l.receipts l.at l.marks;
  only : AreOnly l.first l.receipts l.at l.marks;
  apart : (j : ℕ) (d : Receipt) → j < l.at → l.first < (slice_index_or l.receipts j d).number
      → (slice_index_or l.receipts j d).number ≤ l.first + length l.marks → HasOwnNumber l.receipts j;
}
