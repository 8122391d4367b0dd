use Rattle.std.proofs.Common.{◌≡◌, ◌++◌}
use Rattle.locked_port.specs.Rule.{takens}
use Rattle.locked_port.proofs.tag_board.seat.TagSeat.claim.Given as goal

abbrev pub invariant-loop-number : goal.invariant-loop-number
invariant-loop-number l = record {
  board : l.self.board ≡ l.initial.self.board;
  held : l.self.held ≡ l.initial.self.held;
  tried : l.self.tried ≡ l.initial.self.tried ++ takens l.number;
}
