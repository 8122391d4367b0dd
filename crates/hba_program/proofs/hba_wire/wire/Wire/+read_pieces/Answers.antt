use Rattle.std.proofs.Common.{rules, length}
use Rattle.hba_program.proofs.hba_wire.Pieces.{read_then, read_else}
use Rattle.hba_program.proofs.hba_wire.wire.Wire.+read_pieces.Goals as goal

pub returns-then-read_piece-clause-comes : goal.returns-then-read_piece-clause-comes
returns-then-read_piece-clause-comes g t c = λ fine.
    let second = c.read_pieces.ensures.comes fine in
    let first = c.read_piece.ensures.comes second.0 in (
      first.0,
      read_then g.R.Read.remaining g.W.Write.contents c.args.at (length c.args.room.now) _ _ _ c.args.self.now c.read_piece.new.self
          c.read_pieces.new.self c.read_piece.result c.read_pieces.result c.read_piece.new.room c.read_pieces.new.room (search rules) (search rules)
          (search rules) (search rules) (search rules) first.1 second.1,
    )

pub returns-else-read_piece-clause-comes : goal.returns-else-read_piece-clause-comes
returns-else-read_piece-clause-comes g t c = λ fine.
    let first = c.read_piece.ensures.comes fine in (
      first.0,
      read_else g.R.Read.remaining g.W.Write.contents c.args.at (length c.args.room.now) _ c.args.self.now c.read_piece.new.self
          c.read_piece.result c.read_piece.new.room _ (search rules) (search rules) (search rules) first.1,
    )
