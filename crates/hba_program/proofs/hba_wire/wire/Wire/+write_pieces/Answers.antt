use Rattle.std.proofs.Common.{rules}
use Rattle.hba_program.proofs.hba_wire.Pieces.{write_then, write_else}
use Rattle.hba_program.proofs.hba_wire.wire.Wire.+write_pieces.Goals as goal

pub returns-then-write_piece-clause-comes : goal.returns-then-write_piece-clause-comes
returns-then-write_piece-clause-comes g t c = λ fine.
    let second = c.write_pieces.ensures.comes fine in
    let first = c.write_piece.ensures.comes second.0 in (
      first.0,
      write_then g.R.Read.remaining g.W.Write.contents c.args.at _ c.args.bytes.now _ _ c.args.self.now c.write_piece.new.self
          c.write_pieces.new.self c.write_piece.result c.write_pieces.result (search rules) (search rules) (search rules) (search rules) (search rules)
          first.1 second.1,
    )

pub returns-else-write_piece-clause-comes : goal.returns-else-write_piece-clause-comes
returns-else-write_piece-clause-comes g t c = λ fine.
    let first = c.write_piece.ensures.comes fine in (
      first.0,
      write_else g.R.Read.remaining g.W.Write.contents c.args.at c.args.bytes.now _ c.args.self.now c.write_piece.new.self
          c.write_piece.result (search rules) (search rules) (search rules) first.1,
    )
